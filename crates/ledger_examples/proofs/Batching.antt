use Rattle.std.proofs.Common.{◌≡◌, ℕ, suc, ◌+◌, ◌<◌, ◌≤◌, Bool, true, false, cond, List, [], ◌∷◌, ◌++◌, length, take, drop, map, get_or, set, subst, Option, is_some, refl, sym, ap, ◌∙◌, arith}
use Rattle.std.specs.List.{onto_first}
use Rattle.std.proofs.lemmas.List.{drop_all, drop_more, take_more, get_or_at, set_at, length-map, length-take-le, map-append, append_assoc}
use Rattle.ledger_examples.specs.Batches.{batches_of}

module _ {Op : Type 0} where
  -- how many operations the first batch has
  abbrev pub batch_len : (Op → Option ℕ) → List Op → ℕ
  batch_len f [] = 0
  batch_len f (op ∷ ops) = cond (is_some (f op)) 1 (suc (batch_len f ops))

  -- the first batch is cut off, where its first operation is a commit or isn't
  abbrev CutBy : Bool → (Op → Option ℕ) → Op → List Op → Type 0
  CutBy b f x xs =
      (0 < cond b 1 (suc (batch_len f xs))) × (cond b 1 (suc (batch_len f xs)) ≤ suc (length xs))
      × (cond b ((x ∷ []) ∷ batches_of f xs) (onto_first x (batches_of f xs)) ≡ take (cond b 1 (suc (batch_len f xs))) (x ∷ xs) ∷ batches_of f (drop (cond b 1 (suc (batch_len f xs))) (x ∷ xs)))

  alone : (b : Bool) (f : Op → Option ℕ) (x : Op) → CutBy b f x []
  alone true f x = (omega arith, omega arith, refl)
  alone false f x = (omega arith, omega arith, refl)

  more : (b : Bool) (f : Op → Option ℕ) (x y : Op) (ys : List Op) → CutBy (is_some (f y)) f y ys → CutBy b f x (y ∷ ys)
  more true f x y ys h = (omega arith, omega arith, refl)
  more false f x y ys h = (omega arith, omega (arith, h.1), ap (onto_first x) h.2)

  cut : (f : Op → Option ℕ) (x : Op) (xs : List Op) → CutBy (is_some (f x)) f x xs
  cut f x [] = alone (is_some (f x)) f x
  cut f x (y ∷ ys) = more (is_some (f x)) f x y ys (cut f y ys)

  pub cut_first : (f : Op → Option ℕ) (ops : List Op) → 0 < length ops →
      (0 < batch_len f ops) × (batch_len f ops ≤ length ops) × (batches_of f ops ≡ take (batch_len f ops) ops ∷ batches_of f (drop (batch_len f ops) ops))
  cut_first f [] h = absurd (omega arith)
  cut_first f (x ∷ xs) h = cut f x xs

  -- the length of the first batch, where its commit was found and where there is none
  pub len_here : (f : Op → Option ℕ) (ops rest : List Op) (i : ℕ) (op : Op) → drop i ops ≡ op ∷ rest → is_some (f op) ≡ true → i + batch_len f (drop i ops) ≡ batch_len f ops → i + 1 ≡ batch_len f ops
  len_here f ops rest i op d t e =
      let one : batch_len f (drop i ops) ≡ 1 = ap (batch_len f) d ∙ ap (λ b. cond b 1 (suc (batch_len f rest))) t in
      omega (arith, one, e)

  pub len_all : (f : Op → Option ℕ) (ops : List Op) (i : ℕ) → length ops ≤ i → i + batch_len f (drop i ops) ≡ batch_len f ops → i ≡ batch_len f ops
  len_all f ops i l e =
      let none : batch_len f (drop i ops) ≡ 0 = ap (batch_len f) (drop_all i ops l) in
      omega (arith, none, e)

  -- the first batch by its length
  pub cut_by : (f : Op → Option ℕ) (ops : List Op) (n : ℕ) → 0 < length ops → n ≡ batch_len f ops → batches_of f ops ≡ take n ops ∷ batches_of f (drop n ops)
  cut_by f ops n h e = subst (λ k. batches_of f ops ≡ take k ops ∷ batches_of f (drop k ops)) (sym e) ((cut_first f ops h).2)

  -- one item more is changed
  pub map_on : (h : Op → Op) (init cur : List Op) (i : ℕ) (x : Op) → i < length init → cur ≡ map h (take i init) ++ drop i init → x ≡ get_or cur i x →
      set cur i (h x) ≡ map h (take (i + 1) init) ++ drop (i + 1) init
  map_on h init cur i x l e g =
      let y = get_or init i x in
      let first = map h (take i init) in
      let rest = drop (i + 1) init in
      let long : length first ≡ i = length-map (take i init) h ∙ length-take-le i init (omega arith) in
      let parts : cur ≡ first ++ y ∷ rest = e ∙ ap (λ z. first ++ z) (drop_more init i x l) in
      let same : x ≡ y = g ∙ (ap (λ z. get_or z i x) parts ∙ get_or_at first y rest x i long) in
      let more : map h (take (i + 1) init) ≡ first ++ h y ∷ [] = ap (map h) (take_more init i x l) ∙ map-append h (take i init) (y ∷ []) in
      ap (λ z. set z i (h x)) parts
      ∙ (set_at first y rest (h x) i long
      ∙ (ap (λ z. first ++ h z ∷ rest) same
      ∙ (sym (append_assoc first (h y ∷ []) rest) ∙ ap (λ z. z ++ rest) (sym more))))

-- Places that ascend, and the first of them.
use Rattle.std.proofs.Common.{◌≡◌, ℕ, zero, suc, ◌+◌, ◌<◌, ◌≤◌, Bool, true, false, true≢false, cond, nat_le, List, [], ◌∷◌, ◌++◌, length, take, map, filter, Option, Some, None, All, refl, sym, ap, subst, ◌∙◌, arith, append_assoc}
use Rattle.std.specs.Prelude.{is_none, nat_lt}
use Rattle.std.proofs.lemmas.List.Elements.{All-nil, All-cons, All-head, All-tail}
use Rattle.std.proofs.lemmas.Bool.Decides.{nat_tests}
use Rattle.ledger_log.specs.Index.{writes_key, place_after, last_write}
use Rattle.ledger_log.specs.Active.{counts, living, active}
use Rattle.ledger_log.proofs.Indexing.{place_in_two, last_write-append}
use Rattle.ledger_raising.specs.Raised.{first_place}

module _ {Op : Type 0} where
  -- the places ascend, from n on
  abbrev pub From : ℕ → List (ℕ × Op) → Type 0
  From n [] = Unit {0}
  From n (e ∷ es) = (n ≤ e.0) × From (e.0 + 1) es

  -- no place is below n
  abbrev pub Least : ℕ → List (ℕ × Op) → Type 0
  Least n [] = Unit {0}
  Least n (e ∷ es) = (n ≤ e.0) × Least n es

  pub from_weaker : (n m : ℕ) (es : List (ℕ × Op)) → n ≤ m → From m es → From n es
  from_weaker n m [] l h = tt
  from_weaker n m (e ∷ es) l h = (omega (arith, l, h.0), h.1)

  pub from_filter : (n : ℕ) (p : ℕ × Op → Bool) (es : List (ℕ × Op)) → From n es → From n (filter p es)
  from_filter n p [] h = tt
  from_filter n p (e ∷ es) h = by (p e) (from_filter (e.0 + 1) p es h.1) where
    by : (b : Bool) → From (e.0 + 1) (filter p es) → From n (cond b (e ∷ filter p es) (filter p es))
    by true k = (h.0, k)
    by false k = from_weaker n (e.0 + 1) (filter p es) (omega (arith, h.0)) k

  from_take : (n m : ℕ) (es : List (ℕ × Op)) → From n es → From n (take m es)
  from_take n zero es h = tt
  from_take n (suc m) [] h = tt
  from_take n (suc m) (e ∷ es) h = (h.0, from_take (e.0 + 1) m es h.1)

  pub least_from : (f n : ℕ) (es : List (ℕ × Op)) → f ≤ n → From n es → Least f es
  least_from f n [] l h = tt
  least_from f n (e ∷ es) l h = (omega (arith, l, h.0), least_from f (e.0 + 1) es (omega (arith, l, h.0)) h.1)

  none_below : (n k : ℕ) (es : List (ℕ × Op)) → n ≤ k → From k es → filter (λ e. nat_lt e.0 n) es ≡ []
  none_below n k [] l h = refl
  none_below n k (e ∷ es) l h =
      let least : k ≤ e.0 = h.0 in
      let t : nat_lt e.0 n ≡ false = grind (arith, nat_tests) in
      ap (λ b. cond b (e ∷ filter (λ e. nat_lt e.0 n) es) (filter (λ e. nat_lt e.0 n) es)) t ∙ none_below n (e.0 + 1) es (omega arith) h.1

  -- among ascending places those below n come first
  pub cut_below : (n m k : ℕ) (es : List (ℕ × Op)) → From k es → filter (λ e. nat_lt e.0 n) (take m es) ≡ take m (filter (λ e. nat_lt e.0 n) es)
  cut_below n zero k es h = refl
  cut_below n (suc m) k [] h = refl
  cut_below n (suc m) k (e ∷ es) h = by (nat_lt e.0 n) refl (cut_below n m (e.0 + 1) es h.1) where
    by : (b : Bool) → nat_lt e.0 n ≡ b → filter (λ e. nat_lt e.0 n) (take m es) ≡ take m (filter (λ e. nat_lt e.0 n) es) →
        filter (λ e. nat_lt e.0 n) (take (suc m) (e ∷ es)) ≡ take (suc m) (filter (λ e. nat_lt e.0 n) (e ∷ es))
    by true t ih =
        ap (λ b. cond b (e ∷ filter (λ e. nat_lt e.0 n) (take m es)) (filter (λ e. nat_lt e.0 n) (take m es))) t
        ∙ ap (λ l. e ∷ l) ih
        ∙ sym (ap (λ b. take (suc m) (cond b (e ∷ filter (λ e. nat_lt e.0 n) es) (filter (λ e. nat_lt e.0 n) es))) t)
    by false t ih =
        let most : n ≤ e.0 = grind (arith, nat_tests) in
        ap (λ b. cond b (e ∷ filter (λ e. nat_lt e.0 n) (take m es)) (filter (λ e. nat_lt e.0 n) (take m es))) t
        ∙ none_below n (e.0 + 1) (take m es) (omega arith) (from_take (e.0 + 1) m es h.1)
        ∙ sym (ap (λ b. take (suc m) (cond b (e ∷ filter (λ e. nat_lt e.0 n) es) (filter (λ e. nat_lt e.0 n) es))) t ∙ ap (take (suc m)) (none_below n (e.0 + 1) es (omega arith) h.1))

  -- the first of some places is the first of them all
  pub first_of_one : (d : ℕ) (es : List (ℕ × Op)) → first_place d (take 1 es) ≡ first_place d es
  first_of_one d [] = refl
  first_of_one d (e ∷ es) = refl

  all_kept : (f : ℕ) (es : List (ℕ × Op)) → Least f es → filter (λ e. nat_le f e.0) es ≡ es
  all_kept f [] h = refl
  all_kept f (e ∷ es) h =
      let least : f ≤ e.0 = h.0 in
      let t : nat_le f e.0 ≡ true = grind (arith, nat_tests) in
      ap (λ b. cond b (e ∷ filter (λ e. nat_le f e.0) es) (filter (λ e. nat_le f e.0) es)) t ∙ ap (λ l. e ∷ l) (all_kept f es h.1)

  first_is_least : (d k : ℕ) (es : List (ℕ × Op)) → From k es → Least (first_place d es) es
  first_is_least d k [] h = tt
  first_is_least d k (e ∷ es) h = (omega arith, least_from e.0 (e.0 + 1) es (omega arith) h.1)

  -- where none lies below f, none lies below the first from f on
  pub least_floor : (f d k : ℕ) (es : List (ℕ × Op)) → Least f es → From k es → Least (first_place d (filter (λ e. nat_le f e.0) es)) es
  least_floor f d k es h a = subst (λ l. Least (first_place d l) es) (sym (all_kept f es h)) (first_is_least d k es a)

  pub all_of_least : (f : ℕ) (es : List (ℕ × Op)) → Least f es → All (λ place. f ≤ place) (map (λ e. e.0) es)
  all_of_least f [] h = All-nil (λ place. f ≤ place)
  all_of_least f (e ∷ es) h = All-cons (λ place. f ≤ place) e.0 (map (λ e. e.0) es) h.0 (all_of_least f es h.1)

  pub least_of_all : (f : ℕ) (es : List (ℕ × Op)) → All (λ place. f ≤ place) (map (λ e. e.0) es) → Least f es
  least_of_all f [] h = tt
  least_of_all f (e ∷ es) h = (All-head (λ place. f ≤ place) e.0 (map (λ e. e.0) es) h, least_of_all f es (All-tail (λ place. f ≤ place) e.0 (map (λ e. e.0) es) h))

module _ {Op : Type 0} (w : Op → Option (List ℕ × Option (List ℕ))) where
  -- what counts stands in ascending order
  pub from_living : (start : ℕ) (xs : List Op) → From start (living w start xs)
  from_living start [] = tt
  from_living start (x ∷ xs) = by (counts w (w x) xs) (from_living (start + 1) xs) where
    by : (b : Bool) → From (start + 1) (living w (start + 1) xs) → From start (cond b ((start, x) ∷ living w (start + 1) xs) (living w (start + 1) xs))
    by true k = (omega arith, k)
    by false k = from_weaker start (start + 1) (living w (start + 1) xs) (omega arith) k

  -- the first place from one on, else the place behind all, lies between the two
  pub place_within : (loc start d : ℕ) (xs : List Op) → start + length xs ≡ d → loc ≤ d →
      (loc ≤ first_place d (filter (λ e. nat_le loc e.0) (living w start xs))) × (first_place d (filter (λ e. nat_le loc e.0) (living w start xs)) ≤ d)
  place_within loc start d [] e l = (l, omega arith)
  place_within loc start d (x ∷ xs) e l = by (counts w (w x) xs) (place_within loc (start + 1) d xs (omega arith) l) where
    by : (b : Bool) → (loc ≤ first_place d (filter (λ e. nat_le loc e.0) (living w (start + 1) xs))) × (first_place d (filter (λ e. nat_le loc e.0) (living w (start + 1) xs)) ≤ d) →
        (loc ≤ first_place d (filter (λ e. nat_le loc e.0) (cond b ((start, x) ∷ living w (start + 1) xs) (living w (start + 1) xs))))
        × (first_place d (filter (λ e. nat_le loc e.0) (cond b ((start, x) ∷ living w (start + 1) xs) (living w (start + 1) xs))) ≤ d)
    by false k = k
    by true k = here (nat_le loc start) refl where
      here : (b : Bool) → nat_le loc start ≡ b →
          (loc ≤ first_place d (cond (nat_le loc start) ((start, x) ∷ filter (λ e. nat_le loc e.0) (living w (start + 1) xs)) (filter (λ e. nat_le loc e.0) (living w (start + 1) xs))))
          × (first_place d (cond (nat_le loc start) ((start, x) ∷ filter (λ e. nat_le loc e.0) (living w (start + 1) xs)) (filter (λ e. nat_le loc e.0) (living w (start + 1) xs))) ≤ d)
      here true t = let low : loc ≤ start = grind (arith, nat_tests) in rw t (low, omega arith)
      here false t = rw t k

  -- an operation that counts before more counts before fewer
  counts_earlier : (o : Option (List ℕ × Option (List ℕ))) (xs ys : List Op) → counts w o (xs ++ ys) ≡ true → counts w o xs ≡ true
  counts_earlier None xs ys h = h
  counts_earlier (Some (k, None)) xs ys h = h
  counts_earlier (Some (k, Some v)) xs ys h = by (last_write w k xs) (last_write w k ys) (sym (ap is_none (last_write-append w k xs ys)) ∙ h) where
    by : (p q : Option ℕ) → is_none (place_in_two (length xs) p q) ≡ true → is_none p ≡ true
    by p None h = h
    by p (Some i) h = absurd cc

  -- where nothing that counts stands below a place, nothing does with more behind it
  pub least_more : (f start : ℕ) (xs ys : List Op) → f ≤ start + length xs → Least f (living w start xs) → Least f (living w start (xs ++ ys))
  least_more f start [] ys l h = least_from f start (living w start ys) (omega arith) (from_living start ys)
  least_more f start (x ∷ xs) ys l h =
      head (counts w (w x) xs) (counts w (w x) (xs ++ ys)) (counts_earlier (w x) xs ys) h (least_more f (start + 1) xs ys (omega arith) (tail (counts w (w x) xs) h)) where
        tail : (b : Bool) → Least f (cond b ((start, x) ∷ living w (start + 1) xs) (living w (start + 1) xs)) → Least f (living w (start + 1) xs)
        tail true h = h.1
        tail false h = h

        head : (b c : Bool) → (c ≡ true → b ≡ true) → Least f (cond b ((start, x) ∷ living w (start + 1) xs) (living w (start + 1) xs)) → Least f (living w (start + 1) (xs ++ ys)) →
            Least f (cond c ((start, x) ∷ living w (start + 1) (xs ++ ys)) (living w (start + 1) (xs ++ ys)))
        head b false i h k = k
        head true true i h k = (h.0, k)
        head false true i h k = absurd (true≢false (sym (i refl)))

  -- an operation that writes no key changes nothing
  counts_before_commit : (c : Op) → w c ≡ None → (o : Option (List ℕ × Option (List ℕ))) (xs : List Op) → counts w o (xs ++ c ∷ []) ≡ counts w o xs
  counts_before_commit c e None xs = refl
  counts_before_commit c e (Some (k, None)) xs = refl
  counts_before_commit c e (Some (k, Some v)) xs =
      ap is_none (last_write-append w k xs (c ∷ []) ∙ ap (λ o. place_in_two (length xs) (last_write w k xs) (place_after (writes_key k o) None)) e)

  pub living_before_commit : (c : Op) → w c ≡ None → (start : ℕ) (xs : List Op) → living w start (xs ++ c ∷ []) ≡ living w start xs
  living_before_commit c e start [] = ap (λ o. cond (counts w o []) ((start, c) ∷ []) []) e
  living_before_commit c e start (x ∷ xs) =
      ap (λ b. cond b ((start, x) ∷ living w (start + 1) (xs ++ c ∷ [])) (living w (start + 1) (xs ++ c ∷ []))) (counts_before_commit c e (w x) xs)
      ∙ ap (λ l. cond (counts w (w x) xs) ((start, x) ∷ l) l) (living_before_commit c e (start + 1) xs)

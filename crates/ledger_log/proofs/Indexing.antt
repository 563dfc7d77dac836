use Rattle.std.proofs.Common.{◌≡◌, ℕ, suc, ◌+◌, ◌-◌, ◌<◌, ◌≤◌, ◌⊎◌, inl, inr, Bool, true, false, cond, nat_le, List, [], ◌∷◌, ◌++◌, length, take, drop, get_or, Option, Some, None, All, refl, sym, ap, subst, ◌∙◌, bytes_eq, arith}
use Rattle.std.specs.Prelude.{is_some, IsSome}
use Rattle.std.specs.List.{last_or, filter_map, cons_option}
use Rattle.std.specs.BTreeMap.{BTreeMap}
use Rattle.std.specs.Ordering.{nat_cmp, is_eq}
use Rattle.std.specs.Cmp.Lexicographic.{slice_cmp, texts_ties}
use Rattle.std.proofs.lemmas.Slice.Eq.{bytes_eq-Decides}
use Rattle.std.proofs.lemmas.List.{take-append-drop, length-take-le}
use Rattle.std.proofs.lemmas.Bool.Decides.{nat_tests}
use Rattle.ledger_merkle.proofs.Trees.{below_or_not}
use Rattle.ledger_log.specs.View.{written_at, value_or_none, value_at, key_written, value_written}
use Rattle.ledger_log.specs.Index.{entry_at, or_zero, end_at, end_where, retained, writes_key, place_after, end_after, HasEntry, last_write, IsIndex}

pub retained_zero : (front e : ℕ) → e ≤ front → retained front e ≡ 0
retained_zero front e l = let t : nat_le e front ≡ true = grind (arith, nat_tests) in rw t refl

pub retained_same : (front e : ℕ) → front < e → retained front e ≡ e
retained_same front e l = let t : nat_le e front ≡ false = grind (arith, nat_tests) in rw t refl

-- a key with one entry more or another one
module _ (old new : BTreeMap (List ℕ) ℕ) (key : List ℕ) (w : Option ℕ) (u : (q : List ℕ) → entry_at new q ≡ cond (is_eq (slice_cmp nat_cmp key q)) w (entry_at old q)) where
  entry_where : (q : List ℕ) → entry_at new q ≡ cond (bytes_eq key q) w (entry_at old q)
  entry_where q = u q ∙ ap (λ b. cond b w (entry_at old q)) (sym (texts_ties key q))

  -- what stood there counts for nothing, and neither does what stands there now
  zero_of : (o : Option ℕ) → is_some o ≡ false → or_zero o ≡ 0
  zero_of None h = refl
  zero_of (Some n) h = absurd cc

  pub new_entry : is_some (entry_at old key) ≡ false → w ≡ Some 0 → (q : List ℕ) → end_at new q ≡ end_at old q
  new_entry h z q = ap or_zero (entry_where q) ∙ either (bytes_eq key q) refl where
    either : (b : Bool) → bytes_eq key q ≡ b → or_zero (cond b w (entry_at old q)) ≡ or_zero (entry_at old q)
    either true e = let same : key ≡ q = (bytes_eq-Decides key q).0 e in ap or_zero z ∙ (sym (zero_of (entry_at old key) h) ∙ ap (λ k. or_zero (entry_at old k)) same)
    either false e = refl

  pub more_entries : IsSome w → (other : Option (List ℕ)) → HasEntry old other → HasEntry new other
  more_entries s None h = tt
  more_entries s (Some q) h = subst IsSome (sym (entry_where q)) (either (bytes_eq key q)) where
    either : (b : Bool) → IsSome (cond b w (entry_at old q))
    either true = s
    either false = h

  pub end_written : (end : ℕ) → w ≡ Some end → (q : List ℕ) → end_at new q ≡ end_where (Some key) q end (end_at old q)
  end_written end z q = ap or_zero (entry_where q) ∙ either (bytes_eq key q) where
    either : (b : Bool) → or_zero (cond b w (entry_at old q)) ≡ cond b end (or_zero (entry_at old q))
    either true = ap or_zero z
    either false = refl

  pub stale_gone : (front : ℕ) → w ≡ None → end_at old key ≤ front → (q : List ℕ) → retained front (end_at new q) ≡ retained front (end_at old q)
  stale_gone front z l q = ap (λ o. retained front (or_zero o)) (entry_where q) ∙ either (bytes_eq key q) refl where
    either : (b : Bool) → bytes_eq key q ≡ b → retained front (or_zero (cond b w (entry_at old q))) ≡ retained front (or_zero (entry_at old q))
    either true e =
        let same : key ≡ q = (bytes_eq-Decides key q).0 e in
        ap (λ o. retained front (or_zero o)) z ∙ (retained_zero front 0 (omega arith) ∙ sym (retained_zero front (end_at old q) (subst (λ k. end_at old k ≤ front) same l)))
    either false e = refl

-- a place after a list in two runs
abbrev pub place_in_two : ℕ → Option ℕ → Option ℕ → Option ℕ
place_in_two n first None = first
place_in_two n first (Some i) = Some (n + i)

module _ {Op : Type 0} (w : Op → Option (List ℕ × Option (List ℕ))) (key : List ℕ) where
  -- the last write in two runs
  pub last_write-append : (xs ys : List Op) → last_write w key (xs ++ ys) ≡ place_in_two (length xs) (last_write w key xs) (last_write w key ys)
  last_write-append [] ys = none (last_write w key ys) where
    none : (o : Option ℕ) → o ≡ place_in_two 0 None o
    none None = refl
    none (Some i) = ap Some (omega arith)
  last_write-append (x ∷ xs) ys = ap (place_after (writes_key key (w x))) (last_write-append xs ys) ∙ both (last_write w key ys) where
    both : (o : Option ℕ) → place_after (writes_key key (w x)) (place_in_two (length xs) (last_write w key xs) o) ≡ place_in_two (suc (length xs)) (place_after (writes_key key (w x)) (last_write w key xs)) o
    both None = refl
    both (Some i) = ap Some (omega arith)

  -- the last write stands in the list
  pub last_write_within : (xs : List Op) (i : ℕ) → last_write w key xs ≡ Some i → i < length xs
  last_write_within [] i h = absurd cc
  last_write_within (x ∷ xs) i h = found (writes_key key (w x)) (last_write w key xs) refl (last_write_within xs) h where
    found : (b : Bool) (o : Option ℕ) → last_write w key xs ≡ o → ((j : ℕ) → last_write w key xs ≡ Some j → j < length xs) → place_after b o ≡ Some i → i < suc (length xs)
    found b (Some j) e within s = let same : suc j ≡ i = cc in omega (arith, within j e)
    found true None e within s = let same : 0 ≡ i = cc in omega arith
    found false None e within s = absurd cc

  -- an operation's write, noted
  pub write_noted : (start before end : ℕ) (xs : List Op) (x : Op) → end ≡ start + length xs + 1 →
      end_where (key_written (w x)) key end (end_after start before (last_write w key xs)) ≡ end_after start before (last_write w key (xs ++ x ∷ []))
  write_noted start before end xs x e = noted (w x) refl ∙ sym (ap (end_after start before) (last_write-append xs (x ∷ []))) where
    noted : (o : Option (List ℕ × Option (List ℕ))) → w x ≡ o → end_where (key_written o) key end (end_after start before (last_write w key xs))
        ≡ end_after start before (place_in_two (length xs) (last_write w key xs) (place_after (writes_key key (w x)) None))
    noted None h = rw h refl
    noted (Some (k, v)) h = rw h (hit (bytes_eq k key)) where
      hit : (b : Bool) → cond b end (end_after start before (last_write w key xs)) ≡ end_after start before (place_in_two (length xs) (last_write w key xs) (place_after (is_some (cond b (Some v) None)) None))
      hit true = omega (arith, e)
      hit false = refl

-- what is retained is the entry itself, or the entry is stale
retained_or_not : (front e : ℕ) → ((e ≤ front) × (retained front e ≡ 0)) ⊎ ((front < e) × (retained front e ≡ e))
retained_or_not front e = elim (below_or_not e front) [
  | inl l ↦ inl (l, retained_zero front e l)
  | inr l ↦ inr (l, retained_same front e l)
]

module _ {Op : Type 0} (w : Op → Option (List ℕ × Option (List ℕ))) where
  -- the index of a log with more operations
  pub index_more : (old new : BTreeMap (List ℕ) ℕ) (front size : ℕ) (xs ys : List Op) → IsIndex w old front xs → size ≡ front + length xs →
      ((k : List ℕ) → end_at new k ≡ end_after size (end_at old k) (last_write w k ys)) → IsIndex w new front (xs ++ ys)
  index_more old new front size xs ys i e u k =
      ap (retained front) (u k) ∙ (both (last_write w k ys) ∙ sym (ap (end_after front 0) (last_write-append w k xs ys))) where
        both : (o : Option ℕ) → retained front (end_after size (end_at old k) o) ≡ end_after front 0 (place_in_two (length xs) (last_write w k xs) o)
        both None = i k
        both (Some j) = retained_same front (size + j + 1) (omega arith) ∙ omega arith

  -- the index of a log without its first operations
  pub index_pruned : (old new : BTreeMap (List ℕ) ℕ) (front loc c : ℕ) (xs : List Op) → IsIndex w old front xs → loc ≡ front + c → c ≤ length xs →
      ((k : List ℕ) → retained loc (end_at new k) ≡ retained loc (end_at old k)) → IsIndex w new loc (drop c xs)
  index_pruned old new front loc c xs i e b u k = u k ∙ split (last_write w k (take c xs)) (last_write w k (drop c xs)) refl refl where
    whole : last_write w k xs ≡ place_in_two c (last_write w k (take c xs)) (last_write w k (drop c xs))
    whole =
        ap (last_write w k) (sym (take-append-drop c xs))
        ∙ (last_write-append w k (take c xs) (drop c xs) ∙ ap (λ n. place_in_two n (last_write w k (take c xs)) (last_write w k (drop c xs))) (length-take-le c xs b))

    split : (o p : Option ℕ) → last_write w k (take c xs) ≡ o → last_write w k (drop c xs) ≡ p → retained loc (end_at old k) ≡ end_after loc 0 p
    split o (Some j) f g =
        let is : retained front (end_at old k) ≡ front + (c + j) + 1 = i k ∙ ap (end_after front 0) (whole ∙ ap (place_in_two c (last_write w k (take c xs))) g) in
        elim (retained_or_not front (end_at old k)) [
          | inl z ↦ absurd (omega (arith, z.1))
          | inr s ↦ let same : end_at old k ≡ front + (c + j) + 1 = sym s.1 ∙ is in retained_same loc (end_at old k) (omega arith) ∙ omega arith
        ]
    split (Some j) None f g =
        let is : retained front (end_at old k) ≡ front + j + 1 = i k ∙ ap (end_after front 0) (whole ∙ (ap (place_in_two c (last_write w k (take c xs))) g ∙ f)) in
        let low : j < c = subst (λ n. j < n) (length-take-le c xs b) (last_write_within w k (take c xs) j f) in
        elim (retained_or_not front (end_at old k)) [
          | inl z ↦ absurd (omega (arith, z.1))
          | inr s ↦ let same : end_at old k ≡ front + j + 1 = sym s.1 ∙ is in retained_zero loc (end_at old k) (omega arith)
        ]
    split None None f g =
        let is : retained front (end_at old k) ≡ 0 = i k ∙ ap (end_after front 0) (whole ∙ (ap (place_in_two c (last_write w k (take c xs))) g ∙ f)) in
        elim (retained_or_not front (end_at old k)) [
          | inl z ↦ retained_zero loc (end_at old k) (omega (arith, z.0))
          | inr s ↦ absurd (omega (arith, s.0, s.1))
        ]

  module _ (key : List ℕ) where
    -- without a write the value is what it was before
    last_none : (xs : List Op) (d : Option (Option (List ℕ))) → last_write w key xs ≡ None → last_or d (filter_map (λ op. written_at key (w op)) xs) ≡ d
    last_none [] d h = refl
    last_none (x ∷ xs) d h = step (written_at key (w x)) (last_write w key xs) refl refl (last_none xs d) where
      step : (o : Option (Option (List ℕ))) (p : Option ℕ) → written_at key (w x) ≡ o → last_write w key xs ≡ p →
          (last_write w key xs ≡ None → last_or d (filter_map (λ op. written_at key (w op)) xs) ≡ d) → last_or d (cons_option o (filter_map (λ op. written_at key (w op)) xs)) ≡ d
      step None None e f before = before f
      step (Some v) None e f before = absurd (let z : place_after (is_some (Some v)) None ≡ None = ap (λ u. place_after (is_some u) None) (sym e) ∙ (ap (place_after (writes_key key (w x))) (sym f) ∙ h) in cc)
      step o (Some j) e f before = absurd (let z : Some (suc j) ≡ None = ap (place_after (writes_key key (w x))) (sym f) ∙ h in cc)

    -- the value of a write of the key
    value_of : (o : Option (List ℕ × Option (List ℕ))) (v : Option (List ℕ)) → written_at key o ≡ Some v → v ≡ value_written o
    value_of None v h = absurd cc
    value_of (Some (k, u)) v h = hit (bytes_eq k key) h where
      hit : (b : Bool) → cond b (Some u) None ≡ Some v → v ≡ u
      hit true e = cc
      hit false e = absurd cc

    last_some : (xs : List Op) (d : Option (Option (List ℕ))) (i : ℕ) (z : Op) → last_write w key xs ≡ Some i → value_or_none (last_or d (filter_map (λ op. written_at key (w op)) xs)) ≡ value_written (w (get_or xs i z))
    last_some [] d i z h = absurd cc
    last_some (x ∷ xs) d i z h = step (written_at key (w x)) (last_write w key xs) refl refl (λ e j. last_some xs e j z) where
      step : (o : Option (Option (List ℕ))) (p : Option ℕ) → written_at key (w x) ≡ o → last_write w key xs ≡ p →
          ((e : Option (Option (List ℕ))) (j : ℕ) → last_write w key xs ≡ Some j → value_or_none (last_or e (filter_map (λ op. written_at key (w op)) xs)) ≡ value_written (w (get_or xs j z))) →
          value_or_none (last_or d (cons_option o (filter_map (λ op. written_at key (w op)) xs))) ≡ value_written (w (get_or (x ∷ xs) i z))
      step None (Some j) e f later =
          let s : suc j ≡ i = (let y : Some (suc j) ≡ Some i = ap (place_after (writes_key key (w x))) (sym f) ∙ h in cc) in
          later d j f ∙ ap (λ n. value_written (w (get_or (x ∷ xs) n z))) s
      step (Some v) (Some j) e f later =
          let s : suc j ≡ i = (let y : Some (suc j) ≡ Some i = ap (place_after (writes_key key (w x))) (sym f) ∙ h in cc) in
          later (Some v) j f ∙ ap (λ n. value_written (w (get_or (x ∷ xs) n z))) s
      step (Some v) None e f later =
          let y : Some 0 ≡ Some i = ap (λ u. place_after (is_some u) None) (sym e) ∙ (ap (place_after (writes_key key (w x))) (sym f) ∙ h) in
          let s : 0 ≡ i = cc in
          ap value_or_none (last_none xs (Some v) f) ∙ (value_of (w x) v e ∙ ap (λ n. value_written (w (get_or (x ∷ xs) n z))) s)
      step None None e f later = absurd (let y : None ≡ Some i = ap (λ u. place_after (is_some u) None) (sym e) ∙ (ap (place_after (writes_key key (w x))) (sym f) ∙ h) in cc)

    -- an operation that the index finds
    pub found : (index : BTreeMap (List ℕ) ℕ) (front : ℕ) (xs : List Op) → IsIndex w index front xs → front < end_at index key → last_write w key xs ≡ Some (end_at index key - front - 1)
    found index front xs i l = there (last_write w key xs) refl where
      is : end_at index key ≡ end_after front 0 (last_write w key xs)
      is = sym (retained_same front (end_at index key) l) ∙ i key

      there : (o : Option ℕ) → last_write w key xs ≡ o → o ≡ Some (end_at index key - front - 1)
      there None e = absurd (let z : end_at index key ≡ 0 = is ∙ ap (end_after front 0) e in omega arith)
      there (Some j) e = let z : end_at index key ≡ front + j + 1 = is ∙ ap (end_after front 0) e in ap Some (omega arith)

    -- no operation is found
    not_found : (index : BTreeMap (List ℕ) ℕ) (front : ℕ) (xs : List Op) → IsIndex w index front xs → end_at index key ≤ front → last_write w key xs ≡ None
    not_found index front xs i l = there (last_write w key xs) refl where
      is : 0 ≡ end_after front 0 (last_write w key xs)
      is = sym (retained_zero front (end_at index key) l) ∙ i key

      there : (o : Option ℕ) → last_write w key xs ≡ o → o ≡ None
      there None e = refl
      there (Some j) e = absurd (let z : 0 ≡ front + j + 1 = is ∙ ap (end_after front 0) e in omega arith)

    pub found_within : (index : BTreeMap (List ℕ) ℕ) (front : ℕ) (xs : List Op) → IsIndex w index front xs → front < end_at index key → end_at index key - front - 1 < length xs
    found_within index front xs i l = last_write_within w key xs (end_at index key - front - 1) (found index front xs i l)

    pub found_value : (index : BTreeMap (List ℕ) ℕ) (front : ℕ) (xs : List Op) (z : Op) → IsIndex w index front xs → front < end_at index key → value_at w key xs ≡ value_written (w (get_or xs (end_at index key - front - 1) z))
    found_value index front xs z i l = last_some xs None (end_at index key - front - 1) z (found index front xs i l)

    pub no_value : (index : BTreeMap (List ℕ) ℕ) (front : ℕ) (xs : List Op) → IsIndex w index front xs → end_at index key ≤ front → value_at w key xs ≡ None
    no_value index front xs i l = ap value_or_none (last_none xs None (not_found index front xs i l))

-- entries stay from turn to turn
pub HasEntry-keys : {Op : Type 0} (f : Op → Option (List ℕ)) (old new : BTreeMap (List ℕ) ℕ) (ops : List Op) → ((other : Option (List ℕ)) → HasEntry old other → HasEntry new other) →
    All (λ op. HasEntry old (f op)) ops → All (λ op. HasEntry new (f op)) ops
HasEntry-keys f old new ops more all k d h = more (f (get_or ops k d)) (all k d h)

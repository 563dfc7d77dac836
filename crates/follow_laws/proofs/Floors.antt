-- Where nothing that counts lies below the floor, the operations from there on have all values.
use Rattle.std.proofs.Common.{◌≡◌, ◌⊎◌, ℕ, zero, suc, ◌+◌, ◌-◌, ◌<◌, ◌≤◌, Bool, true, false, cond, List, [], ◌∷◌, drop, Option, Some, None, refl, sym, ap, ◌∙◌, arith, true≢false, bytes_eq, inl, inr}
use Rattle.std.specs.Prelude.{slice_get, is_some, is_none, unwrap_or}
use Rattle.std.specs.List.{last_or, cons_option, filter_map}
use Rattle.std.specs.Cmp.Lexicographic.{bytes_decides}
use Rattle.ledger_log.specs.Active.{counts, living}
use Rattle.ledger_log.specs.Any.{any_floor, any_write}
use Rattle.ledger_log.specs.Index.{last_write, place_after}
use Rattle.ledger_log.specs.View.{LogView, log_floor, value_at, value_or_none, written_at}
use Rattle.ledger_log.specs.declared.any.AnyOp.{AnyOp}
use Rattle.ledger_log.specs.declared.any.AnyOp.TheVariants.{Update, Delete, CommitFloor}
use Rattle.ledger_raising.proofs.Rising.{Least, least_of_all}
use Rattle.ledger_raising.specs.Raised.{FloorSound}

module _ (key : List ℕ) where
  -- what an operation leaves at the key
  abbrev leaves : AnyOp → Option (Option (List ℕ))
  leaves op = written_at key (any_write op)

  -- what the last of them leaves, or else this
  abbrev left_by : Option (Option (List ℕ)) → List AnyOp → Option (Option (List ℕ))
  left_by o ops = last_or o (filter_map leaves ops)

  -- one of them writes the key
  abbrev Writes : List AnyOp → Type 0
  Writes ops = (i : ℕ) × (op : AnyOp) × (slice_get ops i ≡ Some op) × (is_some (leaves op) ≡ true)

  -- none of them writes the key
  abbrev Silent : List AnyOp → Type 0
  Silent ops = (i : ℕ) (op : AnyOp) → slice_get ops i ≡ Some op → leaves op ≡ None

  first_is : (x op : AnyOp) → Some x ≡ Some op → x ≡ op
  first_is x op e = ap (λ o. unwrap_or o x) e

  silent_or : (x : AnyOp) (xs : List AnyOp) (o : Option (Option (List ℕ))) → leaves x ≡ o → Writes xs ⊎ Silent xs → Writes (x ∷ xs) ⊎ Silent (x ∷ xs)
  silent_or x xs o e (inl w) = inl (suc w.0, w.1, w.2, w.3)
  silent_or x xs (Some w) e (inr s) = inl (0, x, refl, ap is_some e)
  silent_or x xs None e (inr s) = inr at
    where
      at : Silent (x ∷ xs)
      at zero op q = ap leaves (sym (first_is x op q)) ∙ e
      at (suc i) op q = s i op q

  either : (ops : List AnyOp) → Writes ops ⊎ Silent ops
  either [] = inr (λ i op e. absurd (true≢false (sym (ap is_some e))))
  either (x ∷ xs) = silent_or x xs (leaves x) refl (either xs)

  -- what was left before counts no more, or is nothing
  abbrev Gone : Option (Option (List ℕ)) → List AnyOp → Type 0
  Gone o ops = (value_or_none o ≡ None) ⊎ Writes ops

  no_write : (o : Option (Option (List ℕ))) → Gone o [] → value_or_none o ≡ None
  no_write o (inl e) = e
  no_write o (inr w) = absurd (true≢false (sym (ap is_some w.2)))

  -- a silent first operation leaves what was there
  gone_on : (x : AnyOp) (xs : List AnyOp) (o : Option (Option (List ℕ))) → leaves x ≡ None → Gone o (x ∷ xs) → Gone o xs
  gone_on x xs o e (inl n) = inl n
  gone_on x xs o e (inr w) = inr (by w.0 w.1 w.2 w.3)
    where
      by : (i : ℕ) (op : AnyOp) → slice_get (x ∷ xs) i ≡ Some op → is_some (leaves op) ≡ true → Writes xs
      by zero op q t = absurd (true≢false (sym t ∙ (ap (λ (y : AnyOp). is_some (leaves y)) (sym (first_is x op q)) ∙ ap is_some e)))
      by (suc i) op q t = (i, op, q, t)

  same_end : (o : Option (Option (List ℕ))) (ops : List AnyOp) → Gone o ops → value_or_none (left_by o ops) ≡ value_or_none (left_by None ops)
  same_end o [] g = no_write o g
  same_end o (x ∷ xs) g = by (leaves x) refl (λ h. same_end o xs h)
    where
      by : (w : Option (Option (List ℕ))) → leaves x ≡ w → (Gone o xs → value_or_none (left_by o xs) ≡ value_or_none (left_by None xs)) → value_or_none (last_or o (cons_option w (filter_map leaves xs))) ≡ value_or_none (last_or None (cons_option w (filter_map leaves xs)))
      by None e rest = rest (gone_on x xs o e g)
      by (Some w) e rest = refl

  -- where none of them writes the key, it has no last write
  unwritten : (xs : List AnyOp) → Silent xs → last_write any_write key xs ≡ None
  unwritten [] s = refl
  unwritten (x ∷ xs) s =
      ap (λ (o : Option (Option (List ℕ))). place_after (is_some o) (last_write any_write key xs)) (s 0 x refl) ∙ ap (place_after false) (unwritten xs (λ i op q. s (suc i) op q))

  -- what doesn't count before these operations is written over by them
  update_over : (k value : List ℕ) (xs : List AnyOp) → counts any_write (any_write (Update k value)) xs ≡ false → bytes_eq k key ≡ true → Writes xs
  update_over k value xs h t = by (either xs)
    where
      same : k ≡ key
      same = (bytes_decides k key).0 t

      by : Writes xs ⊎ Silent xs → Writes xs
      by (inl w) = w
      by (inr s) = absurd (true≢false (sym (ap is_none (ap (λ (j : List ℕ). last_write any_write j xs) same ∙ unwritten xs s)) ∙ h))

  -- the first of some operations, which lies below the floor, doesn't count, and none behind it lies below
  uncounted : (floor start : ℕ) (x : AnyOp) (xs : List AnyOp) → start < floor → Least floor (living any_write start (x ∷ xs)) → (counts any_write (any_write x) xs ≡ false) × Least floor (living any_write (start + 1) xs)
  uncounted floor start x xs lt h = by (counts any_write (any_write x) xs) refl h
    where
      by : (b : Bool) → counts any_write (any_write x) xs ≡ b → Least floor (cond b ((start, x) ∷ living any_write (start + 1) xs) (living any_write (start + 1) xs)) → (counts any_write (any_write x) xs ≡ false) × Least floor (living any_write (start + 1) xs)
      by true e h = absurd (let l = h.0 in omega (arith, lt, l))
      by false e h = (e, h)

  dropped : (floor start n : ℕ) (ops : List AnyOp) (o : Option (Option (List ℕ))) → start + n ≤ floor → Least floor (living any_write start ops) → Gone o ops → value_or_none (left_by o ops) ≡ value_or_none (left_by None (drop n ops))
  dropped floor start zero ops o le h g = same_end o ops g
  dropped floor start (suc n) [] o le h g = no_write o g
  dropped floor start (suc n) (Update k value ∷ xs) o le h g =
      let u = uncounted floor start (Update k value) xs (omega (arith, le)) h in
      by (bytes_eq k key) refl u.0 (λ p q. dropped floor (start + 1) n xs p (omega (arith, le)) u.1 q)
    where
      by : (b : Bool) → bytes_eq k key ≡ b → counts any_write (any_write (Update k value)) xs ≡ false → ((p : Option (Option (List ℕ))) → Gone p xs → value_or_none (left_by p xs) ≡ value_or_none (left_by None (drop n xs)))
          → value_or_none (last_or o (cons_option (cond b (Some (Some value)) None) (filter_map leaves xs))) ≡ value_or_none (left_by None (drop n xs))
      by true t c rest = rest (Some (Some value)) (inr (update_over k value xs c t))
      by false t c rest = rest o (gone_on (Update k value) xs o (ap (λ (b : Bool). cond b (Some (Some value)) None) t) g)
  dropped floor start (suc n) (Delete k ∷ xs) o le h g =
      let u = uncounted floor start (Delete k) xs (omega (arith, le)) h in
      by (bytes_eq k key) refl (λ p q. dropped floor (start + 1) n xs p (omega (arith, le)) u.1 q)
    where
      by : (b : Bool) → bytes_eq k key ≡ b → ((p : Option (Option (List ℕ))) → Gone p xs → value_or_none (left_by p xs) ≡ value_or_none (left_by None (drop n xs))) → value_or_none (last_or o (cons_option (cond b (Some None) None) (filter_map leaves xs))) ≡ value_or_none (left_by None (drop n xs))
      by true t rest = rest (Some None) (inl refl)
      by false t rest = rest o (gone_on (Delete k) xs o (ap (λ (b : Bool). let w : Option (Option (List ℕ)) = cond b (Some None) None in w) t) g)
  dropped floor start (suc n) (CommitFloor metadata at ∷ xs) o le h g =
      let u = uncounted floor start (CommitFloor metadata at) xs (omega (arith, le)) h in
      dropped floor (start + 1) n xs o (omega (arith, le)) u.1 (gone_on (CommitFloor metadata at) xs o refl g)

-- the values of the operations from a place at or below the floor on are those of all
pub values_above : (log : LogView AnyOp) (n : ℕ) (key : List ℕ) → FloorSound any_floor any_write log → log.front + n ≤ log_floor any_floor log → value_at any_write key log.ops ≡ value_at any_write key (drop n log.ops)
values_above log n key sound below =
    dropped key (log_floor any_floor log) log.front n log.ops None below (least_of_all (log_floor any_floor log) (living any_write log.front log.ops) sound) (inl refl)

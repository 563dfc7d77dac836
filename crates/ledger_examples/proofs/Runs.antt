-- Batches that a log takes one after another are taken as one run of operations.
use Rattle.std.proofs.Common.{◌≡◌, ℕ, ◌+◌, ◌-◌, ◌<◌, ◌≤◌, ◌^◌, Bool, true, false, cond, List, [], ◌∷◌, ◌++◌, length, take, drop, Option, Some, None, is_some, Result, Ok, Err, refl, sym, ap, subst, ◌∙◌, arith, nat_lt, nat_le, if◌then◌else◌}
use Rattle.std.specs.Prelude.{IfOk, OnOk}
use Rattle.std.specs.List.{onto_first}
use Rattle.std.proofs.lemmas.List.{append-nil, append_assoc, length-append}
use Rattle.std.proofs.lemmas.Bool.Decides.{nat_tests}
use Rattle.ledger_log.specs.View.{LogView, floor_or_zero, last_floor, batch_floor}
use Rattle.ledger_log.specs.Faults.{batch_refusal}
use Rattle.ledger_log.specs.declared.fault.LogFault.{LogFault}
use Rattle.ledger_log.specs.declared.fault.LogFault.TheVariants.{FloorRegressed, FloorBeyond, Full}
use Rattle.ledger_log.proofs.Floors.{last_of_batch, last_floor-batches}
use Rattle.ledger_compact.specs.View.{CompactView, with_ops, with_batch}
use Rattle.ledger_examples.specs.Laws.{compact_floor_after}
use Rattle.ledger_examples.specs.Batches.{or_later, batches_of, first_refusal, with_batches}

-- neither the one nor the other
or_later_none : (a b : Option LogFault) → or_later a b ≡ None → (a ≡ None) × (b ≡ None)
or_later_none None b h = (refl, h)
or_later_none (Some fault) b h = absurd cc

-- what a batch that is taken has
within : (size floor n f : ℕ) → batch_refusal size floor n (Some f) ≡ None → (floor ≤ f) × (f ≤ size + n - 1) × (size + n ≤ 2 ^ 62)
within size floor n f h = by_tests (nat_lt f floor) (nat_lt (size + n - 1) f) (nat_le (size + n) (2 ^ 62)) refl refl refl h where
  by_tests : (a b c : Bool) → nat_lt f floor ≡ a → nat_lt (size + n - 1) f ≡ b → nat_le (size + n) (2 ^ 62) ≡ c →
      (if a then Some (FloorRegressed f floor) else (if b then Some (FloorBeyond f (size + n - 1)) else (if c then None else Some (Full size)))) ≡ None →
      (floor ≤ f) × (f ≤ size + n - 1) × (size + n ≤ 2 ^ 62)
  by_tests true b c p q r e = absurd cc
  by_tests false true c p q r e = absurd cc
  by_tests false false false p q r e = absurd cc
  by_tests false false true p q r e = (grind (arith, nat_tests), grind (arith, nat_tests), grind (arith, nat_tests))

one : (size floor n : ℕ) (o : Option ℕ) → batch_refusal size floor n o ≡ None → (f : ℕ) × (o ≡ Some f) × (floor ≤ f) × (f ≤ size + n - 1) × (size + n ≤ 2 ^ 62)
one size floor n None h = absurd cc
one size floor n (Some f) h = let w = within size floor n f h in (f, refl, w.0, w.1, w.2)

-- and what has it is taken
none_of : (size floor n f : ℕ) → floor ≤ f → f ≤ size + n - 1 → size + n ≤ 2 ^ 62 → batch_refusal size floor n (Some f) ≡ None
none_of size floor n f l m s =
    let a : nat_lt f floor ≡ false = grind (arith, nat_tests) in
    let b : nat_lt (size + n - 1) f ≡ false = grind (arith, nat_tests) in
    let c : nat_le (size + n) (2 ^ 62) ≡ true = grind (arith, nat_tests) in
    rw (a, b, c) refl

-- what Ok says of its value that it doesn't name
pub ok_alone : {T E : Type 0} (r : Result T E) (P : Type 0) → IfOk r (λ _. P) → OnOk r P
ok_alone (Ok x) P h = h
ok_alone (Err e) P h = tt

module _ {Op : Type 0} where
  -- the operations of batches, one behind the other
  abbrev joined : List (List Op) → List Op
  joined [] = []
  joined (ops ∷ more) = ops ++ joined more

  joined_first : (x : Op) (batches : List (List Op)) → joined (onto_first x batches) ≡ x ∷ joined batches
  joined_first x [] = refl
  joined_first x (ops ∷ more) = refl

  joined_step : (f : Op → Option ℕ) (x : Op) (xs : List Op) (b : Bool) → joined (batches_of f xs) ≡ xs → joined (cond b ((x ∷ []) ∷ batches_of f xs) (onto_first x (batches_of f xs))) ≡ x ∷ xs
  joined_step f x xs true h = ap (λ z. x ∷ z) h
  joined_step f x xs false h = joined_first x (batches_of f xs) ∙ ap (λ z. x ∷ z) h

  joined_batches : (f : Op → Option ℕ) (ops : List Op) → joined (batches_of f ops) ≡ ops
  joined_batches f [] = refl
  joined_batches f (x ∷ xs) = joined_step f x xs (is_some (f x)) (joined_batches f xs)

  abbrev with_list : LogView Op → List Op → LogView Op
  with_list log ops = record { front = log.front; pinned = log.pinned; ops = ops }

  with_joined : (log : LogView Op) (batches : List (List Op)) → with_batches with_ops log batches ≡ with_ops log (joined batches)
  with_joined log [] = ap (with_list log) (sym (append-nil log.ops))
  with_joined log (ops ∷ more) = with_joined (with_ops log ops) more ∙ ap (with_list log) (append_assoc log.ops ops (joined more))

  -- a log with the batches of these operations has them all
  pub with_all : (f : Op → Option ℕ) (log : LogView Op) (ops : List Op) → with_batches with_ops log (batches_of f ops) ≡ with_ops log ops
  with_all f log ops = with_joined log (batches_of f ops) ∙ ap (with_ops log) (joined_batches f ops)

  -- where there are none it stays
  pub none_added : (f : Op → Option ℕ) (log : LogView Op) (ops : List Op) → length ops ≡ 0 → log ≡ with_batches with_ops log (batches_of f ops)
  none_added f log [] h = refl
  none_added f log (x ∷ xs) h = absurd (omega arith)

  -- what a run that is taken has
  abbrev Run : (Op → Option ℕ) → ℕ → ℕ → List Op → Type 0
  Run f size floor ops = (last : ℕ) × (last_floor f ops ≡ Some last) × (floor ≤ last) × (last ≤ size + length ops - 1) × (size + length ops ≤ 2 ^ 62)

  -- a batch before a run
  before_run : (f : Op → Option ℕ) (size floor last : ℕ) (ops rest : List Op) → floor ≤ last → Run f (size + length ops) last rest → Run f size floor (ops ++ rest)
  before_run f size floor last ops rest l r =
      let long : length (ops ++ rest) ≡ length ops + length rest = length-append ops rest in
      (r.0, last_floor-batches f ops rest r.0 r.1, omega (arith, l, r.2), omega (arith, r.3), omega (arith, r.4))

  run : (f : Op → Option ℕ) (size floor : ℕ) (ops : List Op) (more : List (List Op)) → first_refusal f size floor (ops ∷ more) ≡ None → Run f size floor (joined (ops ∷ more))
  run f size floor ops [] h =
      let p = or_later_none (batch_refusal size floor (length ops) (batch_floor f ops)) None h in
      let q = one size floor (length ops) (batch_floor f ops) p.0 in
      subst (Run f size floor) (sym (append-nil ops)) (q.0, last_of_batch f ops q.0 q.1, q.2, q.3, q.4)
  run f size floor ops (next ∷ more) h =
      let p = or_later_none (batch_refusal size floor (length ops) (batch_floor f ops)) (first_refusal f (size + length ops) (floor_or_zero (batch_floor f ops)) (next ∷ more)) h in
      let q = one size floor (length ops) (batch_floor f ops) p.0 in
      let same : floor_or_zero (batch_floor f ops) ≡ q.0 = ap floor_or_zero q.1 in
      before_run f size floor (floor_or_zero (batch_floor f ops)) ops (joined (next ∷ more)) (omega (arith, q.2, same)) (run f (size + length ops) (floor_or_zero (batch_floor f ops)) next more p.1)

  taken : (f : Op → Option ℕ) (size floor : ℕ) (ops : List Op) (batches : List (List Op)) → 0 < length ops → joined batches ≡ ops → first_refusal f size floor batches ≡ None → batch_refusal size floor (length ops) (last_floor f ops) ≡ None
  taken f size floor ops [] l j h = absurd (omega (arith, l, ap length j))
  taken f size floor ops (first ∷ more) l j h =
      let r = subst (Run f size floor) j (run f size floor first more h) in
      ap (batch_refusal size floor (length ops)) r.1 ∙ none_of size floor (length ops) r.0 r.2 r.3 r.4

  -- batches that are taken one after another are taken as one run
  pub run_taken : (f : Op → Option ℕ) (size floor : ℕ) (ops : List Op) → 0 < length ops → first_refusal f size floor (batches_of f ops) ≡ None → batch_refusal size floor (length ops) (last_floor f ops) ≡ None
  run_taken f size floor ops l h = taken f size floor ops (batches_of f ops) l (joined_batches f ops) h

-- one batch more of those that a compact log takes
pub compact_on : {Op : Type 0} (hash : List ℕ → List ℕ) (spelling : Op → List ℕ) (f : Op → Option ℕ) (log new : CompactView Op) (ops batch more : List Op) (n : ℕ) → batch ≡ take n ops → more ≡ drop n ops →
    batches_of f ops ≡ take n ops ∷ batches_of f (drop n ops) → new ≡ with_batch hash spelling log batch → first_refusal f log.size (floor_or_zero (f log.last)) (batches_of f ops) ≡ None →
    (first_refusal f new.size (floor_or_zero (f new.last)) (batches_of f more) ≡ None) × (with_batches (with_batch hash spelling) new (batches_of f more) ≡ with_batches (with_batch hash spelling) log (batches_of f ops))
compact_on {Op} hash spelling f log new ops batch more n b m c e t =
    let cut : batches_of f ops ≡ batch ∷ batches_of f more = c ∙ (ap (λ (z : List Op). z ∷ batches_of f (drop n ops)) (sym b) ∙ ap (λ (z : List Op). batch ∷ batches_of f z) (sym m)) in
    let h : first_refusal f log.size (floor_or_zero (f log.last)) (batch ∷ batches_of f more) ≡ None = ap (first_refusal f log.size (floor_or_zero (f log.last))) (sym cut) ∙ t in
    let p = or_later_none (batch_refusal log.size (floor_or_zero (f log.last)) (length batch) (batch_floor f batch)) (first_refusal f (log.size + length batch) (floor_or_zero (batch_floor f batch)) (batches_of f more)) h in
    let q = one log.size (floor_or_zero (f log.last)) (length batch) (batch_floor f batch) p.0 in
    let long : new.size ≡ log.size + length batch = ap (λ (v : CompactView Op). v.size) e in
    let last : floor_or_zero (f new.last) ≡ floor_or_zero (batch_floor f batch) = ap (λ (v : CompactView Op). floor_or_zero (f v.last)) e ∙ (compact_floor_after hash spelling f log batch q.0 q.1 ∙ sym (ap floor_or_zero q.1)) in (
      ap (λ k. first_refusal f k (floor_or_zero (f new.last)) (batches_of f more)) long ∙ (ap (λ k. first_refusal f (log.size + length batch) k (batches_of f more)) last ∙ p.1),
      ap (λ (v : CompactView Op). with_batches (with_batch hash spelling) v (batches_of f more)) e ∙ sym (ap (with_batches (with_batch hash spelling) log) cut),
    )

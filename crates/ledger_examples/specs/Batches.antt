use Rattle.std.specs.Prelude.{ℕ, ◌+◌, cond, List, [], ◌∷◌, length, map, Option, Some, None, is_some}
use Rattle.std.specs.List.{onto_first}
use Rattle.ledger_log.specs.View.{floor_or_zero, last_floor, batch_floor}
use Rattle.ledger_log.specs.Faults.{batch_refusal}
use Rattle.ledger_log.specs.declared.fault.LogFault.{LogFault}

-- the fault, or where there is none the other
abbrev pub or_later : Option LogFault → Option LogFault → Option LogFault
or_later None later = later
or_later (Some fault) later = Some fault

module _ {Op : Type 0} where
  -- the operations cut behind each commit
  abbrev pub batches_of : (Op → Option ℕ) → List Op → List (List Op)
  batches_of floor_of [] = []
  batches_of floor_of (op ∷ ops) = cond (is_some (floor_of op)) ((op ∷ []) ∷ batches_of floor_of ops) (onto_first op (batches_of floor_of ops))

  -- why the first of these batches that a log of this size and floor refuses is refused, where it takes those before
  abbrev pub first_refusal : (Op → Option ℕ) → ℕ → ℕ → List (List Op) → Option LogFault
  first_refusal floor_of size floor [] = None
  first_refusal floor_of size floor (ops ∷ more) =
      or_later (batch_refusal size floor (length ops) (batch_floor floor_of ops)) (first_refusal floor_of (size + length ops) (floor_or_zero (batch_floor floor_of ops)) more)

  -- batches where the last operation is a commit, else none
  abbrev pub batches_if : Option ℕ → (Op → Option ℕ) → List Op → List (List Op)
  batches_if None floor_of ops = []
  batches_if (Some floor) floor_of ops = batches_of floor_of ops

  -- the batches that are added to a log of this floor
  abbrev pub added_batches : (Op → Option ℕ) → (ℕ → Op → Op) → ℕ → List Op → List (List Op)
  added_batches floor_of added floor ops = batches_if (last_floor floor_of ops) floor_of (map (added floor) ops)

-- a log with these batches appended, one after another
abbrev pub with_batches : {Log Op : Type 0} → (Log → List Op → Log) → Log → List (List Op) → Log
with_batches appended log [] = log
with_batches appended log (ops ∷ more) = with_batches appended (appended log ops) more

use Rattle.std.specs.Prelude.{ℕ, List, [], ◌∷◌, Option, Some, None}
use Rattle.ledger_log.specs.View.{LogView}
use Rattle.ledger_log.specs.Faults.{append_refusal}
use Rattle.ledger_log.specs.declared.fault.LogFault.{LogFault}
use Rattle.ledger_compact.specs.View.{with_ops}

module _ {Op : Type 0} where
  -- the log after a batch that was refused for this fault, if for any
  abbrev pub after_answer : Option LogFault → LogView Op → List Op → LogView Op
  after_answer None log ops = with_ops log ops
  after_answer (Some fault) log ops = log

  -- the log after a batch: with it, or as it was where it is refused
  abbrev pub after_batch : (Op → Option ℕ) → LogView Op → List Op → LogView Op
  after_batch floor_of log ops = after_answer (append_refusal floor_of log ops) log ops

  -- the log after these batches, one after another
  abbrev pub after_batches : (Op → Option ℕ) → LogView Op → List (List Op) → LogView Op
  after_batches floor_of log [] = log
  after_batches floor_of log (ops ∷ more) = after_batches floor_of (after_batch floor_of log ops) more

  -- why each of these batches is refused, None for those that are taken
  abbrev pub answers : (Op → Option ℕ) → LogView Op → List (List Op) → List (Option LogFault)
  answers floor_of log [] = []
  answers floor_of log (ops ∷ more) = append_refusal floor_of log ops ∷ answers floor_of (after_batch floor_of log ops) more

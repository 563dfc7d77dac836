-- What a call does to the log, and how the log answers it.
use Rattle.std.specs.Prelude.{◌≡◌, ℕ, ◌+◌, List, ◌++◌, length, Option, Some, None}
use Rattle.ledger_log.specs.declared.fault.LogFault.{LogFault}
use Rattle.ledger_log.specs.View.{LogView, log_size}
use Rattle.ledger_log.specs.Faults.{append_refusal}
use Rattle.sync_shared.specs.declared.event.Event.{Event}
use Rattle.sync_shared.specs.declared.event.Event.TheVariants.{Request, Batch}
use Rattle.sync_shared.specs.declared.event.EventOutcome.{EventOutcome}
use Rattle.sync_shared.specs.declared.event.EventOutcome.TheVariants.{Replied, Appended, Refused}

module _ {Op : Type 0} where
  -- the log with these operations behind its own
  abbrev pub grown : LogView Op → List Op → LogView Op
  grown log ops = record { front = log.front; pinned = log.pinned; ops = log.ops ++ ops }

  -- a batch that was taken is behind the log's operations, and no other call changes it
  abbrev pub after_call : LogView Op → Event Op → EventOutcome → LogView Op
  after_call log (Batch ops) (Appended size) = grown log ops
  after_call log (Batch ops) (Replied size) = log
  after_call log (Batch ops) (Refused fault) = log
  after_call log (Request message) outcome = log

  -- A message is answered with the log's size. A batch is answered as the log's refusals say: with the new size
  -- where there is none, else with the fault.
  abbrev pub Answers : (Op → Option ℕ) → LogView Op → Event Op → EventOutcome → Type 0
  Answers floor_of log (Request message) (Replied size) = size ≡ log_size log
  Answers floor_of log (Request message) (Appended size) = ⊥
  Answers floor_of log (Request message) (Refused fault) = ⊥
  Answers floor_of log (Batch ops) (Replied size) = ⊥
  Answers floor_of log (Batch ops) (Appended size) = (append_refusal floor_of log ops ≡ None) × (size ≡ log_size (grown log ops))
  Answers floor_of log (Batch ops) (Refused fault) = append_refusal floor_of log ops ≡ Some fault

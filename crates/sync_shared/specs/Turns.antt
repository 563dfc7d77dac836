-- What a call leaves in its turn.
use Rattle.std.specs.Prelude.{◌≡◌, ℕ, List, [], ◌∷◌, ◌++◌, Option, Some, None, Result, Ok, Err}
use Rattle.ledger_log.specs.declared.fault.LogFault.{LogFault}
use Rattle.ledger_log.specs.declared.fault.LogFault.TheVariants as faults
use Rattle.ledger_log.specs.View.{LogView, log_size}
use Rattle.ledger_log.specs.Faults.{append_refusal}
use Rattle.turn_lock.specs.declared.entry.Entry.{Entry}
use Rattle.turn_lock.specs.declared.held.Held.{Held}
use Rattle.turn_lock.specs.History.{entry}
use Rattle.sync_shared.specs.Calls.{grown}
use Rattle.sync_shared.specs.declared.event.Event.{Event}
use Rattle.sync_shared.specs.declared.event.Event.TheVariants.{Batch}
use Rattle.sync_shared.specs.declared.event.EventOutcome.{EventOutcome}
use Rattle.sync_shared.specs.declared.event.EventOutcome.TheVariants as outcomes
use Rattle.sync_shared.specs.declared.refusal.ShareRefusal.{ShareRefusal}
use Rattle.sync_shared.specs.declared.refusal.ShareRefusal.TheVariants as refusals
use Rattle.sync_shared.specs.declared.turns.Answer.{Answer}
use Rattle.sync_shared.specs.declared.turns.Answer.TheVariants.{Taken, Refused, Starved}

-- what a fault is to an answer
abbrev pub answer_of : LogFault → Answer
answer_of faults.OutOfMemory = Starved
answer_of fault = Refused fault

-- what an answer is to the caller
abbrev pub result_of : Answer → Result ℕ ShareRefusal
result_of (Taken size) = Ok size
result_of (Refused fault) = Err (refusals.Log fault)
result_of Starved = Err refusals.OutOfMemory

module _ {Op : Type 0} where
  -- the entry that a batch makes, none for want of memory
  abbrev pub entries : ℕ → List Op → Answer → List (Entry (Event Op) EventOutcome)
  entries caller ops (Taken size) = entry caller (Batch ops) (outcomes.Appended size) ∷ []
  entries caller ops (Refused fault) = entry caller (Batch ops) (outcomes.Refused fault) ∷ []
  entries caller ops Starved = []

  -- what the answer says of the log before and behind it
  abbrev pub IsAnswer : (Op → Option ℕ) → LogView Op → List Op → LogView Op → Answer → Type 0
  IsAnswer floor_of log ops new (Taken size) = (append_refusal floor_of log ops ≡ None) × (size ≡ log_size (grown log ops)) × (new ≡ grown log ops)
  IsAnswer floor_of log ops new (Refused fault) = (append_refusal floor_of log ops ≡ Some fault) × (new ≡ log)
  IsAnswer floor_of log ops new Starved = new ≡ log

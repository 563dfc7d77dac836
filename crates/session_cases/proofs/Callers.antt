-- A pass stays that of its caller.
use Rattle.std.proofs.Common.{◌≡◌, ℕ, List, Option, Result, Ok, Err, ap}
use Rattle.ledger_log.specs.View.{LogView}
use Rattle.sync_net.specs.declared.message.Message.{Message}
use Rattle.sync_shared.specs.Replies.{Served}
use Rattle.sync_shared.specs.declared.event.Event.{Event}
use Rattle.sync_shared.specs.declared.event.EventOutcome.{EventOutcome}
use Rattle.sync_shared.specs.declared.refusal.ShareRefusal.{ShareRefusal}
use Rattle.sync_shared.specs.declared.refusal.ShareRefusal.TheVariants.{PassSpent, Log, OutOfMemory}
use Rattle.turn_lock.specs.Passes.{PassValue}

module _ {Op : Type 0} (floor_of : Op → Option ℕ) (opening : LogView Op) (spelling : Op → List ℕ) (p q : PassValue (LogView Op) (Event Op) EventOutcome) (message : Message Op) where
  pub served_caller : (result : Result (Message Op) ShareRefusal) → Served floor_of opening spelling p message q result → q.caller ≡ p.caller
  served_caller (Ok reply) s = ap (λ (x : PassValue (LogView Op) (Event Op) EventOutcome). x.caller) s.2.pass
  served_caller (Err PassSpent) s = ap (λ (x : PassValue (LogView Op) (Event Op) EventOutcome). x.caller) s.1
  served_caller (Err (Log fault)) s = absurd s
  served_caller (Err OutOfMemory) s = ap (λ (x : PassValue (LogView Op) (Event Op) EventOutcome). x.caller) s.pass

-- What a session over a tape leaves whose link ended.
use Rattle.std.specs.Prelude.{◌≡◌, ℕ, List, [], filter_map, flat_map}
use Rattle.ledger_codec.specs.Frames.{Leads}
use Rattle.ledger_log.specs.Any.{any_floor, any_spelling}
use Rattle.ledger_log.specs.Spellings.{any_at}
use Rattle.ledger_log.specs.View.{LogView}
use Rattle.ledger_log.specs.declared.any.AnyOp.{AnyOp}
use Rattle.sync_net.specs.declared.message.Message.{Message}
use Rattle.sync_net.specs.Messages.{message_at, message_written}
use Rattle.sync_sessions.specs.Hearing.{frame_of, message_of}
use Rattle.sync_sessions.specs.Turns.{Replies}
use Rattle.sync_shared.specs.Calls.{Answers, after_call}
use Rattle.sync_shared.specs.declared.event.Event.{Event}
use Rattle.sync_shared.specs.declared.event.EventOutcome.{EventOutcome}
use Rattle.turn_lock.specs.History.{Legal}
use Rattle.turn_lock.specs.declared.entry.Entry.{Entry}

-- All that was given are whole frames. The messages among them got these replies, whose frames were sent, and the history that the caller saw is legal.
pub record IsAnswered (opening : LogView AnyOp) (caller : ℕ) (seen : List (Entry (Event AnyOp) EventOutcome)) (given sent : List ℕ) : Type 0 where
  pub bodies : List (List ℕ)
  pub replies : List (Message AnyOp)
  pub led : Leads 10485760 given bodies []
  pub sent_are : sent ≡ flat_map (frame_of (message_written any_spelling)) replies
  pub each : Replies any_floor opening any_spelling caller [] (filter_map (message_of (message_at any_at)) bodies) replies seen
  pub legal : Legal after_call (Answers any_floor) opening seen

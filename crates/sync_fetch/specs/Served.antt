-- What a fetch answers over a link that serves a log.
use Rattle.std.specs.Prelude.{◌≡◌, ◌⊎◌, ◌<◌, ◌≤◌, ℕ, ◌^◌, false, List, [], ◌∷◌, ◌++◌, map, Option, Some, None, Result, Ok, Err}
use Rattle.sha2.specs.Sha256.{sha256}
use Rattle.ledger_codec.specs.Parsing.{Parsed}
use Rattle.ledger_codec.specs.Sequences.{string_written}
use Rattle.ledger_log.specs.View.{LogView, log_size, log_root}
use Rattle.ledger_log.specs.declared.target.Target.{Target}
use Rattle.ledger_log.specs.declared.target.CompactTarget.{CompactTarget}
use Rattle.sync_net.specs.declared.ask.Answer.{Answer}
use Rattle.sync_net.specs.declared.ask.Pending.{Pending}
use Rattle.sync_net.specs.declared.ask.Submitted.{Submitted}
use Rattle.sync_net.specs.declared.fault.SubmitRefusal.{SubmitRefusal}
use Rattle.sync_net.specs.declared.message.Message.{Message}
use Rattle.sync_net.specs.Asks.{is_response_to, refusal_in}
use Rattle.sync_net.specs.Core.{LogData, unexpected}
use Rattle.sync_net.specs.Service.{Service, owes}
use Rattle.sync_net.specs.Core.{reply_to}
use Rattle.sync_net.specs.View.{MachineView}
use Rattle.sync_client.specs.declared.fault.SyncFault.{SyncFault}
use Rattle.sync_client.specs.declared.fault.SyncFault.TheVariants as faults
use Rattle.sync_client.specs.Owing.{MayStop, OwesNothing}
use Rattle.sync_fetch.specs.Told.{HeldAnswer}

-- ---- whole fetches

-- The data that a link tells stand for this log, whose operations are written so. It is no longer than a log may be, and its floor is one of its places.
pub record IsToldOf {Op : Type 0} (written : Op → List ℕ) (held : LogData) : Type 0 where
  pub log : LogView Op
  pub is : held.log ≡ record { front = log.front; pinned = log.pinned; ops = map written log.ops }
  pub most : log_size log ≤ 2 ^ 62
  pub floor : held.floor < log_size log

-- the target is the log's own: its root, and its places from the floor on
pub record IsTargetOf {Op : Type 0} (written : Op → List ℕ) (held : LogData) (log : LogView Op) (target : Target) : Type 0 where
  pub root : target.root ≡ log_root sha256 written log
  pub start : target.start ≡ held.floor
  pub end : target.end ≡ log_size log

-- nothing is held and nothing is owed: the exchange is over, and another may begin
abbrev pub IsOver : LogData → MachineView → Option Service → Type 0
IsOver held m now = (m.held ≡ []) × OwesNothing held now

-- a fetch of the target gives the log's own; a call that gives none had a call of the link fail, memory wanting, or no number left
abbrev pub FetchesTarget : {Op : Type 0} → (Op → List ℕ) → LogData → LogView Op → Result Target SyncFault → MachineView → Option Service → Type 0
FetchesTarget written held log (Ok target) m now = IsTargetOf written held log target × IsOver held m now
FetchesTarget written held log (Err e) m now = MayStop e

-- who serves a log whole doesn't serve its compact target, and says so; else a call of the link failed, memory was wanting, or no number was left
abbrev pub RefusesCompact : LogData → Result CompactTarget SyncFault → Option Service → Type 0
RefusesCompact held (Ok target) now = ⊥
RefusesCompact held (Err (faults.Server code text)) now = (code ≡ unexpected.code) × (text ≡ unexpected.text) × OwesNothing held now
RefusesCompact held (Err e) now = MayStop e

-- ---- one exchange

-- the frame of a request that was made is sent
abbrev pub ServesSent : Result (Unit {0}) SyncFault → Result Submitted SubmitRefusal → Option Service → Option Service → Type 0
ServesSent (Ok x) made None now = now ≡ None
ServesSent (Ok x) made (Some s) now = (made_as : Submitted) × (made ≡ Ok made_as) × (now ≡ owes s (reply_to s.log made_as.frame.items))
ServesSent (Err e) made before now = Unit {0}

-- one reply is owed alone: nothing of it is held, or a part of it
abbrev pub IsDue : LogData → List ℕ → List ℕ → Option Service → Type 0
IsDue held reply bytes now =
    ((bytes ≡ []) × (now ≡ Some (record { log = held; delivering = []; waiting = reply ∷ [] })))
    ⊎ ((left : List ℕ) × (bytes ++ left ≡ reply) × (now ≡ Some (record { log = held; delivering = left; waiting = [] })))

-- the machine with the whole reply
abbrev pub with_reply : List ℕ → MachineView → MachineView
with_reply body m = record m { held = string_written body }

-- the machine answers to the whole reply, or the link failed or memory was wanting
abbrev pub NextServed : {Op : Type 0} → Result (Answer Op) SyncFault → (List ℕ → Parsed Op) → List ℕ → LogData → MachineView → MachineView → Option Service → Type 0
NextServed (Ok answer) read body held m n now = HeldAnswer (Ok (Some answer)) read (with_reply body m) n × OwesNothing held now
NextServed {Op} (Err fault) read body held m n now = MayStop fault ⊎ (HeldAnswer {Op = Op} (Err fault) read (with_reply body m) n × OwesNothing held now)

-- the reply is what was asked for; or it is another message, by which the server refuses or answers with another kind
abbrev pub ReplyServed : {Op : Type 0} → Result (Message Op) SyncFault → Pending → Message Op → LogData → MachineView → Option Service → Type 0
ReplyServed (Ok message) p m held n now = (message ≡ m) × IsOver held n now
ReplyServed (Err (faults.Server code text)) p m held n now = (is_response_to p.ask m ≡ false) × (number : ℕ) × (refusal_in m ≡ Some (record { request_id = number; error_code = code; message = text })) × OwesNothing held now
ReplyServed (Err (faults.UnexpectedResponse number)) p m held n now = (is_response_to p.ask m ≡ false) × (refusal_in m ≡ None)
ReplyServed (Err e) p m held n now = MayStop e

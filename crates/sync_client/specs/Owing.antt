-- What a session has over a link that serves the target's log: the replies to its pending asks are owed, and it keeps the log's own operations.
use Rattle.std.specs.Prelude.{◌≡◌, ℕ, ◌+◌, ◌-◌, ◌^◌, ◌<◌, ◌≤◌, ◌⊎◌, Bool, false, take, List, [], ◌∷◌, ◌++◌, length, map, All, Option, Some, Result, Ok, Err, slice_get, remove}
use Rattle.std.specs.declared.ops.Range.{Range}
use Rattle.sha2.specs.Sha256.{sha256}
use Rattle.ledger_codec.specs.Parsing.{Parsed}
use Rattle.ledger_codec.specs.Spelling.{SpellLaws}
use Rattle.ledger_merkle.specs.declared.proof.Part.{Part as Fetched}
use Rattle.ledger_log.specs.View.{LogView, log_range, log_peaks_at}
use Rattle.ledger_log.specs.declared.target.Target.{Target}
use Rattle.sync_net.specs.Core.{LogData, reply_frame}
use Rattle.sync_net.specs.Service.{Service, ServiceReceived}
use Rattle.sync_net.specs.View.{MachineView}
use Rattle.sync_client.specs.declared.collector.Piece.{Piece}
use Rattle.sync_client.specs.declared.fault.SyncFault.{SyncFault}
use Rattle.sync_client.specs.declared.fault.SyncFault.TheVariants as faults
use Rattle.sync_client.specs.Collected.{Collected}
use Rattle.sync_client.specs.Asking.{Plan}
use Rattle.sync_client.specs.Seen.{beside, seen}
use Rattle.sync_client.specs.Serving.{HasTarget, HasLater}
use Rattle.sync_client.specs.Updates.{targets_in}
use Rattle.sync_client.specs.Session.{Ask, State, request_for}

-- what is true of a family's operations: they are read again as they were written, are written as they are hashed, and are short
pub record AreSent {Op : Type 0} (read : List ℕ → Parsed Op) (written spelling : Op → List ℕ) (sound : Op → Type 0) : Type 0 where
  pub laws : SpellLaws read written sound (λ op. Unit {0})
  pub same : written ≡ spelling
  pub short : (op : Op) → sound op → length (written op) ≤ 96

-- ---- what was asked and kept

-- a range of the target's places that isn't empty
pub record IsWithin (target : Target) (r : Range ℕ) : Type 0 where
  pub least : target.start ≤ r.start
  pub some : r.start < r.end
  pub most : r.end ≤ target.end

-- the numbers rise, from this one on
abbrev pub Rises : ℕ → List Ask → Type 0
Rises low [] = Unit {0}
Rises low (a ∷ others) = (low ≤ a.number) × Rises (a.number + 1) others

-- the numbers are of 64 bits, and were drawn before the next one
pub record AreDrawn (next : Option ℕ) (asks : List Ask) : Type 0 where
  pub small : All (λ (a : Ask). a.number < 2 ^ 64) asks
  pub next_small : (n : ℕ) → next ≡ Some n → n < 2 ^ 64
  pub before : (n : ℕ) → next ≡ Some n → All (λ (a : Ask). a.number < n) asks

-- a piece of the log's own operations, within the target's range
pub record IsOwn {Op : Type 0} (log : LogView Op) (target : Target) (p : Piece Op) : Type 0 where
  pub least : target.start ≤ p.at
  pub most : p.at + length p.ops ≤ target.end
  pub own : p.ops ≡ log_range log p.at (length p.ops)

-- the nodes are those of the log where the first piece is kept
abbrev pub HasNodes : {Op : Type 0} → (Op → List ℕ) → LogView Op → Target → List (List ℕ) → Piece Op → Type 0
HasNodes written log target nodes p = p.at ≡ target.start → nodes ≡ log_peaks_at sha256 written log target.start

-- an ask for a target that the log has: one with this start, and no later end
pub record IsOwnAsk {Op : Type 0} (written : Op → List ℕ) (log : LogView Op) (target : Target) (a : Ask) : Type 0 where
  pub has : HasTarget written log a.target
  pub start : a.target.start ≡ target.start
  pub end : a.target.end ≤ target.end
  pub within : IsWithin a.target a.range

-- what a session has asked and kept over the log
pub record Follows {Op : Type 0} (written : Op → List ℕ) (log : LogView Op) (s : State Op) : Type 0 where
  pub batch : 0 < s.plan.limits.batch
  pub many : 0 < s.plan.limits.outstanding
  pub has : HasTarget written log s.plan.target
  pub fresh : s.plan.target.start ≤ s.fresh
  pub pending : All (IsOwnAsk written log s.plan.target) s.pending
  pub rests : All (IsWithin s.plan.target) s.rests
  pub rises : Rises 0 s.pending
  pub drawn : AreDrawn s.next s.pending
  pub kept : All (IsOwn log s.plan.target) s.kept
  pub nodes : All (HasNodes written log s.plan.target s.pinned) s.kept

-- Of the answers on later targets that are to come these are left in the end. The log has each target before them, and they are fresh after the one that was taken last.
pub record Foresees {Op : Type 0} (written : Op → List ℕ) (log : LogView Op) (left : List (Option Target)) (plan : Plan) (updates : List (Option Target)) : Type 0 where
  pub current : Target
  pub took : List (Option Target)
  pub low : plan.low ≡ current.start
  pub end : plan.target.end ≡ current.end
  pub all : updates ≡ took ++ left
  pub later : HasLater written log current (targets_in took)

-- ---- what is owed

-- the reply that is owed to an ask
abbrev pub owed_to : LogData → Ask → List ℕ
owed_to held a = reply_frame held (record { number = a.number; ask = request_for a.target a.range })

-- the replies that are owed to asks, in order, none of them begun
abbrev pub awaited : LogData → List Ask → Service
awaited held asks = record { log = held; delivering = []; waiting = map (owed_to held) asks }

-- the link owes the replies to the pending asks, in order, and has begun none
abbrev pub IsOwed : {Op : Type 0} → LogData → State Op → Option Service → Type 0
IsOwed held s now = now ≡ Some (awaited held s.pending)

-- the reply to the ask at this place was begun: these bytes of it are held, and those are left
pub record Begun (held : LogData) (asks : List Ask) (now : Option Service) (bytes : List ℕ) : Type 0 where
  pub place : ℕ
  pub ask : Ask
  pub left : List ℕ
  pub at : slice_get asks place ≡ Some ask
  pub parts : bytes ++ left ≡ owed_to held ask
  pub told : now ≡ Some (record { log = held; delivering = left; waiting = map (owed_to held) (remove asks place) })

-- nothing of a reply is held, or a part of one
abbrev pub Midway : LogData → List Ask → Option Service → List ℕ → Type 0
Midway held asks now bytes = ((bytes ≡ []) × (now ≡ Some (awaited held asks))) ⊎ Begun held asks now bytes

-- A session is served, with these answers on later targets left in the end: an open machine holds no bytes, and what the session awaits is owed.
pub record IsServed {Op : Type 0} (written : Op → List ℕ) (held : LogData) (log : LogView Op) (left : List (Option Target)) (s : State Op) (bytes : List ℕ) (closed : Bool) (now : Option Service) : Type 0 where
  pub follows : Follows written log s
  pub foresees : Foresees written log left s.plan s.updates
  pub owed : IsOwed held s now
  pub empty : bytes ≡ []
  pub live : closed ≡ false

-- ---- what a call over such a link answers

-- a call of the link failed, memory was wanting, or no number was left
abbrev pub MayStop : SyncFault → Type 0
MayStop faults.Network = Unit {0}
MayStop faults.OutOfMemory = Unit {0}
MayStop faults.Exhausted = Unit {0}
MayStop e = ⊥

-- the session is still served
abbrev pub Serving : {Op X : Type 0} → (Op → List ℕ) → LogData → LogView Op → List (Option Target) → State Op → Result X SyncFault → List ℕ → Bool → Option Service → Type 0
Serving written held log left s (Ok x) bytes closed now = IsServed written held log left s bytes closed now
Serving written held log left s (Err e) bytes closed now = MayStop e

-- the same, with some number of strays, and these answers to come
abbrev pub ServesOn : {Op : Type 0} → (Op → List ℕ) → LogData → LogView Op → List (Option Target) → Result (Unit {0}) SyncFault → MachineView → Collected Op → List (Option Target) → Option Service → Type 0
ServesOn written held log left (Ok x) m c updates now = (strays : ℕ) × IsServed written held log left (seen m c (beside strays updates)) m.held m.closed now
ServesOn written held log left (Err e) m c updates now = MayStop e

-- bytes came, or the end, by what the link serves
abbrev pub Gives : Result (Unit {0}) SyncFault → MachineView → MachineView → Option Service → Option Service → Type 0
Gives (Ok x) m n before now = (count : ℕ) × (buffer : List ℕ) × (0 < length buffer) × (n ≡ record m { held = m.held ++ take count buffer }) × ServiceReceived before now (Ok count) buffer
Gives (Err faults.RequestChannelClosed) m n before now = (buffer : List ℕ) × (0 < length buffer) × ServiceReceived before now (Ok 0) buffer
Gives (Err e) m n before now = Unit {0}

-- the link serves these data, and owes nothing
abbrev pub OwesNothing : LogData → Option Service → Type 0
OwesNothing held now = now ≡ Some (record { log = held; delivering = []; waiting = [] })

-- how a call begins over a link that serves a log and owes nothing: an open machine holds no bytes, and its numbers are of 64 bits
pub record Begins (held : LogData) (m : MachineView) (now : Option Service) : Type 0 where
  pub live : m.closed ≡ false
  pub empty : m.held ≡ []
  pub small : (n : ℕ) → m.next ≡ Some n → n < 2 ^ 64
  pub told : OwesNothing held now

-- the part is the log's own, and the link owes nothing again
pub record IsLogs {Op : Type 0} (written : Op → List ℕ) (held : LogData) (log : LogView Op) (target : Target) (part : Fetched Op) (m : MachineView) (now : Option Service) : Type 0 where
  pub ops : part.ops ≡ log_range log target.start (target.end - target.start)
  pub pinned : part.pinned ≡ log_peaks_at sha256 written log target.start
  pub empty : m.held ≡ []
  pub told : OwesNothing held now

-- the part is the log's own range of the target that was synced; a call that gives none had a call of the link fail, memory wanting, or no number left
abbrev pub Fetches : {Op : Type 0} → (Op → List ℕ) → LogData → LogView Op → Result (Target × Fetched Op) SyncFault → MachineView → Option Service → Type 0
Fetches written held log (Ok x) m now = IsLogs written held log x.0 x.1 m now
Fetches written held log (Err e) m now = MayStop e

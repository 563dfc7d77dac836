-- How a session over a link ends.
use Rattle.std.specs.Prelude.{◌≡◌, ◌≢◌, ◌⊎◌, ◌≤◌, ◌^◌, ℕ, ◌+◌, ◌-◌, Bool, ◌||◌, true, false, List, [], ◌++◌, length, Result, Ok, Err, Option, None, option_map}
use Rattle.ledger_codec.specs.Causes.{Rose}
use Rattle.ledger_codec.specs.Frames.{Whole, front, Leads}
use Rattle.ledger_codec.specs.Parsing.{Parsed}
use Rattle.ledger_merkle.specs.declared.proof.Part.{Part as Fetched}
use Rattle.ledger_log.specs.declared.target.Target.{Target}
use Rattle.sync_net.specs.View.{MachineView}
use Rattle.sync_net.specs.Wire.{Wire}
use Rattle.sync_client.specs.declared.fault.SyncFault.{SyncFault}
use Rattle.sync_client.specs.declared.fault.SyncFault.TheVariants as faults
use Rattle.sync_client.specs.Asking.{LimitsView, first_plan}
use Rattle.sync_client.specs.Parts.{Assembles}
use Rattle.sync_client.specs.Tiles.{size_of_pieces}
use Rattle.sync_client.specs.Session.{Ask, State, Rules, rules_for, started, Nothing, Send, ask_next, is_whole, frames_of, InvalidResponse, UnexpectedResponse, Server, InvalidProof, TooManyStrays, StaleUpdate, refused_in}
use Rattle.sync_client.specs.Runs.{Reaches, Session, Outcome, Complete, Offends, Closes, Waits, Exhausts}

-- what a link tells after it was given and sent these bytes, and maybe the end
abbrev pub wire_after : List ℕ → Bool → List ℕ → Wire → Wire
wire_after given ended sent w = record { given = w.given ++ given; ended = w.ended || ended; sent = w.sent ++ sent }

-- where it tells, it tells that these bytes were given and sent since, and whether the end was given in between
abbrev pub Since : Option Wire → Option Wire → List ℕ → Bool → List ℕ → Type 0
Since before now given ended sent = now ≡ option_map (wire_after given ended sent) before

-- how a call begins: the session's rules and state, the bytes that the machine holds, whether it is closed, and the link's tellings
pub record Origin (Op : Type 0) : Type 0 where
  pub rules : Rules Op
  pub start : State Op
  pub held : List ℕ
  pub closed : Bool
  pub wire : Option Wire
  pub count : ℕ

-- a call for this target, with these answers on later ones to come, under these limits begins with nothing asked, and the machine's next number
abbrev pub origin_of : {Op : Type 0} → (List ℕ → Parsed Op) → (Op → List ℕ) → (Op → List ℕ) → Target → List (Option Target) → LimitsView → MachineView → Option Wire → ℕ → Origin Op
origin_of read written spelling target updates limits m wire count = record {
  rules = rules_for read written spelling;
  start = started (first_plan target limits) m.next updates;
  held = m.held;
  closed = m.closed;
  wire = wire;
  count = count;
}

-- the bytes of these asks
abbrev pub bytes_of : {Op : Type 0} → Origin Op → List Ask → List ℕ
bytes_of o asks = frames_of o.rules.written asks

-- operations kept, and strays counted
abbrev pub handled : {Op : Type 0} → State Op → ℕ
handled s = size_of_pieces s.kept + s.strays

-- What was given in the call was read while the session waited: it is nothing, or else its last piece, which no buffer exceeds, came over bytes over which the session waits.
abbrev pub IsRead : {Op : Type 0} → Origin Op → List ℕ → Type 0
IsRead o given = (given ≡ []) ⊎ ((front : List ℕ) × (piece : List ℕ) × (asks : List Ask) × (given ≡ front ++ piece) × (length piece ≤ 4096) × Session o.rules o.start (o.held ++ front) false Waits asks)

-- The call came to this state, with these bytes held: bytes were given, their first frames were taken, and these asks were sent. Each frame that was taken brought an operation or was counted as a stray.
pub record Came {Op : Type 0} (o : Origin Op) (t : State Op) (rest : List ℕ) (closed : Bool) (wire : Option Wire) (count : ℕ) : Type 0 where
  pub given : List ℕ
  pub bodies : List (List ℕ)
  pub asks : List Ask
  pub led : Leads 10485760 (o.held ++ given) bodies rest
  pub reached : Reaches o.rules o.start bodies asks t
  pub told : Since o.wire wire given false (bytes_of o asks)
  pub read : IsRead o given
  pub few : length bodies + handled o.start ≤ handled t
  pub strays : t.strays ≤ 1024
  pub later : o.count ≤ count
  pub as_before : closed ≡ o.closed
  pub still : o.closed ≡ true → (t ≡ o.start) × (wire ≡ o.wire) × (count ≡ o.count)

-- the answers on later targets that were taken off as a session ended so
abbrev pub refused_at : {Op : Type 0} → Outcome Op → List (Option Target)
refused_at (Complete u) = []
refused_at (Offends offence) = refused_in offence
refused_at Closes = []
refused_at Waits = []
refused_at Exhausts = []

-- The session over the bytes that were held and given ended so, all of its asks were sent, and these answers on later targets are left. Nothing was read once it had ended. It took no more frames than its range has places and strays are let through.
pub record Over {Op : Type 0} (o : Origin Op) (updates : List (Option Target)) (wire : Option Wire) (outcome : Outcome Op) : Type 0 where
  pub given : List ℕ
  pub ended : Bool
  pub asks : List Ask
  pub session : Session o.rules o.start (o.held ++ given) ended outcome asks
  pub told : Since o.wire wire given ended (bytes_of o asks)
  pub read : IsRead o given
  pub waited : ended ≡ true → Session o.rules o.start (o.held ++ given) false Waits asks
  pub left : session.last.updates ≡ refused_at outcome ++ updates
  pub few : length session.bodies ≤ session.last.plan.target.end - session.last.plan.target.start + 1024
  pub near : session.last.plan.target.end ≤ 2 ^ 62
  pub opened : o.closed ≡ false

-- An ask that the session comes to over these bytes wasn't sent; those before it were. The machine holds what is behind the last frame that was taken.
pub record SendStopped {Op : Type 0} (o : Origin Op) (held : List ℕ) (updates : List (Option Target)) (wire : Option Wire) : Type 0 where
  pub given : List ℕ
  pub bodies : List (List ℕ)
  pub sent : List Ask
  pub last : State Op
  pub unsent : Ask
  pub after : State Op
  pub led : Leads 10485760 (o.held ++ given) bodies held
  pub reached : Reaches o.rules o.start bodies sent last
  pub next : ask_next last ≡ Send unsent after
  pub told : Since o.wire wire given false (bytes_of o sent)
  pub read : IsRead o given
  pub left : last.updates ≡ updates
  pub opened : o.closed ≡ false

-- Memory was wanting. The session over the bytes that were taken in came to this state, and these asks were sent. The machine holds what is behind the last frame that was taken, or behind the answer that wasn't kept; it isn't closed. Bytes that weren't taken in came last, while the session waited.
pub record Starved {Op : Type 0} (o : Origin Op) (m : MachineView) (updates : List (Option Target)) (wire : Option Wire) (count : ℕ) : Type 0 where
  pub given : List ℕ
  pub lost : List ℕ
  pub bodies : List (List ℕ)
  pub rest : List ℕ
  pub sent : List Ask
  pub last : State Op
  pub led : Leads 10485760 (o.held ++ given) bodies rest
  pub reached : Reaches o.rules o.start bodies sent last
  pub told : Since o.wire wire (given ++ lost) false (bytes_of o sent)
  pub read : IsRead o given
  pub waited : (lost ≡ []) ⊎ ((length lost ≤ 4096) × Session o.rules o.start (o.held ++ given) false Waits sent)
  pub holds : (m.held ≡ rest) ⊎ ((ask_next last ≡ Nothing) × (is_whole last ≡ false) × (body : List ℕ) × (front 10485760 rest ≡ Whole body m.held))
  pub left : last.updates ≡ updates
  pub as_before : m.closed ≡ o.closed
  pub later : o.count ≤ count

-- the session waits, and the machine holds what is behind the last frame that was taken
abbrev pub StillWaits : {Op : Type 0} → Origin Op → List ℕ → List (Option Target) → Option Wire → Type 0
StillWaits o held updates wire = (over : Over o updates wire Waits) × (held ≡ over.session.rest)

-- why a fault came, and what the machine is then
abbrev pub Stopped : {Op : Type 0} → Origin Op → SyncFault → MachineView → List (Option Target) → Option Wire → ℕ → Type 0
Stopped o faults.Network m updates wire count = Rose o.count count × (m.closed ≡ false) × (StillWaits o m.held updates wire ⊎ SendStopped o m.held updates wire)
Stopped o faults.RequestChannelClosed m updates wire count = (m.closed ≡ true) × Over o updates wire Closes
Stopped o faults.InvalidResponse m updates wire count = (m.closed ≡ true) × Over o updates wire (Offends InvalidResponse)
Stopped o (faults.UnexpectedResponse number) m updates wire count = (m.closed ≡ true) × Over o updates wire (Offends (UnexpectedResponse number))
Stopped o (faults.Server code text) m updates wire count = (m.closed ≡ true) × Over o updates wire (Offends (Server code text))
Stopped o (faults.InvalidProof number) m updates wire count = (m.closed ≡ false) × Over o updates wire (Offends (InvalidProof number))
Stopped o faults.TooManyStrays m updates wire count = (m.closed ≡ false) × Over o updates wire (Offends TooManyStrays)
Stopped o (faults.StaleUpdate start end) m updates wire count = (m.closed ≡ false) × (stale : Target) × (start ≡ stale.start) × (end ≡ stale.end) × Over o updates wire (Offends (StaleUpdate stale))
Stopped {Op} o (faults.WrongRoot found) m updates wire count = (m.closed ≡ false) × (t : State Op) × Over o updates wire (Complete t) × (ops : List Op) × Assembles t.plan.target.start t.kept ops × (found ≡ o.rules.root t.pinned t.plan.target.start ops) × (found ≢ t.plan.target.root)
Stopped o faults.Closed m updates wire count = (m.closed ≡ true) × (o.closed ≡ true) × (updates ≡ o.start.updates) × (wire ≡ o.wire) × (count ≡ o.count)
Stopped o faults.Exhausted m updates wire count = (m.closed ≡ false) × (m.next ≡ None) × Over o updates wire Exhausts
Stopped o faults.OutOfMemory m updates wire count = Starved o m updates wire count

-- The session kept the whole range, and this is its part, with the root of the target that was synced. The machine is open and has nothing pending; its next number is the session's, and it holds what is behind the last frame that was taken.
pub record Finished {Op : Type 0} (o : Origin Op) (synced : Target) (part : Fetched Op) (m : MachineView) (updates : List (Option Target)) (wire : Option Wire) : Type 0 where
  pub last : State Op
  pub over : Over o updates wire (Complete last)
  pub target : synced ≡ last.plan.target
  pub start : part.start ≡ synced.start
  pub pinned : part.pinned ≡ last.pinned
  pub ops : Assembles synced.start last.kept part.ops
  pub only : (other : List Op) → Assembles synced.start last.kept other → other ≡ part.ops
  pub root : o.rules.root part.pinned part.start part.ops ≡ synced.root
  pub unclosed : m.closed ≡ false
  pub nothing_pending : m.pending ≡ []
  pub next : m.next ≡ last.next
  pub held : m.held ≡ over.session.rest

-- how a call ends, with the target that was synced and its part, or not
abbrev pub Ended : {Op : Type 0} → Result (Target × Fetched Op) SyncFault → Origin Op → MachineView → List (Option Target) → Option Wire → ℕ → Type 0
Ended (Ok x) o m updates wire count = Finished o x.0 x.1 m updates wire
Ended (Err fault) o m updates wire count = Stopped o fault m updates wire count

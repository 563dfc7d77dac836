-- What the steps of a session answer.
use Rattle.std.specs.Prelude.{◌≡◌, ◌<◌, ◌+◌, ◌⊎◌, ℕ, length, Bool, true, false, List, ◌∷◌, ◌++◌, Option, Some, None, Result, Ok, Err}
use Rattle.std.specs.declared.vec.Vec.{Vec}
use Rattle.std.specs.declared.alloc.Global.{Global}
use Rattle.ledger_codec.specs.declared.framing.FrameError.{FrameError}
use Rattle.ledger_codec.specs.Frames.{Whole, Short, Bad, front}
use Rattle.std.specs.declared.ops.Range.{Range}
use Rattle.sync_net.specs.declared.response.GetOperationsResponse.{GetOperationsResponse}
use Rattle.sync_net.specs.View.{MachineView}
use Rattle.ledger_log.specs.declared.target.Target.{Target}
use Rattle.sync_client.specs.Asking.{Judge, good}
use Rattle.sync_client.specs.Collected.{Collected, target_of, accepted, replanned, is_complete}
use Rattle.sync_client.specs.declared.fault.SyncFault.{SyncFault}
use Rattle.sync_client.specs.declared.fault.SyncFault.TheVariants as faults
use Rattle.sync_client.specs.Session.{Ask, Nothing, Send, Exhausted, ask_next, frame_of, Rules, Offence, InvalidResponse, UnexpectedResponse, Server, InvalidProof, TooManyStrays, StaleUpdate, refused_in, take_frame}
use Rattle.sync_client.specs.Seen.{Beside, seen, Paired}
use Rattle.sync_client.specs.Updates.{is_stale, with_target, heeded}

-- there was room, and one range more is pending
pub record OneMore {Op : Type 0} (c d : Collected Op) : Type 0 where
  pub room : length c.pending < c.plan.limits.outstanding
  pub more : length d.pending ≡ length c.pending + 1

-- these bytes are the frame of the ask that an open machine and a collector make next, as the session does, whatever is beside them
abbrev pub Made : {Op : Type 0} → List ℕ → (Op → List ℕ) → MachineView → MachineView → Collected Op → Collected Op → Type 0
Made bytes written m n c d = (a : Ask) × (bytes ≡ frame_of written a) × ((b : Beside) → ask_next (seen m c b) ≡ Send a (seen n d b)) × Paired n d × (m.closed ≡ false) × (n.closed ≡ false) × (n.held ≡ m.held) × OneMore c d

-- the next ask was made, or none may be made; for want of memory the machine is as it was
abbrev pub AsksNext : {Op : Type 0} → Result (Option (Vec ℕ Global)) SyncFault → (Op → List ℕ) → MachineView → MachineView → Collected Op → Collected Op → Type 0
AsksNext (Ok (Some frame)) written m n c d = Made frame.items written m n c d
AsksNext (Ok None) written m n c d = ((b : Beside) → ask_next (seen m c b) ≡ Nothing) × (n ≡ m) × (d ≡ c)
AsksNext (Err faults.Closed) written m n c d = (m.closed ≡ true) × (n ≡ m)
AsksNext (Err faults.Exhausted) written m n c d = ((b : Beside) → ask_next (seen m c b) ≡ Exhausted) × (m.closed ≡ false) × (m.next ≡ None) × (n ≡ m)
AsksNext (Err faults.OutOfMemory) written m n c d = n ≡ m
AsksNext (Err e) written m n c d = ⊥

-- the whole frame at the front of the held bytes offends so, and the machine is closed after it or isn't; a stale target was taken off the answers
abbrev pub OffendsIn : {Op : Type 0} → Rules Op → Offence → MachineView → MachineView → Collected Op → Beside → Beside → Bool → Type 0
OffendsIn rules offence m n c b e closed = (body : List ℕ) × (rest : List ℕ) × (front 10485760 m.held ≡ Whole body rest) × (take_frame rules (seen m c b) body ≡ Err offence) × (m.closed ≡ false) × (n.closed ≡ closed) × (b.updates ≡ refused_in offence ++ e.updates)

-- The next frame was taken: what an open machine and a collector do with it is what the session does. For want of memory the frame is still held, or it is an answer that wasn't kept.
abbrev pub TakesNext : {Op : Type 0} → Result Bool SyncFault → Rules Op → MachineView → MachineView → Collected Op → Collected Op → Beside → Beside → Type 0
TakesNext (Ok true) rules m n c d b e = (body : List ℕ) × (front 10485760 m.held ≡ Whole body n.held) × (take_frame rules (seen m c b) body ≡ Ok (seen n d e)) × Paired n d × (m.closed ≡ false) × (n.closed ≡ false)
TakesNext (Ok false) rules m n c d b e = (front 10485760 m.held ≡ Short) × (m.closed ≡ false) × (n ≡ m) × (d ≡ c) × (e ≡ b)
TakesNext (Err faults.InvalidResponse) rules m n c d b e = OffendsIn rules InvalidResponse m n c b e true
TakesNext (Err (faults.UnexpectedResponse number)) rules m n c d b e = OffendsIn rules (UnexpectedResponse number) m n c b e true
TakesNext (Err (faults.Server code text)) rules m n c d b e = OffendsIn rules (Server code text) m n c b e true
TakesNext (Err (faults.InvalidProof number)) rules m n c d b e = OffendsIn rules (InvalidProof number) m n c b e false
TakesNext (Err faults.TooManyStrays) rules m n c d b e = OffendsIn rules TooManyStrays m n c b e false
TakesNext (Err (faults.StaleUpdate start end)) rules m n c d b e = (stale : Target) × (start ≡ stale.start) × (end ≡ stale.end) × OffendsIn rules (StaleUpdate stale) m n c b e false
TakesNext (Err faults.RequestChannelClosed) rules m n c d b e = (bad : FrameError) × (front 10485760 m.held ≡ Bad bad) × (m.closed ≡ false) × (n.closed ≡ true) × (e.updates ≡ b.updates)
TakesNext (Err faults.Closed) rules m n c d b e = (m.closed ≡ true) × (n ≡ m) × (e.updates ≡ b.updates)
TakesNext (Err faults.OutOfMemory) rules m n c d b e = (m.closed ≡ false) × (n.closed ≡ false) × ((n.held ≡ m.held) ⊎ ((body : List ℕ) × (front 10485760 m.held ≡ Whole body n.held))) × (e.updates ≡ b.updates)
TakesNext (Err e) rules m n c d b f = ⊥

-- a later target that was named was taken, or is stale
abbrev pub TakesTarget : {Op : Type 0} → Result (Unit {0}) SyncFault → Target → Collected Op → Collected Op → Type 0
TakesTarget (Ok x) later c d = (is_stale c.plan later ≡ false) × (d ≡ replanned (with_target c.plan later) c)
TakesTarget (Err (faults.StaleUpdate start end)) later c d = (is_stale c.plan later ≡ true) × (start ≡ later.start) × (end ≡ later.end)
TakesTarget (Err e) later c d = ⊥

-- the next answer on a later target is heeded
abbrev pub Heeds : {Op : Type 0} → Result (Unit {0}) SyncFault → Collected Op → Collected Op → List (Option Target) → List (Option Target) → Type 0
Heeds (Ok x) c d before now = (heeded (is_complete c) c.plan before ≡ Ok (d.plan, now)) × (d ≡ replanned d.plan c)
Heeds (Err (faults.StaleUpdate start end)) c d before now = (stale : Target) × (start ≡ stale.start) × (end ≡ stale.end) × (heeded (is_complete c) c.plan before ≡ Err stale) × (before ≡ Some stale ∷ now)
Heeds (Err e) c d before now = ⊥

-- An answer to a range was taken: a good one is kept, and the next answer on a later target heeded. Another leaves all as it was.
abbrev pub TakesReply : {Op : Type 0} → Result (Unit {0}) SyncFault → (Target → Judge Op) → Range ℕ → ℕ → GetOperationsResponse Op → Collected Op → Collected Op → List (Option Target) → List (Option Target) → Type 0
TakesReply (Ok x) proved r number m c d before now = (good (proved (target_of c r)) c.plan.target.start r m ≡ true) × Heeds (Ok x) (accepted r m c) d before now
TakesReply (Err (faults.StaleUpdate start end)) proved r number m c d before now = (good (proved (target_of c r)) c.plan.target.start r m ≡ true) × Heeds (Err (faults.StaleUpdate start end)) (accepted r m c) d before now
TakesReply (Err (faults.InvalidProof n)) proved r number m c d before now = (good (proved (target_of c r)) c.plan.target.start r m ≡ false) × (n ≡ number) × (now ≡ before)
TakesReply (Err faults.OutOfMemory) proved r number m c d before now = now ≡ before
TakesReply (Err e) proved r number m c d before now = ⊥

-- What the steps to the next message leave.
use Rattle.std.specs.Prelude.{◌≡◌, ◌≢◌, ℕ, true, false, List, [], ◌++◌, Option, Some, None, Result, Ok, Err}
use Rattle.ledger_codec.specs.Causes.{Rose}
use Rattle.ledger_codec.specs.declared.framing.FrameError.{FrameError}
use Rattle.ledger_codec.specs.Frames.{Whole, Short, Bad, front}
use Rattle.ledger_codec.specs.Held.{Held}
use Rattle.sync_net.specs.Wire.{Wire}
use Rattle.sync_sessions.specs.declared.ending.SessionEnd.{SessionEnd}
use Rattle.sync_sessions.specs.declared.ending.SessionEnd.TheVariants.{Done, Network, BrokenFrame, PassSpent, OutOfMemory}
use Rattle.sync_sessions.specs.declared.hearing.Found.{Found}
use Rattle.sync_sessions.specs.declared.hearing.Found.TheVariants as found
use Rattle.sync_sessions.specs.Hearing.{Since}

module _ {M : Type 0} (spelled : List ℕ → Option M) where
  -- the message that a body spells, or that it spells none
  abbrev pub Finds : Result (Found M) SessionEnd → List ℕ → Type 0
  Finds (Ok (found.Sent m)) body = spelled body ≡ Some m
  Finds (Ok found.Other) body = spelled body ≡ None
  Finds (Ok found.Part) body = ⊥
  Finds (Err OutOfMemory) body = Unit {0}
  Finds (Err Done) body = ⊥
  Finds (Err Network) body = ⊥
  Finds (Err BrokenFrame) body = ⊥
  Finds (Err PassSpent) body = ⊥

  -- what stands first is taken, but for the beginning of a frame
  abbrev pub Takes : Result (Found M) SessionEnd → Held → Held → Type 0
  Takes (Ok (found.Sent m)) old now = (body : List ℕ) × (front old.limit old.bytes ≡ Whole body now.bytes) × (spelled body ≡ Some m)
  Takes (Ok found.Other) old now = (body : List ℕ) × (front old.limit old.bytes ≡ Whole body now.bytes) × (spelled body ≡ None)
  Takes (Ok found.Part) old now = (front old.limit old.bytes ≡ Short) × (now ≡ old)
  Takes (Err BrokenFrame) old now = (fault : FrameError) × (front old.limit old.bytes ≡ Bad fault)
  Takes (Err OutOfMemory) old now = Unit {0}
  Takes (Err Done) old now = ⊥
  Takes (Err Network) old now = ⊥
  Takes (Err PassSpent) old now = ⊥

-- bytes are received and held; the end comes behind a whole frame or inside one
abbrev pub Receives : Result (Unit {0}) SessionEnd → List ℕ → List ℕ → Option Wire → Option Wire → ℕ → ℕ → Type 0
Receives (Ok x) held left before now count risen = (given : List ℕ) × Since before now given false [] × (left ≡ held ++ given)
Receives (Err Done) held left before now count risen = Since before now [] true [] × (held ≡ [])
Receives (Err BrokenFrame) held left before now count risen = Since before now [] true [] × (held ≢ [])
Receives (Err Network) held left before now count risen = Since before now [] false [] × Rose count risen
Receives (Err OutOfMemory) held left before now count risen = (given : List ℕ) × Since before now given false []
Receives (Err PassSpent) held left before now count risen = ⊥

-- What sessions do that own their links.
use Rattle.std.specs.Prelude.{ℕ, List, Option}
use Rattle.ledger_codec.specs.Parsing.{Parsed}
use Rattle.ledger_compact.specs.View.{CompactView}
use Rattle.ledger_log.specs.View.{LogView}
use Rattle.sync_net.specs.Wire.{Wire}
use Rattle.turn_lock.specs.Passes.{PassValue}
use Rattle.sync_shared.specs.declared.event.Event.{Event}
use Rattle.sync_shared.specs.declared.event.EventOutcome.{EventOutcome}
use Rattle.sync_sessions.specs.declared.ending.SessionEnd.{SessionEnd}
use Rattle.sync_sessions.specs.Compact.{CompactRun}
use Rattle.sync_sessions.specs.Turns.{Session}

-- the pass and the link are left so as a session leaves them, which ends so
abbrev pub RunsSession : {Op L : Type 0} → (List ℕ → Parsed Op) → (Op → List ℕ) → (Op → Option ℕ) → LogView Op → (Op → List ℕ) → (L → Option Wire) → (L → ℕ) → PassValue (LogView Op) (Event Op) EventOutcome → L → SessionEnd → Type 0
RunsSession {Op} {L} read written floor_of opening spelling wire faults pass link end =
    (left : PassValue (LogView Op) (Event Op) EventOutcome) × (after : L) × Session read written floor_of opening spelling end pass left (wire link) (wire after) (faults link) (faults after)

-- the link is left so as a session over a log that never changes leaves it, which ends so
abbrev pub RunsCompact : {Op L : Type 0} → (List ℕ → Parsed Op) → (Op → List ℕ) → Option (CompactView Op) → (L → Option Wire) → (L → ℕ) → L → SessionEnd → Type 0
RunsCompact {Op} {L} read written kept wire faults link end = (after : L) × CompactRun read written kept end (wire link) (wire after) (faults link) (faults after)

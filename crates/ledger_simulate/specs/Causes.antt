-- What the faults that end a run while an event is handled come from.
use Rattle.std.specs.Prelude.{◌≡◌, ◌⊎◌, ◌<◌, ℕ, Bool, true, false, List, ◌++◌, Some, length}
use Rattle.simulate_parts.specs.Tracker.{observe_fault, tracker_of}
use Rattle.simulate_parts.specs.declared.tracker.FinalizationUpdate.{FinalizationUpdate}
use Rattle.simulate_parts.specs.declared.tracker.ObserveFault.{ObserveFault}
use Rattle.ledger_simulate.specs.Failures.{first_passed, standing_of}
use Rattle.ledger_simulate.specs.Handling.{TriggersFailuresEach}
use Rattle.ledger_simulate.specs.Meaning.{Meaning}
use Rattle.ledger_simulate.specs.Queue.{AgendaView}
use Rattle.ledger_simulate.specs.declared.world.World.{World}
use Rattle.ledger_simulate.specs.declared.fault.PlanFault.{PlanFault}
use Rattle.ledger_simulate.specs.declared.fault.PlanFault.TheVariants.{EventLimit, Exit, FinalizationProperty, Fork, Idle, NotExercised, Property, SkippedWindow, Timeout}
use Rattle.ledger_simulate.specs.declared.fault.Stop.{Stop}
use Rattle.ledger_simulate.specs.declared.fault.Stop.TheVariants.{Fault, OutOfMemory}

-- a check answered so
abbrev pub is_asked : PlanFault → Bool
is_asked (Fork update fault) = false
is_asked (FinalizationProperty name text) = true
is_asked (Property name text) = true
is_asked (Exit name text) = true
is_asked Timeout = false
is_asked EventLimit = false
is_asked Idle = false
is_asked (SkippedWindow height) = false
is_asked (NotExercised index) = false

-- a check answered so, or memory was wanting
abbrev pub stops_asked : Stop → Bool
stops_asked (Fault fault) = is_asked fault
stops_asked OutOfMemory = true

-- a window was passed, or memory was wanting
abbrev pub IsSkip : (ℕ → Type 0) → Stop → Type 0
IsSkip skipped stop = (stop ≡ OutOfMemory) ⊎ ((height : ℕ) × (stop ≡ Fault (SkippedWindow height)) × skipped height)

-- a report that comes after these more is refused by the tracker of those before it
pub record Forks (reported : List FinalizationUpdate → FinalizationUpdate → Type 0) (before : List FinalizationUpdate) (update : FinalizationUpdate) (fault : ObserveFault) : Type 0 where
  pub more : List FinalizationUpdate
  pub comes : reported more update
  pub refused : observe_fault (tracker_of (before ++ more)) update ≡ Some fault

-- what a fault comes from, but for what checks answer: a report that came, a window that was skipped, a failure
-- that came to nothing
abbrev pub Comes : (List FinalizationUpdate → FinalizationUpdate → Type 0) → (ℕ → Type 0) → (ℕ → Type 0) → List FinalizationUpdate → PlanFault → Type 0
Comes reported skipped missed before (Fork update fault) = Forks reported before update fault
Comes reported skipped missed before (FinalizationProperty name text) = Unit {0}
Comes reported skipped missed before (Property name text) = Unit {0}
Comes reported skipped missed before (Exit name text) = Unit {0}
Comes reported skipped missed before Timeout = ⊥
Comes reported skipped missed before EventLimit = ⊥
Comes reported skipped missed before Idle = ⊥
Comes reported skipped missed before (SkippedWindow height) = skipped height
Comes reported skipped missed before (NotExercised index) = missed index

-- what a stop comes from, want of memory aside; whether failures came to nothing is asked at the end alone
abbrev pub StopComes : (List FinalizationUpdate → FinalizationUpdate → Type 0) → (ℕ → Type 0) → List FinalizationUpdate → Stop → Type 0
StopComes reported skipped before (Fault fault) = Comes reported skipped (λ index. ⊥) before fault
StopComes reported skipped before OutOfMemory = Unit {0}

-- what a fault after the last event comes from
abbrev pub EndComes : (ℕ → Type 0) → List FinalizationUpdate → PlanFault → Type 0
EndComes missed before fault = Comes (λ more update. ⊥) (λ height. ⊥) missed before fault

-- what stands below is said of what a plan means
module _ {D E S F P C : Type 0} (m : Meaning D E S F P C) where
  -- at one of these reports, after those before it had set failures off, this height was found above a window
  -- that wasn't entered
  pub record SkipsAmong (holds : List FinalizationUpdate → Bool → World D E S → Type 0)
      (updates : List FinalizationUpdate) (a : AgendaView) (u : World D E S) (skipped : ℕ) : Type 0 where
    pub count : ℕ
    pub within : count < length updates
    pub made : AgendaView
    pub world : World D E S
    pub set_off : TriggersFailuresEach m holds updates false count a made u world
    pub skips : first_passed m.height 0 m.crashes (standing_of world) ≡ Some skipped

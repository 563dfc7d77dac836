-- Why a run ends early.
use Rattle.std.specs.Prelude.{◌≡◌, Option, Some, None}
use Rattle.std.specs.Prelude.{◌⊎◌, ℕ, Bool, List, MatchOption, Result, Err, true, false, nat_le, nat_lt, if◌then◌else◌}
use Rattle.std.specs.Option.{option_map_or}
use Rattle.simulate_parts.specs.Tracker.{observe_fault, tracker_of}
use Rattle.simulate_parts.specs.declared.tracker.FinalizationUpdate.{FinalizationUpdate}
use Rattle.simulate_parts.specs.declared.tracker.ObserveFault.{ObserveFault}
use Rattle.simulate_parts.specs.declared.tracker.ObserveFault.TheVariants.{OutOfMemory as observe_memory, Height, Round}
use Rattle.ledger_simulate.specs.declared.fault.PlanFault.{PlanFault}
use Rattle.ledger_simulate.specs.declared.fault.PlanFault.TheVariants.{EventLimit, Exit, FinalizationProperty, Fork, Idle, NotExercised, Property, SkippedWindow, Timeout}
use Rattle.ledger_simulate.specs.declared.simulation.SimEnd.{SimEnd}
use Rattle.ledger_simulate.specs.declared.simulation.SimEnd.TheVariants.{Fault as at_fault, OutOfMemory as at_memory}
use Rattle.ledger_simulate.specs.declared.fault.Stop.{Stop}
use Rattle.ledger_simulate.specs.declared.fault.Stop.TheVariants.{Fault, OutOfMemory}

-- what a refused report means to the run
abbrev pub fork_of : FinalizationUpdate → ObserveFault → Stop
fork_of update (Height h) = Fault (Fork update (Height h))
fork_of update (Round r) = Fault (Fork update (Round r))
fork_of update observe_memory = OutOfMemory

-- the report is refused by the tracker of the reports before it, or memory is wanting
abbrev pub IsForkOf : List FinalizationUpdate → FinalizationUpdate → Stop → Type 0
IsForkOf before update stop =
    MatchOption (observe_fault (tracker_of before) update) (stop ≡ OutOfMemory) (λ fault. (stop ≡ OutOfMemory) ⊎ (stop ≡ Fault (Fork update fault)))

-- a fault of a check at the end: its name and its complaint
abbrev pub IsPropertyFault : List ℕ → Option (List ℕ) → Stop → Type 0
IsPropertyFault called complaint stop =
    (stop ≡ OutOfMemory) ⊎ ((text : List ℕ) × (complaint ≡ Some text) × (stop ≡ Fault (Property called text)))

-- a fault of a check of the states at a report: its name and its complaint
abbrev pub IsFinalizationFault : List ℕ → Option (List ℕ) → Stop → Type 0
IsFinalizationFault called complaint stop =
    (stop ≡ OutOfMemory) ⊎ ((text : List ℕ) × (complaint ≡ Some text) × (stop ≡ Fault (FinalizationProperty called text)))

-- a fault of the exit condition: its name and the text of its failure
abbrev pub IsExitFault : List ℕ → Result Bool (List ℕ) → Stop → Type 0
IsExitFault called verdict stop =
    (stop ≡ OutOfMemory) ⊎ ((text : List ℕ) × (verdict ≡ Err text) × (stop ≡ Fault (Exit called text)))

-- why a run stops before its first event is handled: none is left, then as many were handled as the plan
-- allows, then the first is due after the timeout
abbrev pub early_fault : Option (ℕ × ℕ) → ℕ → ℕ → Option ℕ → Option PlanFault
early_fault None handled max_events timeout = Some Idle
early_fault (Some key) handled max_events timeout =
    if nat_le max_events handled then Some EventLimit
    else (if option_map_or (λ t. nat_lt t key.0) timeout false then Some Timeout else None)

-- a fault that comes while an event is handled or after it
abbrev pub is_late : PlanFault → Bool
is_late (Fork update fault) = true
is_late (FinalizationProperty name text) = true
is_late (Property name text) = true
is_late (Exit name text) = true
is_late Timeout = false
is_late EventLimit = false
is_late Idle = false
is_late (SkippedWindow height) = true
is_late (NotExercised index) = true

-- a stop that comes while an event is handled or after it
abbrev pub stops_late : Stop → Bool
stops_late (Fault fault) = is_late fault
stops_late OutOfMemory = true

-- the end of a run under these limits by a stop
abbrev pub end_of : Stop → ℕ → ℕ → ℕ → Option ℕ → SimEnd
end_of (Fault fault) seed handled max_events timeout = at_fault (record { fault = fault; seed = seed; handled = handled; max_events = max_events; timeout = timeout })
end_of OutOfMemory seed handled max_events timeout = at_memory

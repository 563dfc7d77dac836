-- What the checks of a plan answered, where one of them ends a run.
use Rattle.std.specs.Prelude.{◌≡◌, ◌⊎◌, ◌+◌, ℕ, Bool, List, [], ◌∷◌, ◌++◌, IsTrue, false, Option, Some, Result, Err, Contains, length}
use Rattle.simulate_parts.specs.Engine.{Passes, updates_of}
use Rattle.simulate_parts.specs.Seats.{active_views}
use Rattle.simulate_parts.specs.Tracker.{tracker_of}
use Rattle.simulate_parts.specs.TrackerView.{TrackerView}
use Rattle.simulate_parts.specs.declared.engine.StateView.{StateView}
use Rattle.simulate_parts.specs.declared.engine.StepEvent.{StepEvent}
use Rattle.simulate_parts.specs.declared.engine.StepOut.{StepOut}
use Rattle.simulate_parts.specs.declared.peer.Peer.{Peer}
use Rattle.simulate_parts.specs.declared.tracker.FinalizationUpdate.{FinalizationUpdate}
use Rattle.ledger_simulate.specs.Causes.{SkipsAmong, StopComes}
use Rattle.ledger_simulate.specs.Delays.{started_where, target_at}
use Rattle.ledger_simulate.specs.Exercise.{missed_by}
use Rattle.ledger_simulate.specs.Failures.{views_checked}
use Rattle.ledger_simulate.specs.Handling.{StepsEngine, Handles, Seated, TriggersFailuresEach, birth_at, is_poll, number_after, told_by}
use Rattle.ledger_simulate.specs.Meaning.{Meaning}
use Rattle.ledger_simulate.specs.Plans.{target_count}
use Rattle.ledger_simulate.specs.Queue.{AgendaView, QueueView, empty_agenda}
use Rattle.ledger_simulate.specs.Reaching.{Finds, IsReached}
use Rattle.ledger_simulate.specs.declared.event.Event.{Event}
use Rattle.ledger_simulate.specs.declared.fault.PlanFault.{PlanFault}
use Rattle.ledger_simulate.specs.declared.fault.PlanFault.TheVariants.{EventLimit, Exit, FinalizationProperty, Fork, Idle, NotExercised, Property, SkippedWindow, Timeout}
use Rattle.ledger_simulate.specs.declared.fault.Stop.{Stop}
use Rattle.ledger_simulate.specs.declared.fault.Stop.TheVariants.{Fault, OutOfMemory}
use Rattle.ledger_simulate.specs.declared.reports.Reached.{Reached}
use Rattle.ledger_simulate.specs.declared.world.World.{World}

-- the exit condition was met after so many reports behind these, on states that were seen then
abbrev pub MetOn : (List FinalizationUpdate → List StateView → Type 0) → List FinalizationUpdate → Reached → Type 0
MetOn seen before reached =
    (more : List FinalizationUpdate) × (reached.count ≡ length before + length more) × seen more reached.states.items

-- no report more, and these states
abbrev pub EndsAt : List StateView → List FinalizationUpdate → List StateView → Type 0
EndsAt reached more states = (more ≡ []) × (states ≡ reached)

-- one of these checks has this name and complains of the states by this text
pub record Complains {F : Type 0} (called : F → List ℕ) (complaint : F → List StateView → Option (List ℕ)) (checks : List F) (states : List StateView) (name text : List ℕ) : Type 0 where
  pub check : F
  pub among : Contains checks check
  pub named : called check ≡ name
  pub says : complaint check states ≡ Some text

-- one of these properties has this name and complains of the tracker and the states by this text
pub record Objects {P : Type 0} (called : P → List ℕ) (complaint : P → TrackerView → List StateView → Option (List ℕ)) (properties : List P) (tracker : TrackerView) (states : List StateView) (name text : List ℕ) : Type 0 where
  pub property : P
  pub among : Contains properties property
  pub named : called property ≡ name
  pub says : complaint property tracker states ≡ Some text

-- the exit condition that is set has this name and fails on the tracker and the states by this text
pub record Fails {C : Type 0} (called : C → List ℕ) (verdict : C → TrackerView → List StateView → ℕ → Result Bool (List ℕ)) (condition : Option C) (tracker : TrackerView) (states : List StateView) (target : ℕ) (name text : List ℕ) : Type 0 where
  pub asked : C
  pub set : condition ≡ Some asked
  pub named : called asked ≡ name
  pub says : verdict asked tracker states target ≡ Err text

-- a check at a report complained, or memory was wanting
abbrev pub IsComplaint : {F : Type 0} → (F → List ℕ) → (F → List StateView → Option (List ℕ)) → List F → List StateView → Stop → Type 0
IsComplaint called complaint checks states stop =
    (stop ≡ OutOfMemory) ⊎ ((name : List ℕ) × (text : List ℕ) × (stop ≡ Fault (FinalizationProperty name text)) × Complains called complaint checks states name text)

-- a property of the end complained, or memory was wanting
abbrev pub IsObjection : {P : Type 0} → (P → List ℕ) → (P → TrackerView → List StateView → Option (List ℕ)) → List P → TrackerView → List StateView → Stop → Type 0
IsObjection called complaint properties tracker states stop =
    (stop ≡ OutOfMemory) ⊎ ((name : List ℕ) × (text : List ℕ) × (stop ≡ Fault (Property name text)) × Objects called complaint properties tracker states name text)

-- the exit condition failed, or memory was wanting
abbrev pub IsFailure : {C : Type 0} → (C → List ℕ) → (C → TrackerView → List StateView → ℕ → Result Bool (List ℕ)) → Option C → TrackerView → List StateView → ℕ → Stop → Type 0
IsFailure called verdict condition tracker states target stop =
    (stop ≡ OutOfMemory) ⊎ ((name : List ℕ) × (text : List ℕ) × (stop ≡ Fault (Exit name text)) × Fails called verdict condition tracker states target name text)

-- what stands below is said of what a plan means
module _ {D E S F P C : Type 0} (m : Meaning D E S F P C) where
  -- the states that checks see at one of these reports, after those before it had set failures off
  pub record Sees (holds : List FinalizationUpdate → Bool → World D E S → Type 0) (a : AgendaView)
      (u : World D E S) (updates more : List FinalizationUpdate) (states : List StateView) : Type 0 where
    pub earlier : List FinalizationUpdate
    pub update : FinalizationUpdate
    pub rest : List FinalizationUpdate
    pub reported : updates ≡ earlier ++ update ∷ rest
    pub upto : more ≡ earlier ++ update ∷ []
    pub made : AgendaView
    pub world : World D E S
    pub set_off : TriggersFailuresEach m holds updates false (length earlier) a made u world
    pub are : states ≡ views_checked m.height m.shown m.crashes world

  -- the engine that was to be told this took one step
  pub record EngineStep (told : Option (Peer × Option ℕ × StepEvent)) (a : AgendaView) (u : World D E S) : Type 0 where
    pub pk : Peer
    pub given_birth : Option ℕ
    pub event : StepEvent
    pub tells : told ≡ Some (pk, given_birth, event)
    pub birth : ℕ
    pub runs : birth_at u.seats.entries pk given_birth ≡ Some birth
    pub out : StepOut
    pub given : AgendaView
    pub mid : World D E S
    pub gives : StepsEngine m pk birth event out a given u mid

  -- it reported this after these; a report passes the test, where one is told and the engines are their peers'
  pub record ReportsThen (told : Option (Peer × Option ℕ × StepEvent)) (a : AgendaView) (u : World D E S)
      (more : List FinalizationUpdate) (update : FinalizationUpdate) : Type 0 where
    pub took : EngineStep told a u
    pub rest : List FinalizationUpdate
    pub in_turn : updates_of took.pk took.out.finalized ≡ more ++ update ∷ rest
    pub passes : Seated m.peer_of (number_after a) u.seats.entries → Passes m.reports update

  -- the states that checks see at a report of that step
  pub record SeesAfter (holds : List FinalizationUpdate → Bool → World D E S → Type 0)
      (told : Option (Peer × Option ℕ × StepEvent)) (a : AgendaView) (u : World D E S)
      (more : List FinalizationUpdate) (states : List StateView) : Type 0 where
    pub took : EngineStep told a u
    pub sees : Sees holds took.given took.mid (updates_of took.pk took.out.finalized) more states

  -- a report of that step found this height above a window that wasn't entered, after those before it had set
  -- failures off
  pub record SkipsAfter (holds : List FinalizationUpdate → Bool → World D E S → Type 0)
      (told : Option (Peer × Option ℕ × StepEvent)) (a : AgendaView) (u : World D E S) (skipped : ℕ) : Type 0 where
    pub took : EngineStep told a u
    pub skips : SkipsAmong m holds (updates_of took.pk took.out.finalized) took.given took.mid skipped

  -- the exit condition is asked of no report, on the states of the engines that run, where the event is a poll
  abbrev pub IsPolled : Bool → World D E S → List FinalizationUpdate → List StateView → Type 0
  IsPolled polled u more states =
      IsTrue polled × (more ≡ []) × (states ≡ active_views m.height m.shown u.seats.entries)

  -- the reports and the states with which the exit condition is asked in a step that tells an engine this, if it
  -- is for one, and that is a poll, if it is
  abbrev pub Asked : (List FinalizationUpdate → Bool → World D E S → Type 0)
      → Option (Peer × Option ℕ × StepEvent) → Bool → AgendaView → World D E S → List FinalizationUpdate
      → List StateView → Type 0
  Asked holds told polled a u more states = IsPolled polled u more states ⊎ SeesAfter holds told a u more states

  -- the same, and how many participants count for it then
  abbrev pub Asks : (List FinalizationUpdate → Bool → World D E S → Type 0)
      → Option (Peer × Option ℕ × StepEvent) → Bool → List FinalizationUpdate → AgendaView → World D E S
      → List FinalizationUpdate → List StateView → ℕ → Type 0
  Asks holds told polled before a u more states target =
      Asked holds told polled a u more states
      × (target ≡ target_at m.participants m.crashes before u.exercise.delayed_started more)

  -- the first event was handled, with these reports more, and the exit condition answered true on these states
  pub record Ends (holds : List FinalizationUpdate → Bool → World D E S → Type 0) (queue : QueueView)
      (before : List FinalizationUpdate) (u : World D E S) (more : List FinalizationUpdate)
      (states : List StateView) : Type 0 where
    pub entry : (ℕ × ℕ) × Event
    pub rest : List ((ℕ × ℕ) × Event)
    pub first : queue.entries ≡ entry ∷ rest
    pub made : AgendaView
    pub after : World D E S
    pub reached : Reached
    pub handles : Handles m holds (Some reached) entry.0 entry.1 (empty_agenda queue.next) made before
        (before ++ more) u after
    pub met : IsReached m
        (target_count m.participants m.crashes
        (started_where m.participants m.crashes before u.exercise.delayed_started reached.count more))
        (before ++ more) reached
    pub seen : MetOn
        (Asked holds (told_by entry.0 entry.1) (is_poll entry.1) (empty_agenda queue.next) u) before reached
    pub are : states ≡ reached.states.items

  -- the first event was handled, the exit condition was met, and the first failure that came to nothing is this
  -- one
  abbrev pub MissesAt : (List FinalizationUpdate → Bool → World D E S → Type 0) → QueueView
      → List FinalizationUpdate → World D E S → ℕ → Type 0
  MissesAt holds queue before u index =
      (more : List FinalizationUpdate) × (states : List StateView)
      × (end : Ends holds queue before u more states) × (missed_by end.after.exercise m.crashes ≡ Some index)

  -- where a check's fault ends a run, that check answers so: a check at a report at a moment that was seen, the
  -- exit condition where it was asked, a property at the end
  abbrev pub Answered : (List FinalizationUpdate → List StateView → Type 0)
      → (List FinalizationUpdate → List StateView → ℕ → Type 0)
      → (List FinalizationUpdate → List StateView → Type 0) → List FinalizationUpdate → PlanFault → Type 0
  Answered seen asked ended before (FinalizationProperty name text) =
      (more : List FinalizationUpdate) × (states : List StateView) × seen more states
      × Complains m.check_name m.complaint m.checks states name text
  Answered seen asked ended before (Property name text) =
      (more : List FinalizationUpdate) × (states : List StateView) × ended more states
      × Objects m.property_name m.objection m.properties (tracker_of (before ++ more)) states name text
  Answered seen asked ended before (Exit name text) =
      (more : List FinalizationUpdate) × (states : List StateView) × (target : ℕ) × asked more states target
      × Fails m.condition_name m.verdict m.condition (tracker_of (before ++ more)) states target name text
  Answered seen asked ended before (Fork update fault) = Unit {0}
  Answered seen asked ended before Timeout = Unit {0}
  Answered seen asked ended before EventLimit = Unit {0}
  Answered seen asked ended before Idle = Unit {0}
  Answered seen asked ended before (SkippedWindow height) = Unit {0}
  Answered seen asked ended before (NotExercised index) = Unit {0}

  -- the same of a stop
  abbrev pub StopAnswered : (List FinalizationUpdate → List StateView → Type 0)
      → (List FinalizationUpdate → List StateView → ℕ → Type 0)
      → (List FinalizationUpdate → List StateView → Type 0) → List FinalizationUpdate → Stop → Type 0
  StopAnswered seen asked ended before (Fault fault) = Answered seen asked ended before fault
  StopAnswered seen asked ended before OutOfMemory = Unit {0}

  -- what a stop of a step that tells an engine this comes from
  abbrev pub ComesIn : Option (Peer × Option ℕ × StepEvent) → AgendaView → List FinalizationUpdate → World D E S → Stop → Type 0
  ComesIn told a before u = StopComes (ReportsThen told a u) (SkipsAfter (Finds m before) told a u) before

  -- where a check's fault stops such a step, that check answers so; a poll asks the exit condition
  abbrev pub AnsweredIn : Option (Peer × Option ℕ × StepEvent) → Bool → AgendaView → List FinalizationUpdate → World D E S → Stop → Type 0
  AnsweredIn told polled a before u =
      StopAnswered (SeesAfter (Finds m before) told a u) (Asks (Finds m before) told polled before a u) (λ more states. ⊥) before

-- How a run of a plan opens, goes on and ends.
use Rattle.std.specs.Prelude.{◌≡◌, ◌<◌, ◌+◌, ℕ, zero, suc, All, false, IfSome, IsTrue, List, [], ◌∷◌, ◌++◌, MatchOption, None, Ok, Option, Result, Err, drop, length, map, take}
use Rattle.std.specs.Option.{option_map_or}
use Rattle.rand_core.specs.Pcg32Seed.{pcg32_seed}
use Rattle.rand_pcg.specs.Pcg.{pcg32_of_seed}
use Rattle.simulate_parts.specs.Engine.{Passes}
use Rattle.simulate_parts.specs.Seats.{active_views}
use Rattle.simulate_parts.specs.Tracker.{tracker_of}
use Rattle.simulate_parts.specs.declared.engine.StateView.{StateView}
use Rattle.simulate_parts.specs.declared.tracker.FinalizationUpdate.{FinalizationUpdate}
use Rattle.ledger_simulate.specs.Answering.{Answered, Asks, Ends, MissesAt, ReportsThen, SeesAfter, SkipsAfter}
use Rattle.ledger_simulate.specs.Causes.{Comes}
use Rattle.ledger_simulate.specs.Delays.{started_after, started_where}
use Rattle.ledger_simulate.specs.Failures.{no_tally, tally_of}
use Rattle.ledger_simulate.specs.Handling.{Grows, Seated, polls_first, told_first}
use Rattle.ledger_simulate.specs.Links.{changed_links, common_link}
use Rattle.ledger_simulate.specs.Meaning.{Meaning}
use Rattle.ledger_simulate.specs.Opening.{opening}
use Rattle.ledger_simulate.specs.Plans.{target_count}
use Rattle.ledger_simulate.specs.Queue.{QueueView, empty_agenda, empty_queue, first_key, queued_all}
use Rattle.ledger_simulate.specs.Reaching.{ExitIs, Finds}
use Rattle.ledger_simulate.specs.Results.{EndedView, ResultView, tally_shown}
use Rattle.ledger_simulate.specs.Runs.{Proceeds, Succeeds}
use Rattle.ledger_simulate.specs.Stops.{early_fault, is_late}
use Rattle.ledger_simulate.specs.declared.fault.PlanFault.{PlanFault}
use Rattle.ledger_simulate.specs.declared.simulation.SimEnd.{SimEnd}
use Rattle.ledger_simulate.specs.declared.simulation.SimEnd.TheVariants.{Fault, OutOfMemory}
use Rattle.ledger_simulate.specs.declared.simulation.Simulation.{Simulation}
use Rattle.ledger_simulate.specs.declared.world.World.{World}

-- where a run is
pub record Course (D E S : Type 0) : Type 0 where
  pub seed : ℕ
  pub handled : ℕ
  pub queue : QueueView
  pub updates : List FinalizationUpdate
  pub world : World D E S

-- where a simulation's run is
abbrev pub course_of : {D E S I J K : Type 0} {P : I → Type 0} {Q : J → Type 0} {R : K → Type 0} → Simulation D E S I J K P Q R → Course D E S
course_of s = record { seed = s.seed; handled = s.handled; queue = s.queue; updates = s.watch; world = s.world }

-- what stands below is said of what a plan means
module _ {D E S F P C : Type 0} (m : Meaning D E S F P C) where
  -- why the plan lets no event be handled here
  abbrev pub early_of : Course D E S → Option PlanFault
  early_of s = early_fault (first_key s.queue) s.handled m.max_events m.timeout

  -- a run of the plan under a seed before its first event
  pub record Opens (seed : ℕ) (s : Course D E S) : Type 0 where
    pub seed_is : s.seed ≡ seed
    pub handled : s.handled ≡ 0
    pub updates : s.updates ≡ []
    pub words : s.world.words ≡ pcg32_of_seed (pcg32_seed 16 seed)
    pub common : common_link s.world.links ≡ m.link
    pub unchanged : changed_links s.world.links ≡ []
    pub queue : s.queue
        ≡ queued_all empty_queue 0 (opening m.participants m.crashes (option_map_or m.polls m.condition false))
    pub waits : s.world.exercise.delayed_started ≡ false
    pub counts : tally_of s.world.exercise ≡ no_tally (length m.crashes)
    pub max_size : IfSome m.max_size (λ told. s.world.rules.max_size ≡ told)
    pub channels : IfSome m.channels (λ told. s.world.rules.channels.items ≡ told)
    pub seated : Seated m.peer_of s.queue.next s.world.seats.entries

  -- one event was handled, and the run goes on: the exit condition answered false at each report, and at a poll
  pub record GoesOn (s t : Course D E S) : Type 0 where
    pub due : early_of s ≡ None
    pub below : s.handled < m.max_events
    pub proceeds : Proceeds m (Finds m s.updates) s.queue t.queue s.updates t.updates s.world t.world
    pub unmet : IsTrue (polls_first s.queue)
        → ExitIs m (target_count m.participants m.crashes s.world.exercise.delayed_started)
        (tracker_of s.updates) (active_views m.height m.shown s.world.seats.entries) false
    pub handled : t.handled ≡ s.handled + 1
    pub seed : t.seed ≡ s.seed
    pub started : t.world.exercise.delayed_started
        ≡ started_after m.participants m.crashes s.updates s.world.exercise.delayed_started
        (drop (length s.updates) t.updates)

  -- the exit condition was met as the first event was handled, on these states, after these reports more
  abbrev pub MeetsEnd : Course D E S → List FinalizationUpdate → List StateView → Type 0
  MeetsEnd s = Ends m (Finds m s.updates) s.queue s.updates s.world

  -- one event was handled, and the run ended with this result
  pub record Finishes (s : Course D E S) (r : ResultView) : Type 0 where
    pub due : early_of s ≡ None
    pub more : List FinalizationUpdate
    pub end : MeetsEnd s more r.states
    pub updates : r.updates ≡ s.updates ++ more
    pub tally : tally_shown r ≡ tally_of end.after.exercise
    pub started : r.delayed_started ≡ end.after.exercise.delayed_started
    pub count : ℕ
    pub reached : r.reached ≡ tracker_of (take count r.updates)
    pub started_before : r.delayed_started
        ≡ started_where m.participants m.crashes s.updates s.world.exercise.delayed_started count
        (drop (length s.updates) r.updates)
    pub handled : r.handled ≡ s.handled + 1
    pub seed : r.seed ≡ s.seed
    pub limit : r.max_events ≡ m.max_events
    pub timeout : r.timeout ≡ m.timeout
    pub succeeds : Succeeds m r
    pub reports : Seated m.peer_of s.queue.next s.world.seats.entries → Grows m.reports s.updates r.updates

  -- the first event's engine reported this after these
  abbrev pub Reported : Course D E S → List FinalizationUpdate → FinalizationUpdate → Type 0
  Reported s = ReportsThen m (told_first s.queue) (empty_agenda s.queue.next) s.world

  -- a report of the first event's engine found this height above a window that wasn't entered
  abbrev pub Skipped : Course D E S → ℕ → Type 0
  Skipped s = SkipsAfter m (Finds m s.updates) (told_first s.queue) (empty_agenda s.queue.next) s.world

  -- the states that checks see at a report of the first event's engine
  abbrev pub Seen : Course D E S → List FinalizationUpdate → List StateView → Type 0
  Seen s = SeesAfter m (Finds m s.updates) (told_first s.queue) (empty_agenda s.queue.next) s.world

  -- the reports and states with which the exit condition is asked as the first event is handled, and the target
  abbrev pub AskedAt : Course D E S → List FinalizationUpdate → List StateView → ℕ → Type 0
  AskedAt s =
      Asks m (Finds m s.updates) (told_first s.queue) (polls_first s.queue) s.updates
      (empty_agenda s.queue.next) s.world

  -- a failure that came to nothing as the first event was handled and the exit condition met
  abbrev pub Missed : Course D E S → ℕ → Type 0
  Missed s = MissesAt m (Finds m s.updates) s.queue s.updates s.world

  -- what such a fault comes from, but for what checks answer
  abbrev pub ComesAt : Course D E S → PlanFault → Type 0
  ComesAt s = Comes (Reported s) (Skipped s) (Missed s) s.updates

  -- where a check's fault ends the run there, that check answers so
  abbrev pub AnsweredAt : Course D E S → PlanFault → Type 0
  AnsweredAt s = Answered m (Seen s) (AskedAt s) (MeetsEnd s) s.updates

  -- a fault that comes as an event is handled or after it: of a report that came, a window that was skipped or a
  -- failure that came to nothing, or of a check that answers so
  pub record FailsAt (s : Course D E S) (e : EndedView) : Type 0 where
    pub late : IsTrue (is_late e.fault)
    pub handled : e.handled ≡ s.handled + 1
    pub comes : ComesAt s e.fault
    pub answered : AnsweredAt s e.fault

  -- the run ended with this fault: before an event was handled, or for what the first one brought
  pub record Fails (s : Course D E S) (e : EndedView) : Type 0 where
    pub seed : e.seed ≡ s.seed
    pub limit : e.max_events ≡ m.max_events
    pub timeout : e.timeout ≡ m.timeout
    pub cause : MatchOption (early_of s) (FailsAt s e) (λ f. (e.fault ≡ f) × (e.handled ≡ s.handled))

  -- so many events were handled, one after another, and the run goes on
  abbrev pub Goes : ℕ → Course D E S → Course D E S → Type 0
  Goes zero s t = t ≡ s
  Goes (suc n) s t = (u : Course D E S) × Goes n s u × GoesOn u t

  -- a new run of the plan under this seed was stepped to where it ended so
  pub record Steps (seed : ℕ) (ends : Course D E S → Type 0) : Type 0 where
    pub first : Course D E S
    pub last : Course D E S
    pub count : ℕ
    pub opens : Opens seed first
    pub goes : Goes count first last
    pub end : ends last

  -- the answer of a run is what stepping a new one to its end gives, want of memory aside; each report of a
  -- result passes the test of the engines, where one is told
  abbrev pub RunsTo : ℕ → Result ResultView SimEnd → Type 0
  RunsTo seed (Ok r) = Steps seed (λ s. Finishes s r) × All (Passes m.reports) r.updates
  RunsTo seed (Err (Fault e)) = Steps seed (λ s. Fails s e)
  RunsTo seed (Err OutOfMemory) = Unit {0}

  -- these results are what runs of the plan gave, under these seeds in order
  pub record RunsAll (seeds : List ℕ) (rs : List ResultView) : Type 0 where
    pub seeded : map (λ r. r.seed) rs ≡ seeds
    pub each : All (λ r. RunsTo r.seed (Ok r)) rs

  -- a run of the plan under one of these seeds ended so, and those under the seeds before it gave results
  pub record StopsAt (seeds : List ℕ) (seed : ℕ) (end : SimEnd) : Type 0 where
    pub done : List ℕ
    pub rest : List ℕ
    pub results : List ResultView
    pub among : seeds ≡ done ++ seed ∷ rest
    pub earlier : RunsAll done results
    pub ends : RunsTo seed (Err end)

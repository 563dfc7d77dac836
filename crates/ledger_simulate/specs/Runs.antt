-- What a step does to a run, and what a result is worth.
use Rattle.std.specs.Prelude.{◌≡◌, ◌≤◌, ℕ, Bool, List, ◌∷◌, ◌++◌, Option, None, All, length, map, take}
use Rattle.std.specs.BTreeMap.Range.{IsLtBy}
use Rattle.simulate_parts.specs.Tracker.{tracker_of}
use Rattle.ledger_simulate.specs.Exercise.{unexercised_from}
use Rattle.ledger_simulate.specs.Handling.{Grows, Handles, Seated}
use Rattle.ledger_simulate.specs.Meaning.{Meaning}
use Rattle.ledger_simulate.specs.Plans.{target_count}
use Rattle.ledger_simulate.specs.Queue.{AgendaView, NumberedBelow, QueueView, empty_agenda, key_cmp, queued_all}
use Rattle.ledger_simulate.specs.Reaching.{ExitMet}
use Rattle.ledger_simulate.specs.Results.{ResultView}
use Rattle.simulate_parts.specs.declared.tracker.FinalizationUpdate.{FinalizationUpdate}
use Rattle.ledger_simulate.specs.declared.event.Event.{Event}
use Rattle.ledger_simulate.specs.declared.exercise.Exercise.{Exercise}
use Rattle.ledger_simulate.specs.declared.reports.Reached.{Reached}
use Rattle.ledger_simulate.specs.declared.world.World.{World}

-- a list that has grown at its end alone
pub record Extends {X : Type 0} (before after : List X) : Type 0 where
  pub added : List X
  pub is : after ≡ before ++ added

-- the first event by time, then by number, has left the queue and the others stay; the events that its
-- handling made, each so long after it, have the next numbers, which are above all earlier ones
pub record Advances (entry : (ℕ × ℕ) × Event) (made : List (ℕ × Event)) (before after : QueueView) : Type 0 where
  pub rest : List ((ℕ × ℕ) × Event)
  pub first : before.entries ≡ entry ∷ rest
  pub least : All (IsLtBy key_cmp entry.0) (map (λ e. e.0) rest)
  pub numbered : NumberedBelow before.next before.entries
  pub then : after ≡ queued_all (record { entries = rest; next = before.next }) entry.0.0 made

-- a result shows these reports, what the configured failures came to, where the exit condition was met, and
-- these numbers
pub record ResultOf (updates : List FinalizationUpdate) (exercise : Exercise) (reached : Reached) (seed handled max_events : ℕ) (timeout : Option ℕ) (r : ResultView) : Type 0 where
  pub updates_are : r.updates ≡ updates
  pub reached_is : r.reached ≡ reached.tracker
  pub states_are : r.states ≡ reached.states.items
  pub entered_are : r.entered ≡ exercise.entered.items
  pub crashes_are : r.crashes ≡ exercise.crashes
  pub actions_are : r.scheduled_actions ≡ exercise.scheduled_actions
  pub started_is : r.delayed_started ≡ exercise.delayed_started
  pub seed_is : r.seed ≡ seed
  pub handled_is : r.handled ≡ handled
  pub limit_is : r.max_events ≡ max_events
  pub timeout_is : r.timeout ≡ timeout

-- what stands below is said of what a plan means
module _ {D E S F P C : Type 0} (m : Meaning D E S F P C) where
  -- one event was handled, and the run goes on: the event left the queue, those that were made are queued, and
  -- the reports and the world are what the handling left
  pub record Proceeds (holds : List FinalizationUpdate → Bool → World D E S → Type 0)
      (before after : QueueView) (us vs : List FinalizationUpdate) (u v : World D E S) : Type 0 where
    pub entry : (ℕ × ℕ) × Event
    pub agenda : AgendaView
    pub advances : Advances entry agenda.events before after
    pub handles : Handles m holds None entry.0 entry.1 (empty_agenda before.next) agenda us vs u v
    pub seated : Seated m.peer_of before.next u.seats.entries → Seated m.peer_of after.next v.seats.entries
    pub grows : Seated m.peer_of before.next u.seats.entries → Grows m.reports us vs

  -- the exit condition answered true on the result's own tracker and states, of a first part of its reports,
  -- every property holds, and each configured failure came to something
  pub record Succeeds (r : ResultView) : Type 0 where
    pub met : ExitMet m (target_count m.participants m.crashes r.delayed_started) r.reached r.states
    pub count : ℕ
    pub within : count ≤ length r.updates
    pub reached : r.reached ≡ tracker_of (take count r.updates)
    pub held : All (λ p. m.objection p (tracker_of r.updates) r.states ≡ None) m.properties
    pub exercised : unexercised_from r.crashes r.scheduled_actions r.delayed_started r.entered 0 m.crashes
        ≡ None

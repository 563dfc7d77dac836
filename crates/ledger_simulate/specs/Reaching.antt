-- What the checks answer as a run goes on, and where it is over.
use Rattle.std.specs.Prelude.{◌≡◌, ◌≤◌, ◌++◌, ℕ, All, Bool, true, List, None, Ok, MatchOption, length, take}
use Rattle.simulate_parts.specs.Checks.{reached_by_all}
use Rattle.simulate_parts.specs.Seats.{active_views}
use Rattle.simulate_parts.specs.Tracker.{tracker_of}
use Rattle.simulate_parts.specs.TrackerView.{TrackerView}
use Rattle.simulate_parts.specs.declared.engine.StateView.{StateView}
use Rattle.simulate_parts.specs.declared.peer.Peer.{Peer}
use Rattle.simulate_parts.specs.declared.seats.Seat.{Seat}
use Rattle.simulate_parts.specs.declared.tracker.FinalizationUpdate.{FinalizationUpdate}
use Rattle.ledger_simulate.specs.Meaning.{Meaning}
use Rattle.ledger_simulate.specs.Plans.{target_count}
use Rattle.ledger_simulate.specs.declared.reports.Reached.{Reached}
use Rattle.ledger_simulate.specs.declared.world.World.{World}

module _ {D E S F P C : Type 0} (m : Meaning D E S F P C) where
  -- the exit condition answers this: the one that is set, or else whether enough validators have finalized the
  -- required view
  abbrev pub ExitIs : ℕ → TrackerView → List StateView → Bool → Type 0
  ExitIs target tracker states met =
      MatchOption m.condition (reached_by_all tracker target m.required ≡ met)
      (λ c. m.verdict c tracker states target ≡ Ok met)

  -- the exit condition answers true
  abbrev pub ExitMet : ℕ → TrackerView → List StateView → Type 0
  ExitMet target tracker states = ExitIs target tracker states true

  -- the exit condition answered true after a first part of these reports
  pub record IsReached (target : ℕ) (updates : List FinalizationUpdate) (reached : Reached) : Type 0 where
    pub met : ExitMet target reached.tracker reached.states.items
    pub within : reached.count ≤ length updates
    pub tracker : reached.tracker ≡ tracker_of (take reached.count updates)

  -- each check of the states that is asked at a report answers Ok on those of the engines that run
  abbrev pub Sound : List (Peer × Seat D E S) → Type 0
  Sound seats = All (λ p. m.complaint p (active_views m.height m.shown seats) ≡ None) m.checks

  -- what was found after these reports more, where the exit condition answered this: each check of the states
  -- answers Ok, and the exit condition answers so, for as many participants as count then
  pub record Finds (before more : List FinalizationUpdate) (met : Bool) (w : World D E S) : Type 0 where
    pub sound : Sound w.seats.entries
    pub answers : ExitIs (target_count m.participants m.crashes w.exercise.delayed_started)
        (tracker_of (before ++ more)) (active_views m.height m.shown w.seats.entries) met

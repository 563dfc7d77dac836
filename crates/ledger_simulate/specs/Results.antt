-- How contracts see the end of a run.
use Rattle.std.specs.Prelude.{ℕ, Bool, List, Option}
use Rattle.simulate_parts.specs.TrackerView.{TrackerView}
use Rattle.simulate_parts.specs.declared.engine.StateView.{StateView}
use Rattle.simulate_parts.specs.declared.tracker.FinalizationUpdate.{FinalizationUpdate}
use Rattle.ledger_simulate.specs.Failures.{Tally}
use Rattle.ledger_simulate.specs.declared.fault.PlanFault.{PlanFault}

-- a success, with the limits of its plan
pub record ResultView : Type 0 where
  pub state : List ℕ
  pub updates : List FinalizationUpdate
  pub reached : TrackerView
  pub states : List StateView
  pub entered : List Bool
  pub crashes : ℕ
  pub scheduled_actions : ℕ
  pub delayed_started : Bool
  pub seed : ℕ
  pub handled : ℕ
  pub max_events : ℕ
  pub timeout : Option ℕ

-- a fault, with the limits of its plan
pub record EndedView : Type 0 where
  pub fault : PlanFault
  pub seed : ℕ
  pub handled : ℕ
  pub max_events : ℕ
  pub timeout : Option ℕ

-- what a success shows of what the failures came to
abbrev pub tally_shown : ResultView → Tally
tally_shown r = record { ran = r.crashes; actions = r.scheduled_actions; entered = r.entered }

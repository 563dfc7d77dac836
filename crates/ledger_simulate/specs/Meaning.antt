-- What a plan means.
use Rattle.std.specs.Prelude.{ℕ, Bool, List, Option, Result}
use Rattle.simulate_parts.specs.TrackerView.{TrackerView}
use Rattle.simulate_parts.specs.declared.engine.StateView.{StateView}
use Rattle.simulate_parts.specs.declared.engine.StepEvent.{StepEvent}
use Rattle.simulate_parts.specs.declared.engine.StepOut.{StepOut}
use Rattle.simulate_parts.specs.declared.link.SimLink.{SimLink}
use Rattle.simulate_parts.specs.declared.peer.Peer.{Peer}
use Rattle.simulate_parts.specs.declared.schedule.Crash.{Crash}
use Rattle.simulate_parts.specs.declared.tracker.FinalizationUpdate.{FinalizationUpdate}

-- what a plan means: its engines and what they tell, its network, its failures, its checks and its limits
pub record Meaning (D E S F P C : Type 0) : Type 0 where
  pub engine : D
  pub peer_of : E → Peer
  pub journal : Option (E → List (StepEvent × StepOut))
  pub reports : Option (FinalizationUpdate → Bool)
  pub channels : Option (List ℕ)
  pub max_size : Option ℕ
  pub height : S → ℕ
  pub shown : S → List ℕ
  pub participants : List Peer
  pub crashes : List Crash
  pub link : SimLink
  pub checks : List F
  pub check_name : F → List ℕ
  pub complaint : F → List StateView → Option (List ℕ)
  pub properties : List P
  pub property_name : P → List ℕ
  pub objection : P → TrackerView → List StateView → Option (List ℕ)
  pub condition : Option C
  pub condition_name : C → List ℕ
  pub polls : C → Bool
  pub verdict : C → TrackerView → List StateView → ℕ → Result Bool (List ℕ)
  pub required : ℕ
  pub max_events : ℕ
  pub timeout : Option ℕ

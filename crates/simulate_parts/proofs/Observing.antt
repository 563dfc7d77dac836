-- Which refusal a report gets.
use Rattle.std.proofs.Common.{◌≡◌, true, false, List, ◌∷◌, Option, Some, None, refl, ap, ◌∙◌}
use Rattle.simulate_parts.specs.Tracker.{disagrees_at_height, disagrees_at_round, fault_from, observe_fault, observed, observed_all}
use Rattle.std.specs.Option.{option_or}
use Rattle.simulate_parts.specs.TrackerView.{TrackerView}
use Rattle.simulate_parts.specs.declared.tracker.FinalizationUpdate.{FinalizationUpdate}
use Rattle.simulate_parts.specs.declared.tracker.ObserveFault.{ObserveFault}
use Rattle.simulate_parts.specs.declared.tracker.ObserveFault.TheVariants.{Round as at_round}

-- a conflict at the round alone
pub fault_at_round : (t : TrackerView) (u : FinalizationUpdate) → disagrees_at_height t u ≡ false → disagrees_at_round t u ≡ true → observe_fault t u ≡ Some (at_round u.round)
fault_at_round t u h r = rw (h, r) refl

-- one report more of a list that is taken
pub fault_more : (t : TrackerView) (us rest : List FinalizationUpdate) (u : FinalizationUpdate) (o : Option ObserveFault) → us ≡ u ∷ rest → o ≡ fault_from t us → observe_fault t u ≡ None → o ≡ fault_from (observed t u) rest
fault_more t us rest u o split start taken = start ∙ ap (fault_from t) split ∙ ap (λ f. option_or f (fault_from (observed t u) rest)) taken

-- the refusal of one report is the list's
pub fault_here : (t : TrackerView) (us rest : List FinalizationUpdate) (u : FinalizationUpdate) (o : Option ObserveFault) (e : ObserveFault) → us ≡ u ∷ rest → o ≡ fault_from t us → observe_fault t u ≡ Some e → o ≡ Some e
fault_here t us rest u o e split start refused = start ∙ ap (fault_from t) split ∙ ap (λ f. option_or f (fault_from (observed t u) rest)) refused

-- one report more that is taken, in the tracker of them all
pub observed_more : (t : TrackerView) (us rest : List FinalizationUpdate) (u : FinalizationUpdate) (o : TrackerView) → us ≡ u ∷ rest → o ≡ observed_all t us → o ≡ observed_all (observed t u) rest
observed_more t us rest u o split start = start ∙ ap (observed_all t) split

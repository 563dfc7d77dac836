-- One report more, at the end of a list.
use Rattle.std.proofs.Common.{◌≡◌, ◌++◌, List, [], ◌∷◌, Some, None, Option, refl, sym, ap, ◌∙◌}
use Rattle.std.specs.Option.{option_or}
use Rattle.simulate_parts.specs.Tracker.{fault_from, first_fault, fresh, observe_fault, observed, observed_all, tracker_of}
use Rattle.simulate_parts.specs.TrackerView.{TrackerView}
use Rattle.simulate_parts.specs.declared.tracker.FinalizationUpdate.{FinalizationUpdate}
use Rattle.simulate_parts.specs.declared.tracker.ObserveFault.{ObserveFault}

observed_push : (t : TrackerView) (us : List FinalizationUpdate) (u : FinalizationUpdate) → observed_all t (us ++ u ∷ []) ≡ observed (observed_all t us) u
observed_push t [] u = refl
observed_push t (v ∷ us) u = observed_push (observed t v) us u

or_after : (o p q : Option ObserveFault) → option_or o p ≡ None → (p ≡ None → q ≡ None) → option_or o q ≡ None
or_after None p q h next = next h
or_after (Some x) p q h next = absurd (cc)

fault_push : (t : TrackerView) (us : List FinalizationUpdate) (u : FinalizationUpdate) → fault_from t us ≡ None → observe_fault (observed_all t us) u ≡ None → fault_from t (us ++ u ∷ []) ≡ None
fault_push t [] u none last = ap (λ o. option_or o None) last
fault_push t (v ∷ us) u none last =
    or_after (observe_fault t v) (fault_from (observed t v) us) (fault_from (observed t v) (us ++ u ∷ [])) none
    (λ rest. fault_push (observed t v) us u rest last)

-- the tracker after one report more
pub tracker_push : (us items : List FinalizationUpdate) (u : FinalizationUpdate) (t new : TrackerView) → t ≡ tracker_of us → new ≡ observed t u → items ≡ us ++ u ∷ [] → new ≡ tracker_of items
tracker_push us items u t new was is grown =
    is ∙ ap (λ x. observed x u) was ∙ sym (observed_push fresh us u) ∙ sym (ap tracker_of grown)

-- no refusal after one report more
pub none_push : (us items : List FinalizationUpdate) (u : FinalizationUpdate) (t : TrackerView) → t ≡ tracker_of us → first_fault us ≡ None → observe_fault t u ≡ None → items ≡ us ++ u ∷ [] → first_fault items ≡ None
none_push us items u t was none taken grown =
    ap first_fault grown ∙ fault_push fresh us u none (sym (ap (λ x. observe_fault x u) was) ∙ taken)

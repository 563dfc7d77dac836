-- What a result is worth.
use Rattle.std.proofs.Common.{◌≡◌, ◌≤◌, ℕ, List, Option, None, All, length, take, sym, ap, ◌∙◌, subst}
use Rattle.simulate_parts.specs.Tracker.{tracker_of}
use Rattle.simulate_parts.specs.TrackerView.{TrackerView}
use Rattle.simulate_parts.specs.declared.engine.StateView.{StateView}
use Rattle.simulate_parts.specs.declared.tracker.FinalizationUpdate.{FinalizationUpdate}
use Rattle.ledger_simulate.specs.Meaning.{Meaning}
use Rattle.ledger_simulate.specs.Exercise.{unexercised_from}
use Rattle.ledger_simulate.specs.Plans.{target_count}
use Rattle.ledger_simulate.specs.Reaching.{ExitMet, IsReached}
use Rattle.ledger_simulate.specs.Results.{ResultView}
use Rattle.ledger_simulate.specs.Runs.{Extends, ResultOf, Succeeds}
use Rattle.ledger_simulate.specs.declared.exercise.Exercise.{Exercise}
use Rattle.ledger_simulate.specs.declared.reports.Reached.{Reached}

-- a result of a run whose exit condition was met, whose properties hold and whose failures all came
pub succeeds_of : {D E S F P C : Type 0} (m : Meaning D E S F P C) (updates : List FinalizationUpdate) (exercise : Exercise) (reached : Reached) (seed handled max_events : ℕ) (timeout : Option ℕ) (r : ResultView) → ResultOf updates exercise reached seed handled max_events timeout r → IsReached m (target_count m.participants m.crashes exercise.delayed_started) updates reached → All (λ p. m.objection p (tracker_of updates) reached.states.items ≡ None) m.properties → unexercised_from exercise.crashes exercise.scheduled_actions exercise.delayed_started exercise.entered.items 0 m.crashes ≡ None → Succeeds m r
succeeds_of m updates exercise reached seed handled max_events timeout r of met held exercised =
    let met_target : ExitMet m (target_count m.participants m.crashes r.delayed_started) reached.tracker reached.states.items =
    subst (λ b. ExitMet m (target_count m.participants m.crashes b) reached.tracker reached.states.items) (sym of.started_is) met.met in
    let met_tracker : ExitMet m (target_count m.participants m.crashes r.delayed_started) r.reached reached.states.items =
    subst (λ t. ExitMet m (target_count m.participants m.crashes r.delayed_started) t reached.states.items) (sym of.reached_is) met_target in
    let held_reports : All (λ p. m.objection p (tracker_of r.updates) reached.states.items ≡ None) m.properties =
    subst (λ us. All (λ p. m.objection p (tracker_of us) reached.states.items ≡ None) m.properties) (sym of.updates_are) held in
    record {
      met = subst (λ x. ExitMet m (target_count m.participants m.crashes r.delayed_started) r.reached x) (sym of.states_are) met_tracker;
      count = reached.count;
      within = subst (λ us. reached.count ≤ length us) (sym of.updates_are) met.within;
      reached = of.reached_is ∙ met.tracker ∙ ap (λ us. tracker_of (take reached.count us)) (sym of.updates_are);
      held = subst (λ x. All (λ p. m.objection p (tracker_of r.updates) x ≡ None) m.properties) (sym of.states_are) held_reports;
      exercised = rw (of.crashes_are, of.actions_are, of.started_is, of.entered_are) exercised;
    }

-- properties that hold on equal values
pub held_on : {P : Type 0} (complaint : P → TrackerView → List StateView → Option (List ℕ)) (ps qs : List P) (t u : TrackerView) (xs ys : List StateView) → ps ≡ qs → t ≡ u → xs ≡ ys → All (λ p. complaint p t xs ≡ None) ps → All (λ p. complaint p u ys ≡ None) qs
held_on complaint ps qs t u xs ys properties trackers states held =
    subst (λ zs. All (λ p. complaint p u ys ≡ None) zs) properties
    (subst (λ zs. All (λ p. complaint p u zs ≡ None) ps) states (subst (λ v. All (λ p. complaint p v xs ≡ None) ps) trackers held))

-- a list that extends another one, by an equal list
pub extends_to : {X : Type 0} (before after same : List X) → same ≡ after → Extends before after → Extends before same
extends_to before after same e grown = record { added = grown.added; is = e ∙ grown.is }

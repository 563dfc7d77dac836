use Rattle.ledger_simulate.proofs.Answering.{if_answered_fails, answered_complains}
use Rattle.std.proofs.Common.{◌≡◌, refl, [], ap, ◌∙◌, IfOk, is_some, subst}
use Rattle.ledger_simulate.specs.Plans.{target_count}
use Rattle.simulate_parts.specs.Seats.{active_views}
use Rattle.simulate_parts.specs.Tracker.{tracker_of}
use Rattle.ledger_simulate.specs.Reaching.{ExitIs}
use Rattle.ledger_simulate.proofs.Delaying.{if_ok_some_map}
use Rattle.ledger_simulate.proofs.reports.check_and_ask.Goals as goal

pub returns-in-Ok-clause-answered : goal.returns-in-Ok-clause-answered
returns-in-Ok-clause-answered g c =
    if_answered_fails (record { engine = c.args.plan.now.engine; peer_of = g.D.EngineDefinition.peer_of c.args.plan.now.engine; journal = g.D.EngineDefinition.journal c.args.plan.now.engine; reports = g.D.EngineDefinition.reports c.args.plan.now.engine; channels = g.D.EngineDefinition.carried_on c.args.plan.now.engine; max_size = g.D.EngineDefinition.carried_size c.args.plan.now.engine; height = g.D.State.ProcessedHeight.height_of; shown = g.D.State.ProcessedHeight.bytes_of; participants = c.args.plan.now.participants; crashes = c.args.plan.now.crashes; link = c.args.plan.now.link; checks = c.args.plan.now.finalization_property; check_name = λ x. (goal.FinalizationProperty-dyn g (x.vtable, x.value)).finalization_name x.value; complaint = λ x. (goal.FinalizationProperty-dyn g (x.vtable, x.value)).finalization_complaint x.value; properties = c.args.plan.now.property; property_name = λ x. (goal.Property-dyn g (x.vtable, x.value)).property_name x.value; objection = λ x. (goal.Property-dyn g (x.vtable, x.value)).property_complaint x.value; condition = c.args.plan.now.exit_condition; condition_name = λ x. (goal.ExitCondition-dyn g (x.vtable, x.value)).exit_name x.value; polls = λ x. (goal.ExitCondition-dyn g (x.vtable, x.value)).exit_polls x.value; verdict = λ x. (goal.ExitCondition-dyn g (x.vtable, x.value)).exit_verdict x.value; required = c.args.plan.now.required_finalizations; max_events = c.args.plan.now.max_events; timeout = c.args.plan.now.timeout }) (λ m v. (m ≡ []) × (v ≡ active_views g.D.State.ProcessedHeight.height_of g.D.State.ProcessedHeight.bytes_of c.args.world.now.seats.entries)) (λ m v n. (m ≡ []) × (v ≡ active_views g.D.State.ProcessedHeight.height_of g.D.State.ProcessedHeight.bytes_of c.args.world.now.seats.entries) × (n ≡ target_count c.args.plan.now.participants c.args.plan.now.crashes c.args.world.now.exercise.delayed_started)) (λ m v. ⊥)
    c.args.watch.now c.in-Ok.states.items (target_count c.args.plan.now.participants c.args.plan.now.crashes c.args.world.now.exercise.delayed_started) c.ask.result (refl, c.in-Ok.ensures.views, refl) c.ask.ensures.fails

pub returns-in-Err-clause-answered : goal.returns-in-Err-clause-answered
returns-in-Err-clause-answered g c =
    answered_complains (record { engine = c.args.plan.now.engine; peer_of = g.D.EngineDefinition.peer_of c.args.plan.now.engine; journal = g.D.EngineDefinition.journal c.args.plan.now.engine; reports = g.D.EngineDefinition.reports c.args.plan.now.engine; channels = g.D.EngineDefinition.carried_on c.args.plan.now.engine; max_size = g.D.EngineDefinition.carried_size c.args.plan.now.engine; height = g.D.State.ProcessedHeight.height_of; shown = g.D.State.ProcessedHeight.bytes_of; participants = c.args.plan.now.participants; crashes = c.args.plan.now.crashes; link = c.args.plan.now.link; checks = c.args.plan.now.finalization_property; check_name = λ x. (goal.FinalizationProperty-dyn g (x.vtable, x.value)).finalization_name x.value; complaint = λ x. (goal.FinalizationProperty-dyn g (x.vtable, x.value)).finalization_complaint x.value; properties = c.args.plan.now.property; property_name = λ x. (goal.Property-dyn g (x.vtable, x.value)).property_name x.value; objection = λ x. (goal.Property-dyn g (x.vtable, x.value)).property_complaint x.value; condition = c.args.plan.now.exit_condition; condition_name = λ x. (goal.ExitCondition-dyn g (x.vtable, x.value)).exit_name x.value; polls = λ x. (goal.ExitCondition-dyn g (x.vtable, x.value)).exit_polls x.value; verdict = λ x. (goal.ExitCondition-dyn g (x.vtable, x.value)).exit_verdict x.value; required = c.args.plan.now.required_finalizations; max_events = c.args.plan.now.max_events; timeout = c.args.plan.now.timeout }) (λ m v. (m ≡ []) × (v ≡ active_views g.D.State.ProcessedHeight.height_of g.D.State.ProcessedHeight.bytes_of c.args.world.now.seats.entries)) (λ m v n. (m ≡ []) × (v ≡ active_views g.D.State.ProcessedHeight.height_of g.D.State.ProcessedHeight.bytes_of c.args.world.now.seats.entries) × (n ≡ target_count c.args.plan.now.participants c.args.plan.now.crashes c.args.world.now.exercise.delayed_started)) (λ m v. ⊥)
    c.args.watch.now [] (active_views g.D.State.ProcessedHeight.height_of g.D.State.ProcessedHeight.bytes_of c.args.world.now.seats.entries) c.in-Err.stop (refl, refl) c.in-Err.ensures.complains

pub returns-in-Ok-clause-states : goal.returns-in-Ok-clause-states
returns-in-Ok-clause-states g c = if_ok_some_map c.ask.result (λ r same. ap (λ v. v.items) same ∙ c.in-Ok.ensures.views) c.ask.ensures.states

pub returns-in-Ok-clause-answers : goal.returns-in-Ok-clause-answers
returns-in-Ok-clause-answers g c =
    subst (λ vs. IfOk c.ask.result (λ o. ExitIs (record { engine = c.args.plan.now.engine; peer_of = g.D.EngineDefinition.peer_of c.args.plan.now.engine; journal = g.D.EngineDefinition.journal c.args.plan.now.engine; reports = g.D.EngineDefinition.reports c.args.plan.now.engine; channels = g.D.EngineDefinition.carried_on c.args.plan.now.engine; max_size = g.D.EngineDefinition.carried_size c.args.plan.now.engine; height = g.D.State.ProcessedHeight.height_of; shown = g.D.State.ProcessedHeight.bytes_of; participants = c.args.plan.now.participants; crashes = c.args.plan.now.crashes; link = c.args.plan.now.link; checks = c.args.plan.now.finalization_property; check_name = λ x. (goal.FinalizationProperty-dyn g (x.vtable, x.value)).finalization_name x.value; complaint = λ x. (goal.FinalizationProperty-dyn g (x.vtable, x.value)).finalization_complaint x.value; properties = c.args.plan.now.property; property_name = λ x. (goal.Property-dyn g (x.vtable, x.value)).property_name x.value; objection = λ x. (goal.Property-dyn g (x.vtable, x.value)).property_complaint x.value; condition = c.args.plan.now.exit_condition; condition_name = λ x. (goal.ExitCondition-dyn g (x.vtable, x.value)).exit_name x.value; polls = λ x. (goal.ExitCondition-dyn g (x.vtable, x.value)).exit_polls x.value; verdict = λ x. (goal.ExitCondition-dyn g (x.vtable, x.value)).exit_verdict x.value; required = c.args.plan.now.required_finalizations; max_events = c.args.plan.now.max_events; timeout = c.args.plan.now.timeout }) (target_count c.args.plan.now.participants c.args.plan.now.crashes c.args.world.now.exercise.delayed_started) (tracker_of c.args.watch.now) vs (is_some o))) c.in-Ok.ensures.views c.ask.ensures.answers

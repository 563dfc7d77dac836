use Rattle.std.proofs.Common.{[], sym}
use Rattle.std.proofs.lemmas.List.{append-nil}
use Rattle.simulate_parts.specs.Seats.{active_views}
use Rattle.ledger_simulate.proofs.Answering.{answered_sound, if_answered_wider}
use Rattle.ledger_simulate.proofs.Causing.{stop_since}
use Rattle.ledger_simulate.specs.Reaching.{Sound}
use Rattle.ledger_simulate.proofs.Delaying.{some_is}
use Rattle.ledger_simulate.proofs.reports.next_report.Goals as goal

pub returns-in-Err-clause-answered : goal.returns-in-Err-clause-answered
returns-in-Err-clause-answered g c =
    answered_sound (record { engine = c.args.plan.now.engine; peer_of = g.D.EngineDefinition.peer_of c.args.plan.now.engine; journal = g.D.EngineDefinition.journal c.args.plan.now.engine; reports = g.D.EngineDefinition.reports c.args.plan.now.engine; channels = g.D.EngineDefinition.carried_on c.args.plan.now.engine; max_size = g.D.EngineDefinition.carried_size c.args.plan.now.engine; height = g.D.State.ProcessedHeight.height_of; shown = g.D.State.ProcessedHeight.bytes_of; participants = c.args.plan.now.participants; crashes = c.args.plan.now.crashes; link = c.args.plan.now.link; checks = c.args.plan.now.finalization_property; check_name = λ x. (goal.FinalizationProperty-dyn g (x.vtable, x.value)).finalization_name x.value; complaint = λ x. (goal.FinalizationProperty-dyn g (x.vtable, x.value)).finalization_complaint x.value; properties = c.args.plan.now.property; property_name = λ x. (goal.Property-dyn g (x.vtable, x.value)).property_name x.value; objection = λ x. (goal.Property-dyn g (x.vtable, x.value)).property_complaint x.value; condition = c.args.plan.now.exit_condition; condition_name = λ x. (goal.ExitCondition-dyn g (x.vtable, x.value)).exit_name x.value; polls = λ x. (goal.ExitCondition-dyn g (x.vtable, x.value)).exit_polls x.value; verdict = λ x. (goal.ExitCondition-dyn g (x.vtable, x.value)).exit_verdict x.value; required = c.args.plan.now.required_finalizations; max_events = c.args.plan.now.max_events; timeout = c.args.plan.now.timeout }) _ _ (λ m v. ⊥) _ _ (λ m v. ⊥)
    c.args.watch.now (active_views g.D.State.ProcessedHeight.height_of g.D.State.ProcessedHeight.bytes_of c.args.world.now.seats.entries) c.in-Err.stop
    (some_is (λ r. Sound (record { engine = c.args.plan.now.engine; peer_of = g.D.EngineDefinition.peer_of c.args.plan.now.engine; journal = g.D.EngineDefinition.journal c.args.plan.now.engine; reports = g.D.EngineDefinition.reports c.args.plan.now.engine; channels = g.D.EngineDefinition.carried_on c.args.plan.now.engine; max_size = g.D.EngineDefinition.carried_size c.args.plan.now.engine; height = g.D.State.ProcessedHeight.height_of; shown = g.D.State.ProcessedHeight.bytes_of; participants = c.args.plan.now.participants; crashes = c.args.plan.now.crashes; link = c.args.plan.now.link; checks = c.args.plan.now.finalization_property; check_name = λ x. (goal.FinalizationProperty-dyn g (x.vtable, x.value)).finalization_name x.value; complaint = λ x. (goal.FinalizationProperty-dyn g (x.vtable, x.value)).finalization_complaint x.value; properties = c.args.plan.now.property; property_name = λ x. (goal.Property-dyn g (x.vtable, x.value)).property_name x.value; objection = λ x. (goal.Property-dyn g (x.vtable, x.value)).property_complaint x.value; condition = c.args.plan.now.exit_condition; condition_name = λ x. (goal.ExitCondition-dyn g (x.vtable, x.value)).exit_name x.value; polls = λ x. (goal.ExitCondition-dyn g (x.vtable, x.value)).exit_polls x.value; verdict = λ x. (goal.ExitCondition-dyn g (x.vtable, x.value)).exit_verdict x.value; required = c.args.plan.now.required_finalizations; max_events = c.args.plan.now.max_events; timeout = c.args.plan.now.timeout }) c.args.world.now.seats.entries) c.args.reached c.in-Some.reached c.in-Some.is c.requires.sound)
    (λ m v is. is.1) (λ m v n never. never) (λ m v never. never) c.in-Err.ensures.answered

pub returns-in-None-clause-answered : goal.returns-in-None-clause-answered
returns-in-None-clause-answered g c =
    if_answered_wider (record { engine = c.args.plan.now.engine; peer_of = g.D.EngineDefinition.peer_of c.args.plan.now.engine; journal = g.D.EngineDefinition.journal c.args.plan.now.engine; reports = g.D.EngineDefinition.reports c.args.plan.now.engine; channels = g.D.EngineDefinition.carried_on c.args.plan.now.engine; max_size = g.D.EngineDefinition.carried_size c.args.plan.now.engine; height = g.D.State.ProcessedHeight.height_of; shown = g.D.State.ProcessedHeight.bytes_of; participants = c.args.plan.now.participants; crashes = c.args.plan.now.crashes; link = c.args.plan.now.link; checks = c.args.plan.now.finalization_property; check_name = λ x. (goal.FinalizationProperty-dyn g (x.vtable, x.value)).finalization_name x.value; complaint = λ x. (goal.FinalizationProperty-dyn g (x.vtable, x.value)).finalization_complaint x.value; properties = c.args.plan.now.property; property_name = λ x. (goal.Property-dyn g (x.vtable, x.value)).property_name x.value; objection = λ x. (goal.Property-dyn g (x.vtable, x.value)).property_complaint x.value; condition = c.args.plan.now.exit_condition; condition_name = λ x. (goal.ExitCondition-dyn g (x.vtable, x.value)).exit_name x.value; polls = λ x. (goal.ExitCondition-dyn g (x.vtable, x.value)).exit_polls x.value; verdict = λ x. (goal.ExitCondition-dyn g (x.vtable, x.value)).exit_verdict x.value; required = c.args.plan.now.required_finalizations; max_events = c.args.plan.now.max_events; timeout = c.args.plan.now.timeout }) _ _ (λ m v. ⊥) _ _ (λ m v. ⊥)
    c.args.watch.now c.take_report.result (λ m v is. (c.in-None.is, is.0, is.1)) (λ m v n is. (c.in-None.is, is.0, is.1, is.2)) (λ m v never. absurd never) c.take_report.ensures.answered

pub returns-in-Err-clause-comes : goal.returns-in-Err-clause-comes
returns-in-Err-clause-comes g c =
    stop_since _ _ (λ h. ⊥) _ c.args.watch.now c.args.watch.now [] (sym (append-nil c.args.watch.now)) (λ m u came. came) (λ h never. absurd never) c.in-Err.stop c.in-Err.ensures.comes

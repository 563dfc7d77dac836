use Rattle.std.proofs.Common.{◌≡◌, None, refl, sym, ap, ◌∙◌, subst}
use Rattle.ledger_simulate.specs.Exercise.{missed_by}
use Rattle.ledger_simulate.specs.Runs.{Succeeds}
use Rattle.ledger_simulate.proofs.Ends.{held_on, succeeds_of}
use Rattle.ledger_simulate.proofs.Outcomes.{same_done}
use Rattle.simulate_parts.specs.Tracker.{tracker_of}
use Rattle.ledger_simulate.specs.Answering.{Answered, EndsAt}
use Rattle.ledger_simulate.proofs.Answering.{answered_objects, fault_shown, objection_on}
use Rattle.ledger_simulate.proofs.simulation.Simulation.finish.Goals as goal

pub returns-clause-success : goal.returns-clause-success
returns-clause-success g c = λ r e.
    let same : c.result.result ≡ r = same_done _ r e in
    let plan = c.args.self.plan.now in
    let exercise = c.args.self.world.exercise in
    let none : missed_by exercise plan.crashes ≡ None = sym (c.first_missed.ensures ∙ ap (missed_by exercise) c.as_slice-3.ensures) ∙ c.in-None.is in
    subst (Succeeds (record { engine = c.args.self.plan.now.engine; peer_of = g.D.EngineDefinition.peer_of c.args.self.plan.now.engine; journal = g.D.EngineDefinition.journal c.args.self.plan.now.engine; reports = g.D.EngineDefinition.reports c.args.self.plan.now.engine; channels = g.D.EngineDefinition.carried_on c.args.self.plan.now.engine; max_size = g.D.EngineDefinition.carried_size c.args.self.plan.now.engine; height = g.D.State.ProcessedHeight.height_of; shown = g.D.State.ProcessedHeight.bytes_of; participants = c.args.self.plan.now.participants; crashes = c.args.self.plan.now.crashes; link = c.args.self.plan.now.link; checks = c.args.self.plan.now.finalization_property; check_name = λ x. (goal.FinalizationProperty-dyn g (x.vtable, x.value)).finalization_name x.value; complaint = λ x. (goal.FinalizationProperty-dyn g (x.vtable, x.value)).finalization_complaint x.value; properties = c.args.self.plan.now.property; property_name = λ x. (goal.Property-dyn g (x.vtable, x.value)).property_name x.value; objection = λ x. (goal.Property-dyn g (x.vtable, x.value)).property_complaint x.value; condition = c.args.self.plan.now.exit_condition; condition_name = λ x. (goal.ExitCondition-dyn g (x.vtable, x.value)).exit_name x.value; polls = λ x. (goal.ExitCondition-dyn g (x.vtable, x.value)).exit_polls x.value; verdict = λ x. (goal.ExitCondition-dyn g (x.vtable, x.value)).exit_verdict x.value; required = c.args.self.plan.now.required_finalizations; max_events = c.args.self.plan.now.max_events; timeout = c.args.self.plan.now.timeout })) same
    (succeeds_of (record { engine = c.args.self.plan.now.engine; peer_of = g.D.EngineDefinition.peer_of c.args.self.plan.now.engine; journal = g.D.EngineDefinition.journal c.args.self.plan.now.engine; reports = g.D.EngineDefinition.reports c.args.self.plan.now.engine; channels = g.D.EngineDefinition.carried_on c.args.self.plan.now.engine; max_size = g.D.EngineDefinition.carried_size c.args.self.plan.now.engine; height = g.D.State.ProcessedHeight.height_of; shown = g.D.State.ProcessedHeight.bytes_of; participants = c.args.self.plan.now.participants; crashes = c.args.self.plan.now.crashes; link = c.args.self.plan.now.link; checks = c.args.self.plan.now.finalization_property; check_name = λ x. (goal.FinalizationProperty-dyn g (x.vtable, x.value)).finalization_name x.value; complaint = λ x. (goal.FinalizationProperty-dyn g (x.vtable, x.value)).finalization_complaint x.value; properties = c.args.self.plan.now.property; property_name = λ x. (goal.Property-dyn g (x.vtable, x.value)).property_name x.value; objection = λ x. (goal.Property-dyn g (x.vtable, x.value)).property_complaint x.value; condition = c.args.self.plan.now.exit_condition; condition_name = λ x. (goal.ExitCondition-dyn g (x.vtable, x.value)).exit_name x.value; polls = λ x. (goal.ExitCondition-dyn g (x.vtable, x.value)).exit_polls x.value; verdict = λ x. (goal.ExitCondition-dyn g (x.vtable, x.value)).exit_verdict x.value; required = c.args.self.plan.now.required_finalizations; max_events = c.args.self.plan.now.max_events; timeout = c.args.self.plan.now.timeout })
    c.args.self.watch exercise c.args.reached c.args.self.seed c.args.self.handled plan.max_events plan.timeout c.result.result
    c.result.ensures c.requires
    (held_on (λ x. (goal.Property-dyn g (x.vtable, x.value)).property_complaint x.value) c.as_slice.result.now plan.property c.tracker.result.now _ c.as_slice-2.result.now c.args.reached.states.items c.as_slice.ensures c.tracker.ensures.value c.as_slice-2.ensures.value c.in-Ok.ensures.ok)
    none)

pub returns-in-Err-Fault-clause-answered : goal.returns-in-Err-Fault-clause-answered
returns-in-Err-Fault-clause-answered g c = λ e h.
    let reached = c.args.reached in
    subst (Answered (record { engine = c.args.self.plan.now.engine; peer_of = g.D.EngineDefinition.peer_of c.args.self.plan.now.engine; journal = g.D.EngineDefinition.journal c.args.self.plan.now.engine; reports = g.D.EngineDefinition.reports c.args.self.plan.now.engine; channels = g.D.EngineDefinition.carried_on c.args.self.plan.now.engine; max_size = g.D.EngineDefinition.carried_size c.args.self.plan.now.engine; height = g.D.State.ProcessedHeight.height_of; shown = g.D.State.ProcessedHeight.bytes_of; participants = c.args.self.plan.now.participants; crashes = c.args.self.plan.now.crashes; link = c.args.self.plan.now.link; checks = c.args.self.plan.now.finalization_property; check_name = λ x. (goal.FinalizationProperty-dyn g (x.vtable, x.value)).finalization_name x.value; complaint = λ x. (goal.FinalizationProperty-dyn g (x.vtable, x.value)).finalization_complaint x.value; properties = c.args.self.plan.now.property; property_name = λ x. (goal.Property-dyn g (x.vtable, x.value)).property_name x.value; objection = λ x. (goal.Property-dyn g (x.vtable, x.value)).property_complaint x.value; condition = c.args.self.plan.now.exit_condition; condition_name = λ x. (goal.ExitCondition-dyn g (x.vtable, x.value)).exit_name x.value; polls = λ x. (goal.ExitCondition-dyn g (x.vtable, x.value)).exit_polls x.value; verdict = λ x. (goal.ExitCondition-dyn g (x.vtable, x.value)).exit_verdict x.value; required = c.args.self.plan.now.required_finalizations; max_events = c.args.self.plan.now.max_events; timeout = c.args.self.plan.now.timeout }) (λ m v. ⊥) (λ m v n. ⊥) (EndsAt reached.states.items) c.args.self.watch) (fault_shown c.end_by.result _ e c.end_by.ensures h)
    (answered_objects (record { engine = c.args.self.plan.now.engine; peer_of = g.D.EngineDefinition.peer_of c.args.self.plan.now.engine; journal = g.D.EngineDefinition.journal c.args.self.plan.now.engine; reports = g.D.EngineDefinition.reports c.args.self.plan.now.engine; channels = g.D.EngineDefinition.carried_on c.args.self.plan.now.engine; max_size = g.D.EngineDefinition.carried_size c.args.self.plan.now.engine; height = g.D.State.ProcessedHeight.height_of; shown = g.D.State.ProcessedHeight.bytes_of; participants = c.args.self.plan.now.participants; crashes = c.args.self.plan.now.crashes; link = c.args.self.plan.now.link; checks = c.args.self.plan.now.finalization_property; check_name = λ x. (goal.FinalizationProperty-dyn g (x.vtable, x.value)).finalization_name x.value; complaint = λ x. (goal.FinalizationProperty-dyn g (x.vtable, x.value)).finalization_complaint x.value; properties = c.args.self.plan.now.property; property_name = λ x. (goal.Property-dyn g (x.vtable, x.value)).property_name x.value; objection = λ x. (goal.Property-dyn g (x.vtable, x.value)).property_complaint x.value; condition = c.args.self.plan.now.exit_condition; condition_name = λ x. (goal.ExitCondition-dyn g (x.vtable, x.value)).exit_name x.value; polls = λ x. (goal.ExitCondition-dyn g (x.vtable, x.value)).exit_polls x.value; verdict = λ x. (goal.ExitCondition-dyn g (x.vtable, x.value)).exit_verdict x.value; required = c.args.self.plan.now.required_finalizations; max_events = c.args.self.plan.now.max_events; timeout = c.args.self.plan.now.timeout }) (λ m v. ⊥) (λ m v n. ⊥) (EndsAt reached.states.items) c.args.self.watch reached.states.items c.in-Err-Fault.field-0 c.in-Err-Fault.fault (refl, refl) c.in-Err-Fault.field-0-is
    (objection_on (λ x. (goal.Property-dyn g (x.vtable, x.value)).property_name x.value) (λ x. (goal.Property-dyn g (x.vtable, x.value)).property_complaint x.value) c.as_slice.result.now c.args.self.plan.now.property c.tracker.result.now (tracker_of c.args.self.watch) c.as_slice-2.result.now reached.states.items c.in-Err-Fault.field-0
    c.as_slice.ensures c.tracker.ensures.value c.as_slice-2.ensures.value c.in-Err-Fault.ensures.objects))

use Rattle.std.proofs.Common.{Ok, Err, ap, ◌∙◌, subst}
use Rattle.ledger_simulate.specs.Stepping.{Fails, Finishes, GoesOn, course_of}
use Rattle.ledger_simulate.proofs.Outcomes.{fewer_left}
use Rattle.ledger_simulate.proofs.Whole.{came_new, came_on, came_over, came_well}
use Rattle.ledger_simulate.proofs.plan.Plan.run_with_seed.Goals as goal

pub steps-smaller : goal.steps-smaller
steps-smaller g c =
    let p = c.in-Ok-On.ensures.on c.in-Ok-On.next (ap Ok c.in-Ok-On.field-0-is) in
    fewer_left c.in-Ok-On.next.plan.now.max_events c.steps.simulation.plan.now.max_events c.in-Ok-On.next.handled c.steps.simulation.handled (ap (λ b. b.now.max_events) p.1) p.0.handled p.0.below

pub steps-preserved : goal.steps-preserved
steps-preserved g c =
    let p = c.in-Ok-On.ensures.on c.in-Ok-On.next (ap Ok c.in-Ok-On.field-0-is) in
    record {
      plan = ap (λ b. b.now) p.1 ∙ c.steps.invariant.plan;
      came = came_on _ _ (course_of c.steps.simulation) (course_of c.in-Ok-On.next) c.steps.invariant.came (subst (λ q. GoesOn (record { engine = q.engine; peer_of = g.D.EngineDefinition.peer_of q.engine; journal = g.D.EngineDefinition.journal q.engine; reports = g.D.EngineDefinition.reports q.engine; channels = g.D.EngineDefinition.carried_on q.engine; max_size = g.D.EngineDefinition.carried_size q.engine; height = g.D.State.ProcessedHeight.height_of; shown = g.D.State.ProcessedHeight.bytes_of; participants = q.participants; crashes = q.crashes; link = q.link; checks = q.finalization_property; check_name = λ x. (goal.FinalizationProperty-dyn g (x.vtable, x.value)).finalization_name x.value; complaint = λ x. (goal.FinalizationProperty-dyn g (x.vtable, x.value)).finalization_complaint x.value; properties = q.property; property_name = λ x. (goal.Property-dyn g (x.vtable, x.value)).property_name x.value; objection = λ x. (goal.Property-dyn g (x.vtable, x.value)).property_complaint x.value; condition = q.exit_condition; condition_name = λ x. (goal.ExitCondition-dyn g (x.vtable, x.value)).exit_name x.value; polls = λ x. (goal.ExitCondition-dyn g (x.vtable, x.value)).exit_polls x.value; verdict = λ x. (goal.ExitCondition-dyn g (x.vtable, x.value)).exit_verdict x.value; required = q.required_finalizations; max_events = q.max_events; timeout = q.timeout }) (course_of c.steps.simulation) (course_of c.in-Ok-On.next)) c.steps.invariant.plan p.0);
    }

pub returns-in-Ok-Done : goal.returns-in-Ok-Done
returns-in-Ok-Done g c =
    came_well _ _ (course_of c.steps.simulation) c.in-Ok-Done.result c.steps.invariant.came (subst (λ q. Finishes (record { engine = q.engine; peer_of = g.D.EngineDefinition.peer_of q.engine; journal = g.D.EngineDefinition.journal q.engine; reports = g.D.EngineDefinition.reports q.engine; channels = g.D.EngineDefinition.carried_on q.engine; max_size = g.D.EngineDefinition.carried_size q.engine; height = g.D.State.ProcessedHeight.height_of; shown = g.D.State.ProcessedHeight.bytes_of; participants = q.participants; crashes = q.crashes; link = q.link; checks = q.finalization_property; check_name = λ x. (goal.FinalizationProperty-dyn g (x.vtable, x.value)).finalization_name x.value; complaint = λ x. (goal.FinalizationProperty-dyn g (x.vtable, x.value)).finalization_complaint x.value; properties = q.property; property_name = λ x. (goal.Property-dyn g (x.vtable, x.value)).property_name x.value; objection = λ x. (goal.Property-dyn g (x.vtable, x.value)).property_complaint x.value; condition = q.exit_condition; condition_name = λ x. (goal.ExitCondition-dyn g (x.vtable, x.value)).exit_name x.value; polls = λ x. (goal.ExitCondition-dyn g (x.vtable, x.value)).exit_polls x.value; verdict = λ x. (goal.ExitCondition-dyn g (x.vtable, x.value)).exit_verdict x.value; required = q.required_finalizations; max_events = q.max_events; timeout = q.timeout }) (course_of c.steps.simulation) c.in-Ok-Done.result) c.steps.invariant.plan (c.in-Ok-Done.ensures.done c.in-Ok-Done.result (ap Ok c.in-Ok-Done.field-0-is)))

pub returns-in-Err-step : goal.returns-in-Err-step
returns-in-Err-step g c =
    came_over _ _ (course_of c.steps.simulation) c.in-Err-step.end c.steps.invariant.came (λ e is. subst (λ q. Fails (record { engine = q.engine; peer_of = g.D.EngineDefinition.peer_of q.engine; journal = g.D.EngineDefinition.journal q.engine; reports = g.D.EngineDefinition.reports q.engine; channels = g.D.EngineDefinition.carried_on q.engine; max_size = g.D.EngineDefinition.carried_size q.engine; height = g.D.State.ProcessedHeight.height_of; shown = g.D.State.ProcessedHeight.bytes_of; participants = q.participants; crashes = q.crashes; link = q.link; checks = q.finalization_property; check_name = λ x. (goal.FinalizationProperty-dyn g (x.vtable, x.value)).finalization_name x.value; complaint = λ x. (goal.FinalizationProperty-dyn g (x.vtable, x.value)).finalization_complaint x.value; properties = q.property; property_name = λ x. (goal.Property-dyn g (x.vtable, x.value)).property_name x.value; objection = λ x. (goal.Property-dyn g (x.vtable, x.value)).property_complaint x.value; condition = q.exit_condition; condition_name = λ x. (goal.ExitCondition-dyn g (x.vtable, x.value)).exit_name x.value; polls = λ x. (goal.ExitCondition-dyn g (x.vtable, x.value)).exit_polls x.value; verdict = λ x. (goal.ExitCondition-dyn g (x.vtable, x.value)).exit_verdict x.value; required = q.required_finalizations; max_events = q.max_events; timeout = q.timeout }) (course_of c.steps.simulation) e) c.steps.invariant.plan (c.in-Err-step.ensures.fails e (ap Err is)))

pub steps-init : goal.steps-init
steps-init g c = record {
  plan = ap (λ b. b.now) c.in-Ok.ensures.plan;
  came = came_new _ c.args.seed (course_of c.in-Ok.simulation) c.in-Ok.ensures.opens;
}

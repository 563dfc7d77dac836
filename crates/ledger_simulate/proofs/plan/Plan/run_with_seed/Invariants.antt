use Rattle.std.proofs.Common.{◌≡◌, ◌-◌}
use Rattle.ledger_simulate.specs.Stepping.{course_of}
use Rattle.ledger_simulate.proofs.Whole.{Came}
use Rattle.ledger_simulate.proofs.plan.Plan.run_with_seed.Given as goal

abbrev pub invariant-steps : goal.invariant-steps
invariant-steps g l = record {
  plan : l.simulation.plan.now ≡ l.self;
  came : Came (record { engine = l.self.engine; peer_of = g.D.EngineDefinition.peer_of l.self.engine; journal = g.D.EngineDefinition.journal l.self.engine; reports = g.D.EngineDefinition.reports l.self.engine; channels = g.D.EngineDefinition.carried_on l.self.engine; max_size = g.D.EngineDefinition.carried_size l.self.engine; height = g.D.State.ProcessedHeight.height_of; shown = g.D.State.ProcessedHeight.bytes_of; participants = l.self.participants; crashes = l.self.crashes; link = l.self.link; checks = l.self.finalization_property; check_name = λ x. (goal.FinalizationProperty-dyn g (x.vtable, x.value)).finalization_name x.value; complaint = λ x. (goal.FinalizationProperty-dyn g (x.vtable, x.value)).finalization_complaint x.value; properties = l.self.property; property_name = λ x. (goal.Property-dyn g (x.vtable, x.value)).property_name x.value; objection = λ x. (goal.Property-dyn g (x.vtable, x.value)).property_complaint x.value; condition = l.self.exit_condition; condition_name = λ x. (goal.ExitCondition-dyn g (x.vtable, x.value)).exit_name x.value; polls = λ x. (goal.ExitCondition-dyn g (x.vtable, x.value)).exit_polls x.value; verdict = λ x. (goal.ExitCondition-dyn g (x.vtable, x.value)).exit_verdict x.value; required = l.self.required_finalizations; max_events = l.self.max_events; timeout = l.self.timeout }) l.seed (course_of l.simulation);
}

abbrev pub decreases-steps : goal.decreases-steps
decreases-steps g l = l.simulation.plan.now.max_events - l.simulation.handled

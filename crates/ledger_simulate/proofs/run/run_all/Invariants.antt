use Rattle.std.proofs.Common.{take}
use Rattle.ledger_simulate.specs.Stepping.{RunsAll}
use Rattle.ledger_simulate.proofs.run.run_all.Given as goal

abbrev pub invariant-loop-seed : goal.invariant-loop-seed
invariant-loop-seed g l = RunsAll (record { engine = l.plan.engine; peer_of = g.D.EngineDefinition.peer_of l.plan.engine; journal = g.D.EngineDefinition.journal l.plan.engine; reports = g.D.EngineDefinition.reports l.plan.engine; channels = g.D.EngineDefinition.carried_on l.plan.engine; max_size = g.D.EngineDefinition.carried_size l.plan.engine; height = g.D.State.ProcessedHeight.height_of; shown = g.D.State.ProcessedHeight.bytes_of; participants = l.plan.participants; crashes = l.plan.crashes; link = l.plan.link; checks = l.plan.finalization_property; check_name = λ x. (goal.FinalizationProperty-dyn g (x.vtable, x.value)).finalization_name x.value; complaint = λ x. (goal.FinalizationProperty-dyn g (x.vtable, x.value)).finalization_complaint x.value; properties = l.plan.property; property_name = λ x. (goal.Property-dyn g (x.vtable, x.value)).property_name x.value; objection = λ x. (goal.Property-dyn g (x.vtable, x.value)).property_complaint x.value; condition = l.plan.exit_condition; condition_name = λ x. (goal.ExitCondition-dyn g (x.vtable, x.value)).exit_name x.value; polls = λ x. (goal.ExitCondition-dyn g (x.vtable, x.value)).exit_polls x.value; verdict = λ x. (goal.ExitCondition-dyn g (x.vtable, x.value)).exit_verdict x.value; required = l.plan.required_finalizations; max_events = l.plan.max_events; timeout = l.plan.timeout }) (take l.seed-index l.seeds) l.results.items

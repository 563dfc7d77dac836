use Rattle.std.proofs.Common.{get_or, refl, subst}
use Rattle.ledger_simulate.specs.Stepping.{StopsAt}
use Rattle.ledger_simulate.specs.declared.simulation.SimEnd.TheVariants.{OutOfMemory}
use Rattle.ledger_simulate.proofs.Whole.{ran_more, stops_here}
use Rattle.ledger_simulate.proofs.run.run_all.Goals as goal

pub loop-seed-preserved : goal.loop-seed-preserved
loop-seed-preserved g c =
    ran_more _ c.args.seeds.now c.loop-seed.seed-index c.loop-seed.results.items c.push.new.self.items c.in-Ok.result c.in-Ok-push.ensures.items c.loop-seed-test.true c.in-Ok.ensures c.loop-seed.invariant

pub returns-in-Err-clause-refused : goal.returns-in-Err-clause-refused
returns-in-Err-clause-refused g c =
    let at = c.loop-seed.seed-index in
    let seeds = c.args.seeds.now in
    subst (λ ns. StopsAt (record { engine = c.args.plan.now.engine; peer_of = g.D.EngineDefinition.peer_of c.args.plan.now.engine; journal = g.D.EngineDefinition.journal c.args.plan.now.engine; reports = g.D.EngineDefinition.reports c.args.plan.now.engine; channels = g.D.EngineDefinition.carried_on c.args.plan.now.engine; max_size = g.D.EngineDefinition.carried_size c.args.plan.now.engine; height = g.D.State.ProcessedHeight.height_of; shown = g.D.State.ProcessedHeight.bytes_of; participants = c.args.plan.now.participants; crashes = c.args.plan.now.crashes; link = c.args.plan.now.link; checks = c.args.plan.now.finalization_property; check_name = λ x. (goal.FinalizationProperty-dyn g (x.vtable, x.value)).finalization_name x.value; complaint = λ x. (goal.FinalizationProperty-dyn g (x.vtable, x.value)).finalization_complaint x.value; properties = c.args.plan.now.property; property_name = λ x. (goal.Property-dyn g (x.vtable, x.value)).property_name x.value; objection = λ x. (goal.Property-dyn g (x.vtable, x.value)).property_complaint x.value; condition = c.args.plan.now.exit_condition; condition_name = λ x. (goal.ExitCondition-dyn g (x.vtable, x.value)).exit_name x.value; polls = λ x. (goal.ExitCondition-dyn g (x.vtable, x.value)).exit_polls x.value; verdict = λ x. (goal.ExitCondition-dyn g (x.vtable, x.value)).exit_verdict x.value; required = c.args.plan.now.required_finalizations; max_events = c.args.plan.now.max_events; timeout = c.args.plan.now.timeout }) ns (get_or seeds at 0) c.in-Err.end) refl (stops_here _ seeds at c.loop-seed.results.items c.in-Err.end c.loop-seed-test.true c.loop-seed.invariant c.in-Err.ensures)

pub returns-in-Err-push-clause-refused : goal.returns-in-Err-push-clause-refused
returns-in-Err-push-clause-refused g c =
    let at = c.loop-seed.seed-index in
    let seeds = c.args.seeds.now in
    subst (λ ns. StopsAt (record { engine = c.args.plan.now.engine; peer_of = g.D.EngineDefinition.peer_of c.args.plan.now.engine; journal = g.D.EngineDefinition.journal c.args.plan.now.engine; reports = g.D.EngineDefinition.reports c.args.plan.now.engine; channels = g.D.EngineDefinition.carried_on c.args.plan.now.engine; max_size = g.D.EngineDefinition.carried_size c.args.plan.now.engine; height = g.D.State.ProcessedHeight.height_of; shown = g.D.State.ProcessedHeight.bytes_of; participants = c.args.plan.now.participants; crashes = c.args.plan.now.crashes; link = c.args.plan.now.link; checks = c.args.plan.now.finalization_property; check_name = λ x. (goal.FinalizationProperty-dyn g (x.vtable, x.value)).finalization_name x.value; complaint = λ x. (goal.FinalizationProperty-dyn g (x.vtable, x.value)).finalization_complaint x.value; properties = c.args.plan.now.property; property_name = λ x. (goal.Property-dyn g (x.vtable, x.value)).property_name x.value; objection = λ x. (goal.Property-dyn g (x.vtable, x.value)).property_complaint x.value; condition = c.args.plan.now.exit_condition; condition_name = λ x. (goal.ExitCondition-dyn g (x.vtable, x.value)).exit_name x.value; polls = λ x. (goal.ExitCondition-dyn g (x.vtable, x.value)).exit_polls x.value; verdict = λ x. (goal.ExitCondition-dyn g (x.vtable, x.value)).exit_verdict x.value; required = c.args.plan.now.required_finalizations; max_events = c.args.plan.now.max_events; timeout = c.args.plan.now.timeout }) ns (get_or seeds at 0) OutOfMemory) refl (stops_here _ seeds at c.loop-seed.results.items OutOfMemory c.loop-seed-test.true c.loop-seed.invariant tt)

use Rattle.std.proofs.Common.{◌∙◌, IfErr, IfOk, subst}
use Rattle.ledger_simulate.specs.Stepping.{RunsAll, StopsAt}
use Rattle.ledger_simulate.proofs.plan.PlanBuilder.run.Goals as goal

pub returns-clause-ran : goal.returns-clause-ran
returns-clause-ran g c =
    subst (λ ns. IfOk c.run_all.result (λ rs. RunsAll (record { engine = c.args.self.engine; peer_of = g.D.EngineDefinition.peer_of c.args.self.engine; journal = g.D.EngineDefinition.journal c.args.self.engine; reports = g.D.EngineDefinition.reports c.args.self.engine; channels = g.D.EngineDefinition.carried_on c.args.self.engine; max_size = g.D.EngineDefinition.carried_size c.args.self.engine; height = g.D.State.ProcessedHeight.height_of; shown = g.D.State.ProcessedHeight.bytes_of; participants = c.args.self.setting.participants; crashes = c.args.self.setting.crashes; link = c.args.self.link; checks = c.args.self.finalization_property; check_name = λ x. (goal.FinalizationProperty-dyn g (x.vtable, x.value)).finalization_name x.value; complaint = λ x. (goal.FinalizationProperty-dyn g (x.vtable, x.value)).finalization_complaint x.value; properties = c.args.self.property; property_name = λ x. (goal.Property-dyn g (x.vtable, x.value)).property_name x.value; objection = λ x. (goal.Property-dyn g (x.vtable, x.value)).property_complaint x.value; condition = c.args.self.exit_condition; condition_name = λ x. (goal.ExitCondition-dyn g (x.vtable, x.value)).exit_name x.value; polls = λ x. (goal.ExitCondition-dyn g (x.vtable, x.value)).exit_polls x.value; verdict = λ x. (goal.ExitCondition-dyn g (x.vtable, x.value)).exit_verdict x.value; required = c.args.self.required_finalizations; max_events = c.args.self.max_events; timeout = c.args.self.timeout }) ns rs.items)) (c.as_slice.ensures ∙ c.parts-seeds.ensures.seeds)
    (subst (λ q. IfOk c.run_all.result (λ rs. RunsAll (record { engine = q.engine; peer_of = g.D.EngineDefinition.peer_of q.engine; journal = g.D.EngineDefinition.journal q.engine; reports = g.D.EngineDefinition.reports q.engine; channels = g.D.EngineDefinition.carried_on q.engine; max_size = g.D.EngineDefinition.carried_size q.engine; height = g.D.State.ProcessedHeight.height_of; shown = g.D.State.ProcessedHeight.bytes_of; participants = q.participants; crashes = q.crashes; link = q.link; checks = q.finalization_property; check_name = λ x. (goal.FinalizationProperty-dyn g (x.vtable, x.value)).finalization_name x.value; complaint = λ x. (goal.FinalizationProperty-dyn g (x.vtable, x.value)).finalization_complaint x.value; properties = q.property; property_name = λ x. (goal.Property-dyn g (x.vtable, x.value)).property_name x.value; objection = λ x. (goal.Property-dyn g (x.vtable, x.value)).property_complaint x.value; condition = q.exit_condition; condition_name = λ x. (goal.ExitCondition-dyn g (x.vtable, x.value)).exit_name x.value; polls = λ x. (goal.ExitCondition-dyn g (x.vtable, x.value)).exit_polls x.value; verdict = λ x. (goal.ExitCondition-dyn g (x.vtable, x.value)).exit_verdict x.value; required = q.required_finalizations; max_events = q.max_events; timeout = q.timeout }) c.as_slice.result.now rs.items)) c.parts-seeds.ensures.plan c.run_all.ensures.ran)

pub returns-clause-refused : goal.returns-clause-refused
returns-clause-refused g c =
    subst (λ ns. IfErr c.run_all.result (λ end. StopsAt (record { engine = c.args.self.engine; peer_of = g.D.EngineDefinition.peer_of c.args.self.engine; journal = g.D.EngineDefinition.journal c.args.self.engine; reports = g.D.EngineDefinition.reports c.args.self.engine; channels = g.D.EngineDefinition.carried_on c.args.self.engine; max_size = g.D.EngineDefinition.carried_size c.args.self.engine; height = g.D.State.ProcessedHeight.height_of; shown = g.D.State.ProcessedHeight.bytes_of; participants = c.args.self.setting.participants; crashes = c.args.self.setting.crashes; link = c.args.self.link; checks = c.args.self.finalization_property; check_name = λ x. (goal.FinalizationProperty-dyn g (x.vtable, x.value)).finalization_name x.value; complaint = λ x. (goal.FinalizationProperty-dyn g (x.vtable, x.value)).finalization_complaint x.value; properties = c.args.self.property; property_name = λ x. (goal.Property-dyn g (x.vtable, x.value)).property_name x.value; objection = λ x. (goal.Property-dyn g (x.vtable, x.value)).property_complaint x.value; condition = c.args.self.exit_condition; condition_name = λ x. (goal.ExitCondition-dyn g (x.vtable, x.value)).exit_name x.value; polls = λ x. (goal.ExitCondition-dyn g (x.vtable, x.value)).exit_polls x.value; verdict = λ x. (goal.ExitCondition-dyn g (x.vtable, x.value)).exit_verdict x.value; required = c.args.self.required_finalizations; max_events = c.args.self.max_events; timeout = c.args.self.timeout }) ns end.0 end.1)) (c.as_slice.ensures ∙ c.parts-seeds.ensures.seeds)
    (subst (λ q. IfErr c.run_all.result (λ end. StopsAt (record { engine = q.engine; peer_of = g.D.EngineDefinition.peer_of q.engine; journal = g.D.EngineDefinition.journal q.engine; reports = g.D.EngineDefinition.reports q.engine; channels = g.D.EngineDefinition.carried_on q.engine; max_size = g.D.EngineDefinition.carried_size q.engine; height = g.D.State.ProcessedHeight.height_of; shown = g.D.State.ProcessedHeight.bytes_of; participants = q.participants; crashes = q.crashes; link = q.link; checks = q.finalization_property; check_name = λ x. (goal.FinalizationProperty-dyn g (x.vtable, x.value)).finalization_name x.value; complaint = λ x. (goal.FinalizationProperty-dyn g (x.vtable, x.value)).finalization_complaint x.value; properties = q.property; property_name = λ x. (goal.Property-dyn g (x.vtable, x.value)).property_name x.value; objection = λ x. (goal.Property-dyn g (x.vtable, x.value)).property_complaint x.value; condition = q.exit_condition; condition_name = λ x. (goal.ExitCondition-dyn g (x.vtable, x.value)).exit_name x.value; polls = λ x. (goal.ExitCondition-dyn g (x.vtable, x.value)).exit_polls x.value; verdict = λ x. (goal.ExitCondition-dyn g (x.vtable, x.value)).exit_verdict x.value; required = q.required_finalizations; max_events = q.max_events; timeout = q.timeout }) c.as_slice.result.now end.0 end.1)) c.parts-seeds.ensures.plan c.run_all.ensures.refused)

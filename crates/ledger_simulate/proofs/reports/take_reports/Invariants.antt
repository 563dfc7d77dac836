use Rattle.simulate_parts.specs.declared.tracker.FinalizationUpdate.{FinalizationUpdate}
use Rattle.std.proofs.Common.{List, ◌≡◌, ◌++◌, IfSome, is_some}
use Rattle.std.specs.Vec.Iter.{into_iter_items}
use Rattle.ledger_simulate.specs.Delays.{started_by}
use Rattle.ledger_simulate.specs.Handling.{ChangesEnginesAlone, TriggersFailuresEach, count_setting_off}
use Rattle.ledger_simulate.specs.Plans.{target_count}
use Rattle.ledger_simulate.specs.Reaching.{Finds, IsReached, Sound}
use Rattle.ledger_simulate.specs.Answering.{MetOn, Sees}
use Rattle.ledger_simulate.proofs.reports.take_reports.Given as goal

abbrev pub invariant-loop-update : goal.invariant-loop-update
invariant-loop-update g l = record {
  changes_alone : ChangesEnginesAlone (g.D.EngineDefinition.peer_of l.plan.engine) l.initial.agenda l.agenda l.initial.world l.world;
  since : (done : List FinalizationUpdate) × (l.watch ≡ l.initial.watch ++ done) × (done ++ into_iter_items l.update-iterator ≡ l.fn.updates.items) × (l.world.exercise.delayed_started ≡ started_by l.plan.participants l.plan.crashes l.initial.watch l.initial.world.exercise.delayed_started done l.reached) × TriggersFailuresEach (record { engine = l.plan.engine; peer_of = g.D.EngineDefinition.peer_of l.plan.engine; journal = g.D.EngineDefinition.journal l.plan.engine; reports = g.D.EngineDefinition.reports l.plan.engine; channels = g.D.EngineDefinition.carried_on l.plan.engine; max_size = g.D.EngineDefinition.carried_size l.plan.engine; height = g.D.State.ProcessedHeight.height_of; shown = g.D.State.ProcessedHeight.bytes_of; participants = l.plan.participants; crashes = l.plan.crashes; link = l.plan.link; checks = l.plan.finalization_property; check_name = λ x. (goal.FinalizationProperty-dyn g (x.vtable, x.value)).finalization_name x.value; complaint = λ x. (goal.FinalizationProperty-dyn g (x.vtable, x.value)).finalization_complaint x.value; properties = l.plan.property; property_name = λ x. (goal.Property-dyn g (x.vtable, x.value)).property_name x.value; objection = λ x. (goal.Property-dyn g (x.vtable, x.value)).property_complaint x.value; condition = l.plan.exit_condition; condition_name = λ x. (goal.ExitCondition-dyn g (x.vtable, x.value)).exit_name x.value; polls = λ x. (goal.ExitCondition-dyn g (x.vtable, x.value)).exit_polls x.value; verdict = λ x. (goal.ExitCondition-dyn g (x.vtable, x.value)).exit_verdict x.value; required = l.plan.required_finalizations; max_events = l.plan.max_events; timeout = l.plan.timeout }) (Finds (record { engine = l.plan.engine; peer_of = g.D.EngineDefinition.peer_of l.plan.engine; journal = g.D.EngineDefinition.journal l.plan.engine; reports = g.D.EngineDefinition.reports l.plan.engine; channels = g.D.EngineDefinition.carried_on l.plan.engine; max_size = g.D.EngineDefinition.carried_size l.plan.engine; height = g.D.State.ProcessedHeight.height_of; shown = g.D.State.ProcessedHeight.bytes_of; participants = l.plan.participants; crashes = l.plan.crashes; link = l.plan.link; checks = l.plan.finalization_property; check_name = λ x. (goal.FinalizationProperty-dyn g (x.vtable, x.value)).finalization_name x.value; complaint = λ x. (goal.FinalizationProperty-dyn g (x.vtable, x.value)).finalization_complaint x.value; properties = l.plan.property; property_name = λ x. (goal.Property-dyn g (x.vtable, x.value)).property_name x.value; objection = λ x. (goal.Property-dyn g (x.vtable, x.value)).property_complaint x.value; condition = l.plan.exit_condition; condition_name = λ x. (goal.ExitCondition-dyn g (x.vtable, x.value)).exit_name x.value; polls = λ x. (goal.ExitCondition-dyn g (x.vtable, x.value)).exit_polls x.value; verdict = λ x. (goal.ExitCondition-dyn g (x.vtable, x.value)).exit_verdict x.value; required = l.plan.required_finalizations; max_events = l.plan.max_events; timeout = l.plan.timeout }) l.initial.watch) l.fn.updates.items (is_some l.reached) (count_setting_off l.initial.watch done l.reached) l.initial.agenda l.agenda l.initial.world l.world;
  updates : l.watch ++ into_iter_items l.update-iterator ≡ l.initial.watch ++ l.fn.updates.items;
  reached : IfSome l.reached (λ r. IsReached (record { engine = l.plan.engine; peer_of = g.D.EngineDefinition.peer_of l.plan.engine; journal = g.D.EngineDefinition.journal l.plan.engine; reports = g.D.EngineDefinition.reports l.plan.engine; channels = g.D.EngineDefinition.carried_on l.plan.engine; max_size = g.D.EngineDefinition.carried_size l.plan.engine; height = g.D.State.ProcessedHeight.height_of; shown = g.D.State.ProcessedHeight.bytes_of; participants = l.plan.participants; crashes = l.plan.crashes; link = l.plan.link; checks = l.plan.finalization_property; check_name = λ x. (goal.FinalizationProperty-dyn g (x.vtable, x.value)).finalization_name x.value; complaint = λ x. (goal.FinalizationProperty-dyn g (x.vtable, x.value)).finalization_complaint x.value; properties = l.plan.property; property_name = λ x. (goal.Property-dyn g (x.vtable, x.value)).property_name x.value; objection = λ x. (goal.Property-dyn g (x.vtable, x.value)).property_complaint x.value; condition = l.plan.exit_condition; condition_name = λ x. (goal.ExitCondition-dyn g (x.vtable, x.value)).exit_name x.value; polls = λ x. (goal.ExitCondition-dyn g (x.vtable, x.value)).exit_polls x.value; verdict = λ x. (goal.ExitCondition-dyn g (x.vtable, x.value)).exit_verdict x.value; required = l.plan.required_finalizations; max_events = l.plan.max_events; timeout = l.plan.timeout }) (target_count l.plan.participants l.plan.crashes l.world.exercise.delayed_started) l.watch r);
  sound : IfSome l.reached (λ r. Sound (record { engine = l.plan.engine; peer_of = g.D.EngineDefinition.peer_of l.plan.engine; journal = g.D.EngineDefinition.journal l.plan.engine; reports = g.D.EngineDefinition.reports l.plan.engine; channels = g.D.EngineDefinition.carried_on l.plan.engine; max_size = g.D.EngineDefinition.carried_size l.plan.engine; height = g.D.State.ProcessedHeight.height_of; shown = g.D.State.ProcessedHeight.bytes_of; participants = l.plan.participants; crashes = l.plan.crashes; link = l.plan.link; checks = l.plan.finalization_property; check_name = λ x. (goal.FinalizationProperty-dyn g (x.vtable, x.value)).finalization_name x.value; complaint = λ x. (goal.FinalizationProperty-dyn g (x.vtable, x.value)).finalization_complaint x.value; properties = l.plan.property; property_name = λ x. (goal.Property-dyn g (x.vtable, x.value)).property_name x.value; objection = λ x. (goal.Property-dyn g (x.vtable, x.value)).property_complaint x.value; condition = l.plan.exit_condition; condition_name = λ x. (goal.ExitCondition-dyn g (x.vtable, x.value)).exit_name x.value; polls = λ x. (goal.ExitCondition-dyn g (x.vtable, x.value)).exit_polls x.value; verdict = λ x. (goal.ExitCondition-dyn g (x.vtable, x.value)).exit_verdict x.value; required = l.plan.required_finalizations; max_events = l.plan.max_events; timeout = l.plan.timeout }) l.world.seats.entries);
  seen : IfSome l.reached (MetOn (Sees (record { engine = l.plan.engine; peer_of = g.D.EngineDefinition.peer_of l.plan.engine; journal = g.D.EngineDefinition.journal l.plan.engine; reports = g.D.EngineDefinition.reports l.plan.engine; channels = g.D.EngineDefinition.carried_on l.plan.engine; max_size = g.D.EngineDefinition.carried_size l.plan.engine; height = g.D.State.ProcessedHeight.height_of; shown = g.D.State.ProcessedHeight.bytes_of; participants = l.plan.participants; crashes = l.plan.crashes; link = l.plan.link; checks = l.plan.finalization_property; check_name = λ x. (goal.FinalizationProperty-dyn g (x.vtable, x.value)).finalization_name x.value; complaint = λ x. (goal.FinalizationProperty-dyn g (x.vtable, x.value)).finalization_complaint x.value; properties = l.plan.property; property_name = λ x. (goal.Property-dyn g (x.vtable, x.value)).property_name x.value; objection = λ x. (goal.Property-dyn g (x.vtable, x.value)).property_complaint x.value; condition = l.plan.exit_condition; condition_name = λ x. (goal.ExitCondition-dyn g (x.vtable, x.value)).exit_name x.value; polls = λ x. (goal.ExitCondition-dyn g (x.vtable, x.value)).exit_polls x.value; verdict = λ x. (goal.ExitCondition-dyn g (x.vtable, x.value)).exit_verdict x.value; required = l.plan.required_finalizations; max_events = l.plan.max_events; timeout = l.plan.timeout }) (Finds (record { engine = l.plan.engine; peer_of = g.D.EngineDefinition.peer_of l.plan.engine; journal = g.D.EngineDefinition.journal l.plan.engine; reports = g.D.EngineDefinition.reports l.plan.engine; channels = g.D.EngineDefinition.carried_on l.plan.engine; max_size = g.D.EngineDefinition.carried_size l.plan.engine; height = g.D.State.ProcessedHeight.height_of; shown = g.D.State.ProcessedHeight.bytes_of; participants = l.plan.participants; crashes = l.plan.crashes; link = l.plan.link; checks = l.plan.finalization_property; check_name = λ x. (goal.FinalizationProperty-dyn g (x.vtable, x.value)).finalization_name x.value; complaint = λ x. (goal.FinalizationProperty-dyn g (x.vtable, x.value)).finalization_complaint x.value; properties = l.plan.property; property_name = λ x. (goal.Property-dyn g (x.vtable, x.value)).property_name x.value; objection = λ x. (goal.Property-dyn g (x.vtable, x.value)).property_complaint x.value; condition = l.plan.exit_condition; condition_name = λ x. (goal.ExitCondition-dyn g (x.vtable, x.value)).exit_name x.value; polls = λ x. (goal.ExitCondition-dyn g (x.vtable, x.value)).exit_polls x.value; verdict = λ x. (goal.ExitCondition-dyn g (x.vtable, x.value)).exit_verdict x.value; required = l.plan.required_finalizations; max_events = l.plan.max_events; timeout = l.plan.timeout }) l.initial.watch) l.initial.agenda l.initial.world l.fn.updates.items) l.initial.watch);
}

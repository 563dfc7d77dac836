use Rattle.std.proofs.Common.{ℕ, IfSome, is_some, [], ◌++◌, List, refl, drop, length, take, sym, ap, ◌∙◌, subst}
use Rattle.simulate_parts.specs.declared.engine.StateView.{StateView}
use Rattle.simulate_parts.specs.declared.tracker.FinalizationUpdate.{FinalizationUpdate}
use Rattle.std.proofs.lemmas.List.{append-nil}
use Rattle.ledger_simulate.specs.Delays.{started_after, started_by, started_where}
use Rattle.simulate_parts.specs.Seats.{active_views}
use Rattle.simulate_parts.specs.Tracker.{tracker_of}
use Rattle.ledger_simulate.proofs.Delaying.{some_is}
use Rattle.ledger_simulate.specs.Handling.{Handles, is_poll, polls_first, told_by, told_first}
use Rattle.ledger_simulate.specs.Plans.{target_count}
use Rattle.ledger_simulate.specs.Reaching.{ExitIs, Finds, IsReached}
use Rattle.ledger_simulate.specs.Queue.{empty_agenda}
use Rattle.ledger_simulate.proofs.Causing.{comes_since, ends_by, stop_comes, stop_since}
use Rattle.ledger_simulate.proofs.Proceeding.{goes_on, grows_by}
use Rattle.ledger_simulate.proofs.Answering.{answered_since, asks_begun, ends_of, reports_begun, sees_begun, skips_begun, stop_answered_since}
use Rattle.ledger_simulate.specs.Answering.{Asked, Asks, Ends, EndsAt, MetOn, SeesAfter, StopAnswered}
use Rattle.ledger_simulate.proofs.simulation.Simulation.advance.Goals as goal

pub returns-in-Ok-None-clause-on : goal.returns-in-Ok-None-clause-on
returns-in-Ok-None-clause-on g c = λ next e.
    let engine = c.args.self.plan.now.engine in
    let p = c.go_on.ensures.on next e in (
      goes_on (record { engine = c.args.self.plan.now.engine; peer_of = g.D.EngineDefinition.peer_of c.args.self.plan.now.engine; journal = g.D.EngineDefinition.journal c.args.self.plan.now.engine; reports = g.D.EngineDefinition.reports c.args.self.plan.now.engine; channels = g.D.EngineDefinition.carried_on c.args.self.plan.now.engine; max_size = g.D.EngineDefinition.carried_size c.args.self.plan.now.engine; height = g.D.State.ProcessedHeight.height_of; shown = g.D.State.ProcessedHeight.bytes_of; participants = c.args.self.plan.now.participants; crashes = c.args.self.plan.now.crashes; link = c.args.self.plan.now.link; checks = c.args.self.plan.now.finalization_property; check_name = λ x. (goal.FinalizationProperty-dyn g (x.vtable, x.value)).finalization_name x.value; complaint = λ x. (goal.FinalizationProperty-dyn g (x.vtable, x.value)).finalization_complaint x.value; properties = c.args.self.plan.now.property; property_name = λ x. (goal.Property-dyn g (x.vtable, x.value)).property_name x.value; objection = λ x. (goal.Property-dyn g (x.vtable, x.value)).property_complaint x.value; condition = c.args.self.plan.now.exit_condition; condition_name = λ x. (goal.ExitCondition-dyn g (x.vtable, x.value)).exit_name x.value; polls = λ x. (goal.ExitCondition-dyn g (x.vtable, x.value)).exit_polls x.value; verdict = λ x. (goal.ExitCondition-dyn g (x.vtable, x.value)).exit_verdict x.value; required = c.args.self.plan.now.required_finalizations; max_events = c.args.self.plan.now.max_events; timeout = c.args.self.plan.now.timeout }) (Finds (record { engine = c.args.self.plan.now.engine; peer_of = g.D.EngineDefinition.peer_of c.args.self.plan.now.engine; journal = g.D.EngineDefinition.journal c.args.self.plan.now.engine; reports = g.D.EngineDefinition.reports c.args.self.plan.now.engine; channels = g.D.EngineDefinition.carried_on c.args.self.plan.now.engine; max_size = g.D.EngineDefinition.carried_size c.args.self.plan.now.engine; height = g.D.State.ProcessedHeight.height_of; shown = g.D.State.ProcessedHeight.bytes_of; participants = c.args.self.plan.now.participants; crashes = c.args.self.plan.now.crashes; link = c.args.self.plan.now.link; checks = c.args.self.plan.now.finalization_property; check_name = λ x. (goal.FinalizationProperty-dyn g (x.vtable, x.value)).finalization_name x.value; complaint = λ x. (goal.FinalizationProperty-dyn g (x.vtable, x.value)).finalization_complaint x.value; properties = c.args.self.plan.now.property; property_name = λ x. (goal.Property-dyn g (x.vtable, x.value)).property_name x.value; objection = λ x. (goal.Property-dyn g (x.vtable, x.value)).property_complaint x.value; condition = c.args.self.plan.now.exit_condition; condition_name = λ x. (goal.ExitCondition-dyn g (x.vtable, x.value)).exit_name x.value; polls = λ x. (goal.ExitCondition-dyn g (x.vtable, x.value)).exit_polls x.value; verdict = λ x. (goal.ExitCondition-dyn g (x.vtable, x.value)).exit_verdict x.value; required = c.args.self.plan.now.required_finalizations; max_events = c.args.self.plan.now.max_events; timeout = c.args.self.plan.now.timeout }) c.args.self.watch) c.args.self.queue c.take.new.self next.queue c.in-Some.entry c.new-agenda.result
          c.handle-outcome.new.agenda c.args.self.watch c.handle-outcome.new.watch next.watch c.args.self.world c.handle-outcome.new.world next.world c.in-Some.ensures.taken c.in-Some.ensures.least c.in-Some.ensures.numbered p.0
          (c.new-agenda.ensures ∙ ap empty_agenda c.next.ensures) (subst (λ o. Handles (record { engine = c.args.self.plan.now.engine; peer_of = g.D.EngineDefinition.peer_of c.args.self.plan.now.engine; journal = g.D.EngineDefinition.journal c.args.self.plan.now.engine; reports = g.D.EngineDefinition.reports c.args.self.plan.now.engine; channels = g.D.EngineDefinition.carried_on c.args.self.plan.now.engine; max_size = g.D.EngineDefinition.carried_size c.args.self.plan.now.engine; height = g.D.State.ProcessedHeight.height_of; shown = g.D.State.ProcessedHeight.bytes_of; participants = c.args.self.plan.now.participants; crashes = c.args.self.plan.now.crashes; link = c.args.self.plan.now.link; checks = c.args.self.plan.now.finalization_property; check_name = λ x. (goal.FinalizationProperty-dyn g (x.vtable, x.value)).finalization_name x.value; complaint = λ x. (goal.FinalizationProperty-dyn g (x.vtable, x.value)).finalization_complaint x.value; properties = c.args.self.plan.now.property; property_name = λ x. (goal.Property-dyn g (x.vtable, x.value)).property_name x.value; objection = λ x. (goal.Property-dyn g (x.vtable, x.value)).property_complaint x.value; condition = c.args.self.plan.now.exit_condition; condition_name = λ x. (goal.ExitCondition-dyn g (x.vtable, x.value)).exit_name x.value; polls = λ x. (goal.ExitCondition-dyn g (x.vtable, x.value)).exit_polls x.value; verdict = λ x. (goal.ExitCondition-dyn g (x.vtable, x.value)).exit_verdict x.value; required = c.args.self.plan.now.required_finalizations; max_events = c.args.self.plan.now.max_events; timeout = c.args.self.plan.now.timeout }) (Finds (record { engine = c.args.self.plan.now.engine; peer_of = g.D.EngineDefinition.peer_of c.args.self.plan.now.engine; journal = g.D.EngineDefinition.journal c.args.self.plan.now.engine; reports = g.D.EngineDefinition.reports c.args.self.plan.now.engine; channels = g.D.EngineDefinition.carried_on c.args.self.plan.now.engine; max_size = g.D.EngineDefinition.carried_size c.args.self.plan.now.engine; height = g.D.State.ProcessedHeight.height_of; shown = g.D.State.ProcessedHeight.bytes_of; participants = c.args.self.plan.now.participants; crashes = c.args.self.plan.now.crashes; link = c.args.self.plan.now.link; checks = c.args.self.plan.now.finalization_property; check_name = λ x. (goal.FinalizationProperty-dyn g (x.vtable, x.value)).finalization_name x.value; complaint = λ x. (goal.FinalizationProperty-dyn g (x.vtable, x.value)).finalization_complaint x.value; properties = c.args.self.plan.now.property; property_name = λ x. (goal.Property-dyn g (x.vtable, x.value)).property_name x.value; objection = λ x. (goal.Property-dyn g (x.vtable, x.value)).property_complaint x.value; condition = c.args.self.plan.now.exit_condition; condition_name = λ x. (goal.ExitCondition-dyn g (x.vtable, x.value)).exit_name x.value; polls = λ x. (goal.ExitCondition-dyn g (x.vtable, x.value)).exit_polls x.value; verdict = λ x. (goal.ExitCondition-dyn g (x.vtable, x.value)).exit_verdict x.value; required = c.args.self.plan.now.required_finalizations; max_events = c.args.self.plan.now.max_events; timeout = c.args.self.plan.now.timeout }) c.args.self.watch) o c.in-Some.entry.0 c.in-Some.entry.1 c.new-agenda.result c.handle-outcome.new.agenda c.args.self.watch c.handle-outcome.new.watch c.args.self.world c.handle-outcome.new.world) c.in-Ok-None.field-0-is c.in-Ok-None.ensures.handled) p.1 p.2,
      p.3,
      p.4,
      p.5,
    )

pub returns-in-Ok-Some-clause-reports : goal.returns-in-Ok-Some-clause-reports
returns-in-Ok-Some-clause-reports g c = λ r e seated.
    let engine = c.args.self.plan.now.engine in
    grows_by (record { engine = c.args.self.plan.now.engine; peer_of = g.D.EngineDefinition.peer_of c.args.self.plan.now.engine; journal = g.D.EngineDefinition.journal c.args.self.plan.now.engine; reports = g.D.EngineDefinition.reports c.args.self.plan.now.engine; channels = g.D.EngineDefinition.carried_on c.args.self.plan.now.engine; max_size = g.D.EngineDefinition.carried_size c.args.self.plan.now.engine; height = g.D.State.ProcessedHeight.height_of; shown = g.D.State.ProcessedHeight.bytes_of; participants = c.args.self.plan.now.participants; crashes = c.args.self.plan.now.crashes; link = c.args.self.plan.now.link; checks = c.args.self.plan.now.finalization_property; check_name = λ x. (goal.FinalizationProperty-dyn g (x.vtable, x.value)).finalization_name x.value; complaint = λ x. (goal.FinalizationProperty-dyn g (x.vtable, x.value)).finalization_complaint x.value; properties = c.args.self.plan.now.property; property_name = λ x. (goal.Property-dyn g (x.vtable, x.value)).property_name x.value; objection = λ x. (goal.Property-dyn g (x.vtable, x.value)).property_complaint x.value; condition = c.args.self.plan.now.exit_condition; condition_name = λ x. (goal.ExitCondition-dyn g (x.vtable, x.value)).exit_name x.value; polls = λ x. (goal.ExitCondition-dyn g (x.vtable, x.value)).exit_polls x.value; verdict = λ x. (goal.ExitCondition-dyn g (x.vtable, x.value)).exit_verdict x.value; required = c.args.self.plan.now.required_finalizations; max_events = c.args.self.plan.now.max_events; timeout = c.args.self.plan.now.timeout }) (Finds (record { engine = c.args.self.plan.now.engine; peer_of = g.D.EngineDefinition.peer_of c.args.self.plan.now.engine; journal = g.D.EngineDefinition.journal c.args.self.plan.now.engine; reports = g.D.EngineDefinition.reports c.args.self.plan.now.engine; channels = g.D.EngineDefinition.carried_on c.args.self.plan.now.engine; max_size = g.D.EngineDefinition.carried_size c.args.self.plan.now.engine; height = g.D.State.ProcessedHeight.height_of; shown = g.D.State.ProcessedHeight.bytes_of; participants = c.args.self.plan.now.participants; crashes = c.args.self.plan.now.crashes; link = c.args.self.plan.now.link; checks = c.args.self.plan.now.finalization_property; check_name = λ x. (goal.FinalizationProperty-dyn g (x.vtable, x.value)).finalization_name x.value; complaint = λ x. (goal.FinalizationProperty-dyn g (x.vtable, x.value)).finalization_complaint x.value; properties = c.args.self.plan.now.property; property_name = λ x. (goal.Property-dyn g (x.vtable, x.value)).property_name x.value; objection = λ x. (goal.Property-dyn g (x.vtable, x.value)).property_complaint x.value; condition = c.args.self.plan.now.exit_condition; condition_name = λ x. (goal.ExitCondition-dyn g (x.vtable, x.value)).exit_name x.value; polls = λ x. (goal.ExitCondition-dyn g (x.vtable, x.value)).exit_polls x.value; verdict = λ x. (goal.ExitCondition-dyn g (x.vtable, x.value)).exit_verdict x.value; required = c.args.self.plan.now.required_finalizations; max_events = c.args.self.plan.now.max_events; timeout = c.args.self.plan.now.timeout }) c.args.self.watch) c.in-Ok-Some.field-0 c.args.self.queue c.take.new.self c.in-Some.entry c.new-agenda.result
    c.handle-outcome.new.agenda c.args.self.watch c.handle-outcome.new.watch r.updates c.args.self.world c.handle-outcome.new.world c.in-Some.ensures.taken (c.new-agenda.ensures ∙ ap empty_agenda c.next.ensures)
    c.in-Ok-Some.ensures.handled (c.finish.ensures.done r e).0 seated

pub returns-clause-comes : goal.returns-clause-comes
returns-clause-comes g c = λ e h.
    let engine = c.args.self.plan.now.engine in
    let start = c.new-agenda.ensures ∙ ap empty_agenda c.next.ensures in
    stop_comes _ _ _ c.args.self.watch c.in-Err.stop e.fault (ends_by c.in-Err.stop c.stopped.result _ _ _ _ e c.stopped.ensures h).0
    (stop_since _ _ _ _ c.args.self.watch c.args.self.watch [] (sym (append-nil c.args.self.watch))
    (λ m u came. reports_begun (record { engine = c.args.self.plan.now.engine; peer_of = g.D.EngineDefinition.peer_of c.args.self.plan.now.engine; journal = g.D.EngineDefinition.journal c.args.self.plan.now.engine; reports = g.D.EngineDefinition.reports c.args.self.plan.now.engine; channels = g.D.EngineDefinition.carried_on c.args.self.plan.now.engine; max_size = g.D.EngineDefinition.carried_size c.args.self.plan.now.engine; height = g.D.State.ProcessedHeight.height_of; shown = g.D.State.ProcessedHeight.bytes_of; participants = c.args.self.plan.now.participants; crashes = c.args.self.plan.now.crashes; link = c.args.self.plan.now.link; checks = c.args.self.plan.now.finalization_property; check_name = λ x. (goal.FinalizationProperty-dyn g (x.vtable, x.value)).finalization_name x.value; complaint = λ x. (goal.FinalizationProperty-dyn g (x.vtable, x.value)).finalization_complaint x.value; properties = c.args.self.plan.now.property; property_name = λ x. (goal.Property-dyn g (x.vtable, x.value)).property_name x.value; objection = λ x. (goal.Property-dyn g (x.vtable, x.value)).property_complaint x.value; condition = c.args.self.plan.now.exit_condition; condition_name = λ x. (goal.ExitCondition-dyn g (x.vtable, x.value)).exit_name x.value; polls = λ x. (goal.ExitCondition-dyn g (x.vtable, x.value)).exit_polls x.value; verdict = λ x. (goal.ExitCondition-dyn g (x.vtable, x.value)).exit_verdict x.value; required = c.args.self.plan.now.required_finalizations; max_events = c.args.self.plan.now.max_events; timeout = c.args.self.plan.now.timeout }) c.args.self.queue c.take.new.self c.in-Some.entry c.new-agenda.result c.args.self.world m u c.in-Some.ensures.taken start came)
    (λ h skips. skips_begun (record { engine = c.args.self.plan.now.engine; peer_of = g.D.EngineDefinition.peer_of c.args.self.plan.now.engine; journal = g.D.EngineDefinition.journal c.args.self.plan.now.engine; reports = g.D.EngineDefinition.reports c.args.self.plan.now.engine; channels = g.D.EngineDefinition.carried_on c.args.self.plan.now.engine; max_size = g.D.EngineDefinition.carried_size c.args.self.plan.now.engine; height = g.D.State.ProcessedHeight.height_of; shown = g.D.State.ProcessedHeight.bytes_of; participants = c.args.self.plan.now.participants; crashes = c.args.self.plan.now.crashes; link = c.args.self.plan.now.link; checks = c.args.self.plan.now.finalization_property; check_name = λ x. (goal.FinalizationProperty-dyn g (x.vtable, x.value)).finalization_name x.value; complaint = λ x. (goal.FinalizationProperty-dyn g (x.vtable, x.value)).finalization_complaint x.value; properties = c.args.self.plan.now.property; property_name = λ x. (goal.Property-dyn g (x.vtable, x.value)).property_name x.value; objection = λ x. (goal.Property-dyn g (x.vtable, x.value)).property_complaint x.value; condition = c.args.self.plan.now.exit_condition; condition_name = λ x. (goal.ExitCondition-dyn g (x.vtable, x.value)).exit_name x.value; polls = λ x. (goal.ExitCondition-dyn g (x.vtable, x.value)).exit_polls x.value; verdict = λ x. (goal.ExitCondition-dyn g (x.vtable, x.value)).exit_verdict x.value; required = c.args.self.plan.now.required_finalizations; max_events = c.args.self.plan.now.max_events; timeout = c.args.self.plan.now.timeout }) (Finds (record { engine = c.args.self.plan.now.engine; peer_of = g.D.EngineDefinition.peer_of c.args.self.plan.now.engine; journal = g.D.EngineDefinition.journal c.args.self.plan.now.engine; reports = g.D.EngineDefinition.reports c.args.self.plan.now.engine; channels = g.D.EngineDefinition.carried_on c.args.self.plan.now.engine; max_size = g.D.EngineDefinition.carried_size c.args.self.plan.now.engine; height = g.D.State.ProcessedHeight.height_of; shown = g.D.State.ProcessedHeight.bytes_of; participants = c.args.self.plan.now.participants; crashes = c.args.self.plan.now.crashes; link = c.args.self.plan.now.link; checks = c.args.self.plan.now.finalization_property; check_name = λ x. (goal.FinalizationProperty-dyn g (x.vtable, x.value)).finalization_name x.value; complaint = λ x. (goal.FinalizationProperty-dyn g (x.vtable, x.value)).finalization_complaint x.value; properties = c.args.self.plan.now.property; property_name = λ x. (goal.Property-dyn g (x.vtable, x.value)).property_name x.value; objection = λ x. (goal.Property-dyn g (x.vtable, x.value)).property_complaint x.value; condition = c.args.self.plan.now.exit_condition; condition_name = λ x. (goal.ExitCondition-dyn g (x.vtable, x.value)).exit_name x.value; polls = λ x. (goal.ExitCondition-dyn g (x.vtable, x.value)).exit_polls x.value; verdict = λ x. (goal.ExitCondition-dyn g (x.vtable, x.value)).exit_verdict x.value; required = c.args.self.plan.now.required_finalizations; max_events = c.args.self.plan.now.max_events; timeout = c.args.self.plan.now.timeout }) c.args.self.watch) c.args.self.queue c.take.new.self c.in-Some.entry c.new-agenda.result c.args.self.world h c.in-Some.ensures.taken start skips)
    c.in-Err.stop c.in-Err.ensures.comes)

pub returns-in-Ok-Some-clause-comes : goal.returns-in-Ok-Some-clause-comes
returns-in-Ok-Some-clause-comes g c = λ e h.
    let grown = c.in-Ok-Some.ensures.updates in
    comes_since (λ m u. ⊥) _ (λ h. ⊥) _ _ _ c.args.self.watch c.handle-outcome.new.watch grown.added grown.is (λ m u never. absurd never) (λ h never. absurd never)
    (λ i missed. (
      grown.added ++ [],
      c.in-Ok-Some.reached.states.items,
      (ends_of (record { engine = c.args.self.plan.now.engine; peer_of = g.D.EngineDefinition.peer_of c.args.self.plan.now.engine; journal = g.D.EngineDefinition.journal c.args.self.plan.now.engine; reports = g.D.EngineDefinition.reports c.args.self.plan.now.engine; channels = g.D.EngineDefinition.carried_on c.args.self.plan.now.engine; max_size = g.D.EngineDefinition.carried_size c.args.self.plan.now.engine; height = g.D.State.ProcessedHeight.height_of; shown = g.D.State.ProcessedHeight.bytes_of; participants = c.args.self.plan.now.participants; crashes = c.args.self.plan.now.crashes; link = c.args.self.plan.now.link; checks = c.args.self.plan.now.finalization_property; check_name = λ x. (goal.FinalizationProperty-dyn g (x.vtable, x.value)).finalization_name x.value; complaint = λ x. (goal.FinalizationProperty-dyn g (x.vtable, x.value)).finalization_complaint x.value; properties = c.args.self.plan.now.property; property_name = λ x. (goal.Property-dyn g (x.vtable, x.value)).property_name x.value; objection = λ x. (goal.Property-dyn g (x.vtable, x.value)).property_complaint x.value; condition = c.args.self.plan.now.exit_condition; condition_name = λ x. (goal.ExitCondition-dyn g (x.vtable, x.value)).exit_name x.value; polls = λ x. (goal.ExitCondition-dyn g (x.vtable, x.value)).exit_polls x.value; verdict = λ x. (goal.ExitCondition-dyn g (x.vtable, x.value)).exit_verdict x.value; required = c.args.self.plan.now.required_finalizations; max_events = c.args.self.plan.now.max_events; timeout = c.args.self.plan.now.timeout }) (Finds (record { engine = c.args.self.plan.now.engine; peer_of = g.D.EngineDefinition.peer_of c.args.self.plan.now.engine; journal = g.D.EngineDefinition.journal c.args.self.plan.now.engine; reports = g.D.EngineDefinition.reports c.args.self.plan.now.engine; channels = g.D.EngineDefinition.carried_on c.args.self.plan.now.engine; max_size = g.D.EngineDefinition.carried_size c.args.self.plan.now.engine; height = g.D.State.ProcessedHeight.height_of; shown = g.D.State.ProcessedHeight.bytes_of; participants = c.args.self.plan.now.participants; crashes = c.args.self.plan.now.crashes; link = c.args.self.plan.now.link; checks = c.args.self.plan.now.finalization_property; check_name = λ x. (goal.FinalizationProperty-dyn g (x.vtable, x.value)).finalization_name x.value; complaint = λ x. (goal.FinalizationProperty-dyn g (x.vtable, x.value)).finalization_complaint x.value; properties = c.args.self.plan.now.property; property_name = λ x. (goal.Property-dyn g (x.vtable, x.value)).property_name x.value; objection = λ x. (goal.Property-dyn g (x.vtable, x.value)).property_complaint x.value; condition = c.args.self.plan.now.exit_condition; condition_name = λ x. (goal.ExitCondition-dyn g (x.vtable, x.value)).exit_name x.value; polls = λ x. (goal.ExitCondition-dyn g (x.vtable, x.value)).exit_polls x.value; verdict = λ x. (goal.ExitCondition-dyn g (x.vtable, x.value)).exit_verdict x.value; required = c.args.self.plan.now.required_finalizations; max_events = c.args.self.plan.now.max_events; timeout = c.args.self.plan.now.timeout }) c.args.self.watch) c.args.self.queue c.take.new.self c.in-Some.entry c.new-agenda.result c.handle-outcome.new.agenda
          c.args.self.watch c.handle-outcome.new.watch grown.added [] c.args.self.world c.handle-outcome.new.world c.in-Ok-Some.reached.states.items c.in-Ok-Some.reached c.in-Some.ensures.taken (c.new-agenda.ensures ∙ ap empty_agenda c.next.ensures)
          (subst (λ o. Handles (record { engine = c.args.self.plan.now.engine; peer_of = g.D.EngineDefinition.peer_of c.args.self.plan.now.engine; journal = g.D.EngineDefinition.journal c.args.self.plan.now.engine; reports = g.D.EngineDefinition.reports c.args.self.plan.now.engine; channels = g.D.EngineDefinition.carried_on c.args.self.plan.now.engine; max_size = g.D.EngineDefinition.carried_size c.args.self.plan.now.engine; height = g.D.State.ProcessedHeight.height_of; shown = g.D.State.ProcessedHeight.bytes_of; participants = c.args.self.plan.now.participants; crashes = c.args.self.plan.now.crashes; link = c.args.self.plan.now.link; checks = c.args.self.plan.now.finalization_property; check_name = λ x. (goal.FinalizationProperty-dyn g (x.vtable, x.value)).finalization_name x.value; complaint = λ x. (goal.FinalizationProperty-dyn g (x.vtable, x.value)).finalization_complaint x.value; properties = c.args.self.plan.now.property; property_name = λ x. (goal.Property-dyn g (x.vtable, x.value)).property_name x.value; objection = λ x. (goal.Property-dyn g (x.vtable, x.value)).property_complaint x.value; condition = c.args.self.plan.now.exit_condition; condition_name = λ x. (goal.ExitCondition-dyn g (x.vtable, x.value)).exit_name x.value; polls = λ x. (goal.ExitCondition-dyn g (x.vtable, x.value)).exit_polls x.value; verdict = λ x. (goal.ExitCondition-dyn g (x.vtable, x.value)).exit_verdict x.value; required = c.args.self.plan.now.required_finalizations; max_events = c.args.self.plan.now.max_events; timeout = c.args.self.plan.now.timeout }) (Finds (record { engine = c.args.self.plan.now.engine; peer_of = g.D.EngineDefinition.peer_of c.args.self.plan.now.engine; journal = g.D.EngineDefinition.journal c.args.self.plan.now.engine; reports = g.D.EngineDefinition.reports c.args.self.plan.now.engine; channels = g.D.EngineDefinition.carried_on c.args.self.plan.now.engine; max_size = g.D.EngineDefinition.carried_size c.args.self.plan.now.engine; height = g.D.State.ProcessedHeight.height_of; shown = g.D.State.ProcessedHeight.bytes_of; participants = c.args.self.plan.now.participants; crashes = c.args.self.plan.now.crashes; link = c.args.self.plan.now.link; checks = c.args.self.plan.now.finalization_property; check_name = λ x. (goal.FinalizationProperty-dyn g (x.vtable, x.value)).finalization_name x.value; complaint = λ x. (goal.FinalizationProperty-dyn g (x.vtable, x.value)).finalization_complaint x.value; properties = c.args.self.plan.now.property; property_name = λ x. (goal.Property-dyn g (x.vtable, x.value)).property_name x.value; objection = λ x. (goal.Property-dyn g (x.vtable, x.value)).property_complaint x.value; condition = c.args.self.plan.now.exit_condition; condition_name = λ x. (goal.ExitCondition-dyn g (x.vtable, x.value)).exit_name x.value; polls = λ x. (goal.ExitCondition-dyn g (x.vtable, x.value)).exit_polls x.value; verdict = λ x. (goal.ExitCondition-dyn g (x.vtable, x.value)).exit_verdict x.value; required = c.args.self.plan.now.required_finalizations; max_events = c.args.self.plan.now.max_events; timeout = c.args.self.plan.now.timeout }) c.args.self.watch) o c.in-Some.entry.0 c.in-Some.entry.1 c.new-agenda.result c.handle-outcome.new.agenda c.args.self.watch c.handle-outcome.new.watch c.args.self.world c.handle-outcome.new.world) c.in-Ok-Some.field-0-is c.in-Ok-Some.ensures.handled)
          (some_is (λ r. IsReached (record { engine = c.args.self.plan.now.engine; peer_of = g.D.EngineDefinition.peer_of c.args.self.plan.now.engine; journal = g.D.EngineDefinition.journal c.args.self.plan.now.engine; reports = g.D.EngineDefinition.reports c.args.self.plan.now.engine; channels = g.D.EngineDefinition.carried_on c.args.self.plan.now.engine; max_size = g.D.EngineDefinition.carried_size c.args.self.plan.now.engine; height = g.D.State.ProcessedHeight.height_of; shown = g.D.State.ProcessedHeight.bytes_of; participants = c.args.self.plan.now.participants; crashes = c.args.self.plan.now.crashes; link = c.args.self.plan.now.link; checks = c.args.self.plan.now.finalization_property; check_name = λ x. (goal.FinalizationProperty-dyn g (x.vtable, x.value)).finalization_name x.value; complaint = λ x. (goal.FinalizationProperty-dyn g (x.vtable, x.value)).finalization_complaint x.value; properties = c.args.self.plan.now.property; property_name = λ x. (goal.Property-dyn g (x.vtable, x.value)).property_name x.value; objection = λ x. (goal.Property-dyn g (x.vtable, x.value)).property_complaint x.value; condition = c.args.self.plan.now.exit_condition; condition_name = λ x. (goal.ExitCondition-dyn g (x.vtable, x.value)).exit_name x.value; polls = λ x. (goal.ExitCondition-dyn g (x.vtable, x.value)).exit_polls x.value; verdict = λ x. (goal.ExitCondition-dyn g (x.vtable, x.value)).exit_verdict x.value; required = c.args.self.plan.now.required_finalizations; max_events = c.args.self.plan.now.max_events; timeout = c.args.self.plan.now.timeout }) (target_count c.args.self.plan.now.participants c.args.self.plan.now.crashes c.handle-outcome.new.world.exercise.delayed_started) c.handle-outcome.new.watch r) c.in-Ok-Some.field-0 c.in-Ok-Some.reached c.in-Ok-Some.field-0-is c.in-Ok-Some.ensures.reached)
          (c.in-Ok-Some.ensures.started
          ∙ ap (started_by c.args.self.plan.now.participants c.args.self.plan.now.crashes c.args.self.watch c.args.self.world.exercise.delayed_started (drop (length c.args.self.watch) c.handle-outcome.new.watch)) c.in-Ok-Some.field-0-is)
          (subst (λ o. IfSome o (MetOn (Asked (record { engine = c.args.self.plan.now.engine; peer_of = g.D.EngineDefinition.peer_of c.args.self.plan.now.engine; journal = g.D.EngineDefinition.journal c.args.self.plan.now.engine; reports = g.D.EngineDefinition.reports c.args.self.plan.now.engine; channels = g.D.EngineDefinition.carried_on c.args.self.plan.now.engine; max_size = g.D.EngineDefinition.carried_size c.args.self.plan.now.engine; height = g.D.State.ProcessedHeight.height_of; shown = g.D.State.ProcessedHeight.bytes_of; participants = c.args.self.plan.now.participants; crashes = c.args.self.plan.now.crashes; link = c.args.self.plan.now.link; checks = c.args.self.plan.now.finalization_property; check_name = λ x. (goal.FinalizationProperty-dyn g (x.vtable, x.value)).finalization_name x.value; complaint = λ x. (goal.FinalizationProperty-dyn g (x.vtable, x.value)).finalization_complaint x.value; properties = c.args.self.plan.now.property; property_name = λ x. (goal.Property-dyn g (x.vtable, x.value)).property_name x.value; objection = λ x. (goal.Property-dyn g (x.vtable, x.value)).property_complaint x.value; condition = c.args.self.plan.now.exit_condition; condition_name = λ x. (goal.ExitCondition-dyn g (x.vtable, x.value)).exit_name x.value; polls = λ x. (goal.ExitCondition-dyn g (x.vtable, x.value)).exit_polls x.value; verdict = λ x. (goal.ExitCondition-dyn g (x.vtable, x.value)).exit_verdict x.value; required = c.args.self.plan.now.required_finalizations; max_events = c.args.self.plan.now.max_events; timeout = c.args.self.plan.now.timeout }) (Finds (record { engine = c.args.self.plan.now.engine; peer_of = g.D.EngineDefinition.peer_of c.args.self.plan.now.engine; journal = g.D.EngineDefinition.journal c.args.self.plan.now.engine; reports = g.D.EngineDefinition.reports c.args.self.plan.now.engine; channels = g.D.EngineDefinition.carried_on c.args.self.plan.now.engine; max_size = g.D.EngineDefinition.carried_size c.args.self.plan.now.engine; height = g.D.State.ProcessedHeight.height_of; shown = g.D.State.ProcessedHeight.bytes_of; participants = c.args.self.plan.now.participants; crashes = c.args.self.plan.now.crashes; link = c.args.self.plan.now.link; checks = c.args.self.plan.now.finalization_property; check_name = λ x. (goal.FinalizationProperty-dyn g (x.vtable, x.value)).finalization_name x.value; complaint = λ x. (goal.FinalizationProperty-dyn g (x.vtable, x.value)).finalization_complaint x.value; properties = c.args.self.plan.now.property; property_name = λ x. (goal.Property-dyn g (x.vtable, x.value)).property_name x.value; objection = λ x. (goal.Property-dyn g (x.vtable, x.value)).property_complaint x.value; condition = c.args.self.plan.now.exit_condition; condition_name = λ x. (goal.ExitCondition-dyn g (x.vtable, x.value)).exit_name x.value; polls = λ x. (goal.ExitCondition-dyn g (x.vtable, x.value)).exit_polls x.value; verdict = λ x. (goal.ExitCondition-dyn g (x.vtable, x.value)).exit_verdict x.value; required = c.args.self.plan.now.required_finalizations; max_events = c.args.self.plan.now.max_events; timeout = c.args.self.plan.now.timeout }) c.args.self.watch) (told_by c.in-Some.entry.0 c.in-Some.entry.1) (is_poll c.in-Some.entry.1) c.new-agenda.result c.args.self.world) c.args.self.watch)) c.in-Ok-Some.field-0-is c.in-Ok-Some.ensures.seen)
          grown.is (refl, refl)),
      missed,
    ))
    e.fault (c.finish.ensures.comes e h)

pub returns-in-Ok-Some-clause-answered : goal.returns-in-Ok-Some-clause-answered
returns-in-Ok-Some-clause-answered g c = λ e h.
    let grown = c.in-Ok-Some.ensures.updates in
    answered_since (record { engine = c.args.self.plan.now.engine; peer_of = g.D.EngineDefinition.peer_of c.args.self.plan.now.engine; journal = g.D.EngineDefinition.journal c.args.self.plan.now.engine; reports = g.D.EngineDefinition.reports c.args.self.plan.now.engine; channels = g.D.EngineDefinition.carried_on c.args.self.plan.now.engine; max_size = g.D.EngineDefinition.carried_size c.args.self.plan.now.engine; height = g.D.State.ProcessedHeight.height_of; shown = g.D.State.ProcessedHeight.bytes_of; participants = c.args.self.plan.now.participants; crashes = c.args.self.plan.now.crashes; link = c.args.self.plan.now.link; checks = c.args.self.plan.now.finalization_property; check_name = λ x. (goal.FinalizationProperty-dyn g (x.vtable, x.value)).finalization_name x.value; complaint = λ x. (goal.FinalizationProperty-dyn g (x.vtable, x.value)).finalization_complaint x.value; properties = c.args.self.plan.now.property; property_name = λ x. (goal.Property-dyn g (x.vtable, x.value)).property_name x.value; objection = λ x. (goal.Property-dyn g (x.vtable, x.value)).property_complaint x.value; condition = c.args.self.plan.now.exit_condition; condition_name = λ x. (goal.ExitCondition-dyn g (x.vtable, x.value)).exit_name x.value; polls = λ x. (goal.ExitCondition-dyn g (x.vtable, x.value)).exit_polls x.value; verdict = λ x. (goal.ExitCondition-dyn g (x.vtable, x.value)).exit_verdict x.value; required = c.args.self.plan.now.required_finalizations; max_events = c.args.self.plan.now.max_events; timeout = c.args.self.plan.now.timeout }) (λ m v. ⊥) (λ m v n. ⊥) (EndsAt _) (SeesAfter (record { engine = c.args.self.plan.now.engine; peer_of = g.D.EngineDefinition.peer_of c.args.self.plan.now.engine; journal = g.D.EngineDefinition.journal c.args.self.plan.now.engine; reports = g.D.EngineDefinition.reports c.args.self.plan.now.engine; channels = g.D.EngineDefinition.carried_on c.args.self.plan.now.engine; max_size = g.D.EngineDefinition.carried_size c.args.self.plan.now.engine; height = g.D.State.ProcessedHeight.height_of; shown = g.D.State.ProcessedHeight.bytes_of; participants = c.args.self.plan.now.participants; crashes = c.args.self.plan.now.crashes; link = c.args.self.plan.now.link; checks = c.args.self.plan.now.finalization_property; check_name = λ x. (goal.FinalizationProperty-dyn g (x.vtable, x.value)).finalization_name x.value; complaint = λ x. (goal.FinalizationProperty-dyn g (x.vtable, x.value)).finalization_complaint x.value; properties = c.args.self.plan.now.property; property_name = λ x. (goal.Property-dyn g (x.vtable, x.value)).property_name x.value; objection = λ x. (goal.Property-dyn g (x.vtable, x.value)).property_complaint x.value; condition = c.args.self.plan.now.exit_condition; condition_name = λ x. (goal.ExitCondition-dyn g (x.vtable, x.value)).exit_name x.value; polls = λ x. (goal.ExitCondition-dyn g (x.vtable, x.value)).exit_polls x.value; verdict = λ x. (goal.ExitCondition-dyn g (x.vtable, x.value)).exit_verdict x.value; required = c.args.self.plan.now.required_finalizations; max_events = c.args.self.plan.now.max_events; timeout = c.args.self.plan.now.timeout }) (Finds (record { engine = c.args.self.plan.now.engine; peer_of = g.D.EngineDefinition.peer_of c.args.self.plan.now.engine; journal = g.D.EngineDefinition.journal c.args.self.plan.now.engine; reports = g.D.EngineDefinition.reports c.args.self.plan.now.engine; channels = g.D.EngineDefinition.carried_on c.args.self.plan.now.engine; max_size = g.D.EngineDefinition.carried_size c.args.self.plan.now.engine; height = g.D.State.ProcessedHeight.height_of; shown = g.D.State.ProcessedHeight.bytes_of; participants = c.args.self.plan.now.participants; crashes = c.args.self.plan.now.crashes; link = c.args.self.plan.now.link; checks = c.args.self.plan.now.finalization_property; check_name = λ x. (goal.FinalizationProperty-dyn g (x.vtable, x.value)).finalization_name x.value; complaint = λ x. (goal.FinalizationProperty-dyn g (x.vtable, x.value)).finalization_complaint x.value; properties = c.args.self.plan.now.property; property_name = λ x. (goal.Property-dyn g (x.vtable, x.value)).property_name x.value; objection = λ x. (goal.Property-dyn g (x.vtable, x.value)).property_complaint x.value; condition = c.args.self.plan.now.exit_condition; condition_name = λ x. (goal.ExitCondition-dyn g (x.vtable, x.value)).exit_name x.value; polls = λ x. (goal.ExitCondition-dyn g (x.vtable, x.value)).exit_polls x.value; verdict = λ x. (goal.ExitCondition-dyn g (x.vtable, x.value)).exit_verdict x.value; required = c.args.self.plan.now.required_finalizations; max_events = c.args.self.plan.now.max_events; timeout = c.args.self.plan.now.timeout }) c.args.self.watch) (told_first c.args.self.queue) (empty_agenda c.args.self.queue.next) c.args.self.world) (Asks (record { engine = c.args.self.plan.now.engine; peer_of = g.D.EngineDefinition.peer_of c.args.self.plan.now.engine; journal = g.D.EngineDefinition.journal c.args.self.plan.now.engine; reports = g.D.EngineDefinition.reports c.args.self.plan.now.engine; channels = g.D.EngineDefinition.carried_on c.args.self.plan.now.engine; max_size = g.D.EngineDefinition.carried_size c.args.self.plan.now.engine; height = g.D.State.ProcessedHeight.height_of; shown = g.D.State.ProcessedHeight.bytes_of; participants = c.args.self.plan.now.participants; crashes = c.args.self.plan.now.crashes; link = c.args.self.plan.now.link; checks = c.args.self.plan.now.finalization_property; check_name = λ x. (goal.FinalizationProperty-dyn g (x.vtable, x.value)).finalization_name x.value; complaint = λ x. (goal.FinalizationProperty-dyn g (x.vtable, x.value)).finalization_complaint x.value; properties = c.args.self.plan.now.property; property_name = λ x. (goal.Property-dyn g (x.vtable, x.value)).property_name x.value; objection = λ x. (goal.Property-dyn g (x.vtable, x.value)).property_complaint x.value; condition = c.args.self.plan.now.exit_condition; condition_name = λ x. (goal.ExitCondition-dyn g (x.vtable, x.value)).exit_name x.value; polls = λ x. (goal.ExitCondition-dyn g (x.vtable, x.value)).exit_polls x.value; verdict = λ x. (goal.ExitCondition-dyn g (x.vtable, x.value)).exit_verdict x.value; required = c.args.self.plan.now.required_finalizations; max_events = c.args.self.plan.now.max_events; timeout = c.args.self.plan.now.timeout }) (Finds (record { engine = c.args.self.plan.now.engine; peer_of = g.D.EngineDefinition.peer_of c.args.self.plan.now.engine; journal = g.D.EngineDefinition.journal c.args.self.plan.now.engine; reports = g.D.EngineDefinition.reports c.args.self.plan.now.engine; channels = g.D.EngineDefinition.carried_on c.args.self.plan.now.engine; max_size = g.D.EngineDefinition.carried_size c.args.self.plan.now.engine; height = g.D.State.ProcessedHeight.height_of; shown = g.D.State.ProcessedHeight.bytes_of; participants = c.args.self.plan.now.participants; crashes = c.args.self.plan.now.crashes; link = c.args.self.plan.now.link; checks = c.args.self.plan.now.finalization_property; check_name = λ x. (goal.FinalizationProperty-dyn g (x.vtable, x.value)).finalization_name x.value; complaint = λ x. (goal.FinalizationProperty-dyn g (x.vtable, x.value)).finalization_complaint x.value; properties = c.args.self.plan.now.property; property_name = λ x. (goal.Property-dyn g (x.vtable, x.value)).property_name x.value; objection = λ x. (goal.Property-dyn g (x.vtable, x.value)).property_complaint x.value; condition = c.args.self.plan.now.exit_condition; condition_name = λ x. (goal.ExitCondition-dyn g (x.vtable, x.value)).exit_name x.value; polls = λ x. (goal.ExitCondition-dyn g (x.vtable, x.value)).exit_polls x.value; verdict = λ x. (goal.ExitCondition-dyn g (x.vtable, x.value)).exit_verdict x.value; required = c.args.self.plan.now.required_finalizations; max_events = c.args.self.plan.now.max_events; timeout = c.args.self.plan.now.timeout }) c.args.self.watch) (told_first c.args.self.queue) (polls_first c.args.self.queue) c.args.self.watch (empty_agenda c.args.self.queue.next) c.args.self.world) (Ends (record { engine = c.args.self.plan.now.engine; peer_of = g.D.EngineDefinition.peer_of c.args.self.plan.now.engine; journal = g.D.EngineDefinition.journal c.args.self.plan.now.engine; reports = g.D.EngineDefinition.reports c.args.self.plan.now.engine; channels = g.D.EngineDefinition.carried_on c.args.self.plan.now.engine; max_size = g.D.EngineDefinition.carried_size c.args.self.plan.now.engine; height = g.D.State.ProcessedHeight.height_of; shown = g.D.State.ProcessedHeight.bytes_of; participants = c.args.self.plan.now.participants; crashes = c.args.self.plan.now.crashes; link = c.args.self.plan.now.link; checks = c.args.self.plan.now.finalization_property; check_name = λ x. (goal.FinalizationProperty-dyn g (x.vtable, x.value)).finalization_name x.value; complaint = λ x. (goal.FinalizationProperty-dyn g (x.vtable, x.value)).finalization_complaint x.value; properties = c.args.self.plan.now.property; property_name = λ x. (goal.Property-dyn g (x.vtable, x.value)).property_name x.value; objection = λ x. (goal.Property-dyn g (x.vtable, x.value)).property_complaint x.value; condition = c.args.self.plan.now.exit_condition; condition_name = λ x. (goal.ExitCondition-dyn g (x.vtable, x.value)).exit_name x.value; polls = λ x. (goal.ExitCondition-dyn g (x.vtable, x.value)).exit_polls x.value; verdict = λ x. (goal.ExitCondition-dyn g (x.vtable, x.value)).exit_verdict x.value; required = c.args.self.plan.now.required_finalizations; max_events = c.args.self.plan.now.max_events; timeout = c.args.self.plan.now.timeout }) (Finds (record { engine = c.args.self.plan.now.engine; peer_of = g.D.EngineDefinition.peer_of c.args.self.plan.now.engine; journal = g.D.EngineDefinition.journal c.args.self.plan.now.engine; reports = g.D.EngineDefinition.reports c.args.self.plan.now.engine; channels = g.D.EngineDefinition.carried_on c.args.self.plan.now.engine; max_size = g.D.EngineDefinition.carried_size c.args.self.plan.now.engine; height = g.D.State.ProcessedHeight.height_of; shown = g.D.State.ProcessedHeight.bytes_of; participants = c.args.self.plan.now.participants; crashes = c.args.self.plan.now.crashes; link = c.args.self.plan.now.link; checks = c.args.self.plan.now.finalization_property; check_name = λ x. (goal.FinalizationProperty-dyn g (x.vtable, x.value)).finalization_name x.value; complaint = λ x. (goal.FinalizationProperty-dyn g (x.vtable, x.value)).finalization_complaint x.value; properties = c.args.self.plan.now.property; property_name = λ x. (goal.Property-dyn g (x.vtable, x.value)).property_name x.value; objection = λ x. (goal.Property-dyn g (x.vtable, x.value)).property_complaint x.value; condition = c.args.self.plan.now.exit_condition; condition_name = λ x. (goal.ExitCondition-dyn g (x.vtable, x.value)).exit_name x.value; polls = λ x. (goal.ExitCondition-dyn g (x.vtable, x.value)).exit_polls x.value; verdict = λ x. (goal.ExitCondition-dyn g (x.vtable, x.value)).exit_verdict x.value; required = c.args.self.plan.now.required_finalizations; max_events = c.args.self.plan.now.max_events; timeout = c.args.self.plan.now.timeout }) c.args.self.watch) c.args.self.queue c.args.self.watch c.args.self.world)
    c.args.self.watch c.handle-outcome.new.watch grown.added (λ m v never. absurd never) (λ m v n never. absurd never)
    (λ m v is.
    ends_of (record { engine = c.args.self.plan.now.engine; peer_of = g.D.EngineDefinition.peer_of c.args.self.plan.now.engine; journal = g.D.EngineDefinition.journal c.args.self.plan.now.engine; reports = g.D.EngineDefinition.reports c.args.self.plan.now.engine; channels = g.D.EngineDefinition.carried_on c.args.self.plan.now.engine; max_size = g.D.EngineDefinition.carried_size c.args.self.plan.now.engine; height = g.D.State.ProcessedHeight.height_of; shown = g.D.State.ProcessedHeight.bytes_of; participants = c.args.self.plan.now.participants; crashes = c.args.self.plan.now.crashes; link = c.args.self.plan.now.link; checks = c.args.self.plan.now.finalization_property; check_name = λ x. (goal.FinalizationProperty-dyn g (x.vtable, x.value)).finalization_name x.value; complaint = λ x. (goal.FinalizationProperty-dyn g (x.vtable, x.value)).finalization_complaint x.value; properties = c.args.self.plan.now.property; property_name = λ x. (goal.Property-dyn g (x.vtable, x.value)).property_name x.value; objection = λ x. (goal.Property-dyn g (x.vtable, x.value)).property_complaint x.value; condition = c.args.self.plan.now.exit_condition; condition_name = λ x. (goal.ExitCondition-dyn g (x.vtable, x.value)).exit_name x.value; polls = λ x. (goal.ExitCondition-dyn g (x.vtable, x.value)).exit_polls x.value; verdict = λ x. (goal.ExitCondition-dyn g (x.vtable, x.value)).exit_verdict x.value; required = c.args.self.plan.now.required_finalizations; max_events = c.args.self.plan.now.max_events; timeout = c.args.self.plan.now.timeout }) (Finds (record { engine = c.args.self.plan.now.engine; peer_of = g.D.EngineDefinition.peer_of c.args.self.plan.now.engine; journal = g.D.EngineDefinition.journal c.args.self.plan.now.engine; reports = g.D.EngineDefinition.reports c.args.self.plan.now.engine; channels = g.D.EngineDefinition.carried_on c.args.self.plan.now.engine; max_size = g.D.EngineDefinition.carried_size c.args.self.plan.now.engine; height = g.D.State.ProcessedHeight.height_of; shown = g.D.State.ProcessedHeight.bytes_of; participants = c.args.self.plan.now.participants; crashes = c.args.self.plan.now.crashes; link = c.args.self.plan.now.link; checks = c.args.self.plan.now.finalization_property; check_name = λ x. (goal.FinalizationProperty-dyn g (x.vtable, x.value)).finalization_name x.value; complaint = λ x. (goal.FinalizationProperty-dyn g (x.vtable, x.value)).finalization_complaint x.value; properties = c.args.self.plan.now.property; property_name = λ x. (goal.Property-dyn g (x.vtable, x.value)).property_name x.value; objection = λ x. (goal.Property-dyn g (x.vtable, x.value)).property_complaint x.value; condition = c.args.self.plan.now.exit_condition; condition_name = λ x. (goal.ExitCondition-dyn g (x.vtable, x.value)).exit_name x.value; polls = λ x. (goal.ExitCondition-dyn g (x.vtable, x.value)).exit_polls x.value; verdict = λ x. (goal.ExitCondition-dyn g (x.vtable, x.value)).exit_verdict x.value; required = c.args.self.plan.now.required_finalizations; max_events = c.args.self.plan.now.max_events; timeout = c.args.self.plan.now.timeout }) c.args.self.watch) c.args.self.queue c.take.new.self c.in-Some.entry c.new-agenda.result c.handle-outcome.new.agenda
    c.args.self.watch c.handle-outcome.new.watch grown.added m c.args.self.world c.handle-outcome.new.world v c.in-Ok-Some.reached c.in-Some.ensures.taken (c.new-agenda.ensures ∙ ap empty_agenda c.next.ensures)
    (subst (λ o. Handles (record { engine = c.args.self.plan.now.engine; peer_of = g.D.EngineDefinition.peer_of c.args.self.plan.now.engine; journal = g.D.EngineDefinition.journal c.args.self.plan.now.engine; reports = g.D.EngineDefinition.reports c.args.self.plan.now.engine; channels = g.D.EngineDefinition.carried_on c.args.self.plan.now.engine; max_size = g.D.EngineDefinition.carried_size c.args.self.plan.now.engine; height = g.D.State.ProcessedHeight.height_of; shown = g.D.State.ProcessedHeight.bytes_of; participants = c.args.self.plan.now.participants; crashes = c.args.self.plan.now.crashes; link = c.args.self.plan.now.link; checks = c.args.self.plan.now.finalization_property; check_name = λ x. (goal.FinalizationProperty-dyn g (x.vtable, x.value)).finalization_name x.value; complaint = λ x. (goal.FinalizationProperty-dyn g (x.vtable, x.value)).finalization_complaint x.value; properties = c.args.self.plan.now.property; property_name = λ x. (goal.Property-dyn g (x.vtable, x.value)).property_name x.value; objection = λ x. (goal.Property-dyn g (x.vtable, x.value)).property_complaint x.value; condition = c.args.self.plan.now.exit_condition; condition_name = λ x. (goal.ExitCondition-dyn g (x.vtable, x.value)).exit_name x.value; polls = λ x. (goal.ExitCondition-dyn g (x.vtable, x.value)).exit_polls x.value; verdict = λ x. (goal.ExitCondition-dyn g (x.vtable, x.value)).exit_verdict x.value; required = c.args.self.plan.now.required_finalizations; max_events = c.args.self.plan.now.max_events; timeout = c.args.self.plan.now.timeout }) (Finds (record { engine = c.args.self.plan.now.engine; peer_of = g.D.EngineDefinition.peer_of c.args.self.plan.now.engine; journal = g.D.EngineDefinition.journal c.args.self.plan.now.engine; reports = g.D.EngineDefinition.reports c.args.self.plan.now.engine; channels = g.D.EngineDefinition.carried_on c.args.self.plan.now.engine; max_size = g.D.EngineDefinition.carried_size c.args.self.plan.now.engine; height = g.D.State.ProcessedHeight.height_of; shown = g.D.State.ProcessedHeight.bytes_of; participants = c.args.self.plan.now.participants; crashes = c.args.self.plan.now.crashes; link = c.args.self.plan.now.link; checks = c.args.self.plan.now.finalization_property; check_name = λ x. (goal.FinalizationProperty-dyn g (x.vtable, x.value)).finalization_name x.value; complaint = λ x. (goal.FinalizationProperty-dyn g (x.vtable, x.value)).finalization_complaint x.value; properties = c.args.self.plan.now.property; property_name = λ x. (goal.Property-dyn g (x.vtable, x.value)).property_name x.value; objection = λ x. (goal.Property-dyn g (x.vtable, x.value)).property_complaint x.value; condition = c.args.self.plan.now.exit_condition; condition_name = λ x. (goal.ExitCondition-dyn g (x.vtable, x.value)).exit_name x.value; polls = λ x. (goal.ExitCondition-dyn g (x.vtable, x.value)).exit_polls x.value; verdict = λ x. (goal.ExitCondition-dyn g (x.vtable, x.value)).exit_verdict x.value; required = c.args.self.plan.now.required_finalizations; max_events = c.args.self.plan.now.max_events; timeout = c.args.self.plan.now.timeout }) c.args.self.watch) o c.in-Some.entry.0 c.in-Some.entry.1 c.new-agenda.result c.handle-outcome.new.agenda c.args.self.watch c.handle-outcome.new.watch c.args.self.world c.handle-outcome.new.world) c.in-Ok-Some.field-0-is c.in-Ok-Some.ensures.handled)
    (some_is (λ r. IsReached (record { engine = c.args.self.plan.now.engine; peer_of = g.D.EngineDefinition.peer_of c.args.self.plan.now.engine; journal = g.D.EngineDefinition.journal c.args.self.plan.now.engine; reports = g.D.EngineDefinition.reports c.args.self.plan.now.engine; channels = g.D.EngineDefinition.carried_on c.args.self.plan.now.engine; max_size = g.D.EngineDefinition.carried_size c.args.self.plan.now.engine; height = g.D.State.ProcessedHeight.height_of; shown = g.D.State.ProcessedHeight.bytes_of; participants = c.args.self.plan.now.participants; crashes = c.args.self.plan.now.crashes; link = c.args.self.plan.now.link; checks = c.args.self.plan.now.finalization_property; check_name = λ x. (goal.FinalizationProperty-dyn g (x.vtable, x.value)).finalization_name x.value; complaint = λ x. (goal.FinalizationProperty-dyn g (x.vtable, x.value)).finalization_complaint x.value; properties = c.args.self.plan.now.property; property_name = λ x. (goal.Property-dyn g (x.vtable, x.value)).property_name x.value; objection = λ x. (goal.Property-dyn g (x.vtable, x.value)).property_complaint x.value; condition = c.args.self.plan.now.exit_condition; condition_name = λ x. (goal.ExitCondition-dyn g (x.vtable, x.value)).exit_name x.value; polls = λ x. (goal.ExitCondition-dyn g (x.vtable, x.value)).exit_polls x.value; verdict = λ x. (goal.ExitCondition-dyn g (x.vtable, x.value)).exit_verdict x.value; required = c.args.self.plan.now.required_finalizations; max_events = c.args.self.plan.now.max_events; timeout = c.args.self.plan.now.timeout }) (target_count c.args.self.plan.now.participants c.args.self.plan.now.crashes c.handle-outcome.new.world.exercise.delayed_started) c.handle-outcome.new.watch r) c.in-Ok-Some.field-0 c.in-Ok-Some.reached c.in-Ok-Some.field-0-is c.in-Ok-Some.ensures.reached)
    (c.in-Ok-Some.ensures.started
    ∙ ap (started_by c.args.self.plan.now.participants c.args.self.plan.now.crashes c.args.self.watch c.args.self.world.exercise.delayed_started (drop (length c.args.self.watch) c.handle-outcome.new.watch)) c.in-Ok-Some.field-0-is)
    (subst (λ o. IfSome o (MetOn (Asked (record { engine = c.args.self.plan.now.engine; peer_of = g.D.EngineDefinition.peer_of c.args.self.plan.now.engine; journal = g.D.EngineDefinition.journal c.args.self.plan.now.engine; reports = g.D.EngineDefinition.reports c.args.self.plan.now.engine; channels = g.D.EngineDefinition.carried_on c.args.self.plan.now.engine; max_size = g.D.EngineDefinition.carried_size c.args.self.plan.now.engine; height = g.D.State.ProcessedHeight.height_of; shown = g.D.State.ProcessedHeight.bytes_of; participants = c.args.self.plan.now.participants; crashes = c.args.self.plan.now.crashes; link = c.args.self.plan.now.link; checks = c.args.self.plan.now.finalization_property; check_name = λ x. (goal.FinalizationProperty-dyn g (x.vtable, x.value)).finalization_name x.value; complaint = λ x. (goal.FinalizationProperty-dyn g (x.vtable, x.value)).finalization_complaint x.value; properties = c.args.self.plan.now.property; property_name = λ x. (goal.Property-dyn g (x.vtable, x.value)).property_name x.value; objection = λ x. (goal.Property-dyn g (x.vtable, x.value)).property_complaint x.value; condition = c.args.self.plan.now.exit_condition; condition_name = λ x. (goal.ExitCondition-dyn g (x.vtable, x.value)).exit_name x.value; polls = λ x. (goal.ExitCondition-dyn g (x.vtable, x.value)).exit_polls x.value; verdict = λ x. (goal.ExitCondition-dyn g (x.vtable, x.value)).exit_verdict x.value; required = c.args.self.plan.now.required_finalizations; max_events = c.args.self.plan.now.max_events; timeout = c.args.self.plan.now.timeout }) (Finds (record { engine = c.args.self.plan.now.engine; peer_of = g.D.EngineDefinition.peer_of c.args.self.plan.now.engine; journal = g.D.EngineDefinition.journal c.args.self.plan.now.engine; reports = g.D.EngineDefinition.reports c.args.self.plan.now.engine; channels = g.D.EngineDefinition.carried_on c.args.self.plan.now.engine; max_size = g.D.EngineDefinition.carried_size c.args.self.plan.now.engine; height = g.D.State.ProcessedHeight.height_of; shown = g.D.State.ProcessedHeight.bytes_of; participants = c.args.self.plan.now.participants; crashes = c.args.self.plan.now.crashes; link = c.args.self.plan.now.link; checks = c.args.self.plan.now.finalization_property; check_name = λ x. (goal.FinalizationProperty-dyn g (x.vtable, x.value)).finalization_name x.value; complaint = λ x. (goal.FinalizationProperty-dyn g (x.vtable, x.value)).finalization_complaint x.value; properties = c.args.self.plan.now.property; property_name = λ x. (goal.Property-dyn g (x.vtable, x.value)).property_name x.value; objection = λ x. (goal.Property-dyn g (x.vtable, x.value)).property_complaint x.value; condition = c.args.self.plan.now.exit_condition; condition_name = λ x. (goal.ExitCondition-dyn g (x.vtable, x.value)).exit_name x.value; polls = λ x. (goal.ExitCondition-dyn g (x.vtable, x.value)).exit_polls x.value; verdict = λ x. (goal.ExitCondition-dyn g (x.vtable, x.value)).exit_verdict x.value; required = c.args.self.plan.now.required_finalizations; max_events = c.args.self.plan.now.max_events; timeout = c.args.self.plan.now.timeout }) c.args.self.watch) (told_by c.in-Some.entry.0 c.in-Some.entry.1) (is_poll c.in-Some.entry.1) c.new-agenda.result c.args.self.world) c.args.self.watch)) c.in-Ok-Some.field-0-is c.in-Ok-Some.ensures.seen)
    grown.is (is.0, is.1 ∙ ap (λ r. r.states.items) c.in-Ok-Some.reached-is))
    grown.is e.fault (c.finish.ensures.answered e h)

pub returns-clause-answered : goal.returns-clause-answered
returns-clause-answered g c = λ e h.
    let start = c.new-agenda.ensures ∙ ap empty_agenda c.next.ensures in
    let seen : List FinalizationUpdate → List StateView → Type 0 = SeesAfter (record { engine = c.args.self.plan.now.engine; peer_of = g.D.EngineDefinition.peer_of c.args.self.plan.now.engine; journal = g.D.EngineDefinition.journal c.args.self.plan.now.engine; reports = g.D.EngineDefinition.reports c.args.self.plan.now.engine; channels = g.D.EngineDefinition.carried_on c.args.self.plan.now.engine; max_size = g.D.EngineDefinition.carried_size c.args.self.plan.now.engine; height = g.D.State.ProcessedHeight.height_of; shown = g.D.State.ProcessedHeight.bytes_of; participants = c.args.self.plan.now.participants; crashes = c.args.self.plan.now.crashes; link = c.args.self.plan.now.link; checks = c.args.self.plan.now.finalization_property; check_name = λ x. (goal.FinalizationProperty-dyn g (x.vtable, x.value)).finalization_name x.value; complaint = λ x. (goal.FinalizationProperty-dyn g (x.vtable, x.value)).finalization_complaint x.value; properties = c.args.self.plan.now.property; property_name = λ x. (goal.Property-dyn g (x.vtable, x.value)).property_name x.value; objection = λ x. (goal.Property-dyn g (x.vtable, x.value)).property_complaint x.value; condition = c.args.self.plan.now.exit_condition; condition_name = λ x. (goal.ExitCondition-dyn g (x.vtable, x.value)).exit_name x.value; polls = λ x. (goal.ExitCondition-dyn g (x.vtable, x.value)).exit_polls x.value; verdict = λ x. (goal.ExitCondition-dyn g (x.vtable, x.value)).exit_verdict x.value; required = c.args.self.plan.now.required_finalizations; max_events = c.args.self.plan.now.max_events; timeout = c.args.self.plan.now.timeout }) (Finds (record { engine = c.args.self.plan.now.engine; peer_of = g.D.EngineDefinition.peer_of c.args.self.plan.now.engine; journal = g.D.EngineDefinition.journal c.args.self.plan.now.engine; reports = g.D.EngineDefinition.reports c.args.self.plan.now.engine; channels = g.D.EngineDefinition.carried_on c.args.self.plan.now.engine; max_size = g.D.EngineDefinition.carried_size c.args.self.plan.now.engine; height = g.D.State.ProcessedHeight.height_of; shown = g.D.State.ProcessedHeight.bytes_of; participants = c.args.self.plan.now.participants; crashes = c.args.self.plan.now.crashes; link = c.args.self.plan.now.link; checks = c.args.self.plan.now.finalization_property; check_name = λ x. (goal.FinalizationProperty-dyn g (x.vtable, x.value)).finalization_name x.value; complaint = λ x. (goal.FinalizationProperty-dyn g (x.vtable, x.value)).finalization_complaint x.value; properties = c.args.self.plan.now.property; property_name = λ x. (goal.Property-dyn g (x.vtable, x.value)).property_name x.value; objection = λ x. (goal.Property-dyn g (x.vtable, x.value)).property_complaint x.value; condition = c.args.self.plan.now.exit_condition; condition_name = λ x. (goal.ExitCondition-dyn g (x.vtable, x.value)).exit_name x.value; polls = λ x. (goal.ExitCondition-dyn g (x.vtable, x.value)).exit_polls x.value; verdict = λ x. (goal.ExitCondition-dyn g (x.vtable, x.value)).exit_verdict x.value; required = c.args.self.plan.now.required_finalizations; max_events = c.args.self.plan.now.max_events; timeout = c.args.self.plan.now.timeout }) c.args.self.watch) (told_first c.args.self.queue) (empty_agenda c.args.self.queue.next) c.args.self.world in
    let asked : List FinalizationUpdate → List StateView → ℕ → Type 0 = Asks (record { engine = c.args.self.plan.now.engine; peer_of = g.D.EngineDefinition.peer_of c.args.self.plan.now.engine; journal = g.D.EngineDefinition.journal c.args.self.plan.now.engine; reports = g.D.EngineDefinition.reports c.args.self.plan.now.engine; channels = g.D.EngineDefinition.carried_on c.args.self.plan.now.engine; max_size = g.D.EngineDefinition.carried_size c.args.self.plan.now.engine; height = g.D.State.ProcessedHeight.height_of; shown = g.D.State.ProcessedHeight.bytes_of; participants = c.args.self.plan.now.participants; crashes = c.args.self.plan.now.crashes; link = c.args.self.plan.now.link; checks = c.args.self.plan.now.finalization_property; check_name = λ x. (goal.FinalizationProperty-dyn g (x.vtable, x.value)).finalization_name x.value; complaint = λ x. (goal.FinalizationProperty-dyn g (x.vtable, x.value)).finalization_complaint x.value; properties = c.args.self.plan.now.property; property_name = λ x. (goal.Property-dyn g (x.vtable, x.value)).property_name x.value; objection = λ x. (goal.Property-dyn g (x.vtable, x.value)).property_complaint x.value; condition = c.args.self.plan.now.exit_condition; condition_name = λ x. (goal.ExitCondition-dyn g (x.vtable, x.value)).exit_name x.value; polls = λ x. (goal.ExitCondition-dyn g (x.vtable, x.value)).exit_polls x.value; verdict = λ x. (goal.ExitCondition-dyn g (x.vtable, x.value)).exit_verdict x.value; required = c.args.self.plan.now.required_finalizations; max_events = c.args.self.plan.now.max_events; timeout = c.args.self.plan.now.timeout }) (Finds (record { engine = c.args.self.plan.now.engine; peer_of = g.D.EngineDefinition.peer_of c.args.self.plan.now.engine; journal = g.D.EngineDefinition.journal c.args.self.plan.now.engine; reports = g.D.EngineDefinition.reports c.args.self.plan.now.engine; channels = g.D.EngineDefinition.carried_on c.args.self.plan.now.engine; max_size = g.D.EngineDefinition.carried_size c.args.self.plan.now.engine; height = g.D.State.ProcessedHeight.height_of; shown = g.D.State.ProcessedHeight.bytes_of; participants = c.args.self.plan.now.participants; crashes = c.args.self.plan.now.crashes; link = c.args.self.plan.now.link; checks = c.args.self.plan.now.finalization_property; check_name = λ x. (goal.FinalizationProperty-dyn g (x.vtable, x.value)).finalization_name x.value; complaint = λ x. (goal.FinalizationProperty-dyn g (x.vtable, x.value)).finalization_complaint x.value; properties = c.args.self.plan.now.property; property_name = λ x. (goal.Property-dyn g (x.vtable, x.value)).property_name x.value; objection = λ x. (goal.Property-dyn g (x.vtable, x.value)).property_complaint x.value; condition = c.args.self.plan.now.exit_condition; condition_name = λ x. (goal.ExitCondition-dyn g (x.vtable, x.value)).exit_name x.value; polls = λ x. (goal.ExitCondition-dyn g (x.vtable, x.value)).exit_polls x.value; verdict = λ x. (goal.ExitCondition-dyn g (x.vtable, x.value)).exit_verdict x.value; required = c.args.self.plan.now.required_finalizations; max_events = c.args.self.plan.now.max_events; timeout = c.args.self.plan.now.timeout }) c.args.self.watch) (told_first c.args.self.queue) (polls_first c.args.self.queue) c.args.self.watch (empty_agenda c.args.self.queue.next) c.args.self.world in
    let ended : List FinalizationUpdate → List StateView → Type 0 = Ends (record { engine = c.args.self.plan.now.engine; peer_of = g.D.EngineDefinition.peer_of c.args.self.plan.now.engine; journal = g.D.EngineDefinition.journal c.args.self.plan.now.engine; reports = g.D.EngineDefinition.reports c.args.self.plan.now.engine; channels = g.D.EngineDefinition.carried_on c.args.self.plan.now.engine; max_size = g.D.EngineDefinition.carried_size c.args.self.plan.now.engine; height = g.D.State.ProcessedHeight.height_of; shown = g.D.State.ProcessedHeight.bytes_of; participants = c.args.self.plan.now.participants; crashes = c.args.self.plan.now.crashes; link = c.args.self.plan.now.link; checks = c.args.self.plan.now.finalization_property; check_name = λ x. (goal.FinalizationProperty-dyn g (x.vtable, x.value)).finalization_name x.value; complaint = λ x. (goal.FinalizationProperty-dyn g (x.vtable, x.value)).finalization_complaint x.value; properties = c.args.self.plan.now.property; property_name = λ x. (goal.Property-dyn g (x.vtable, x.value)).property_name x.value; objection = λ x. (goal.Property-dyn g (x.vtable, x.value)).property_complaint x.value; condition = c.args.self.plan.now.exit_condition; condition_name = λ x. (goal.ExitCondition-dyn g (x.vtable, x.value)).exit_name x.value; polls = λ x. (goal.ExitCondition-dyn g (x.vtable, x.value)).exit_polls x.value; verdict = λ x. (goal.ExitCondition-dyn g (x.vtable, x.value)).exit_verdict x.value; required = c.args.self.plan.now.required_finalizations; max_events = c.args.self.plan.now.max_events; timeout = c.args.self.plan.now.timeout }) (Finds (record { engine = c.args.self.plan.now.engine; peer_of = g.D.EngineDefinition.peer_of c.args.self.plan.now.engine; journal = g.D.EngineDefinition.journal c.args.self.plan.now.engine; reports = g.D.EngineDefinition.reports c.args.self.plan.now.engine; channels = g.D.EngineDefinition.carried_on c.args.self.plan.now.engine; max_size = g.D.EngineDefinition.carried_size c.args.self.plan.now.engine; height = g.D.State.ProcessedHeight.height_of; shown = g.D.State.ProcessedHeight.bytes_of; participants = c.args.self.plan.now.participants; crashes = c.args.self.plan.now.crashes; link = c.args.self.plan.now.link; checks = c.args.self.plan.now.finalization_property; check_name = λ x. (goal.FinalizationProperty-dyn g (x.vtable, x.value)).finalization_name x.value; complaint = λ x. (goal.FinalizationProperty-dyn g (x.vtable, x.value)).finalization_complaint x.value; properties = c.args.self.plan.now.property; property_name = λ x. (goal.Property-dyn g (x.vtable, x.value)).property_name x.value; objection = λ x. (goal.Property-dyn g (x.vtable, x.value)).property_complaint x.value; condition = c.args.self.plan.now.exit_condition; condition_name = λ x. (goal.ExitCondition-dyn g (x.vtable, x.value)).exit_name x.value; polls = λ x. (goal.ExitCondition-dyn g (x.vtable, x.value)).exit_polls x.value; verdict = λ x. (goal.ExitCondition-dyn g (x.vtable, x.value)).exit_verdict x.value; required = c.args.self.plan.now.required_finalizations; max_events = c.args.self.plan.now.max_events; timeout = c.args.self.plan.now.timeout }) c.args.self.watch) c.args.self.queue c.args.self.watch c.args.self.world in
    subst (StopAnswered (record { engine = c.args.self.plan.now.engine; peer_of = g.D.EngineDefinition.peer_of c.args.self.plan.now.engine; journal = g.D.EngineDefinition.journal c.args.self.plan.now.engine; reports = g.D.EngineDefinition.reports c.args.self.plan.now.engine; channels = g.D.EngineDefinition.carried_on c.args.self.plan.now.engine; max_size = g.D.EngineDefinition.carried_size c.args.self.plan.now.engine; height = g.D.State.ProcessedHeight.height_of; shown = g.D.State.ProcessedHeight.bytes_of; participants = c.args.self.plan.now.participants; crashes = c.args.self.plan.now.crashes; link = c.args.self.plan.now.link; checks = c.args.self.plan.now.finalization_property; check_name = λ x. (goal.FinalizationProperty-dyn g (x.vtable, x.value)).finalization_name x.value; complaint = λ x. (goal.FinalizationProperty-dyn g (x.vtable, x.value)).finalization_complaint x.value; properties = c.args.self.plan.now.property; property_name = λ x. (goal.Property-dyn g (x.vtable, x.value)).property_name x.value; objection = λ x. (goal.Property-dyn g (x.vtable, x.value)).property_complaint x.value; condition = c.args.self.plan.now.exit_condition; condition_name = λ x. (goal.ExitCondition-dyn g (x.vtable, x.value)).exit_name x.value; polls = λ x. (goal.ExitCondition-dyn g (x.vtable, x.value)).exit_polls x.value; verdict = λ x. (goal.ExitCondition-dyn g (x.vtable, x.value)).exit_verdict x.value; required = c.args.self.plan.now.required_finalizations; max_events = c.args.self.plan.now.max_events; timeout = c.args.self.plan.now.timeout }) seen asked ended c.args.self.watch) (ends_by c.in-Err.stop c.stopped.result _ _ _ _ e c.stopped.ensures h).0
    (stop_answered_since (record { engine = c.args.self.plan.now.engine; peer_of = g.D.EngineDefinition.peer_of c.args.self.plan.now.engine; journal = g.D.EngineDefinition.journal c.args.self.plan.now.engine; reports = g.D.EngineDefinition.reports c.args.self.plan.now.engine; channels = g.D.EngineDefinition.carried_on c.args.self.plan.now.engine; max_size = g.D.EngineDefinition.carried_size c.args.self.plan.now.engine; height = g.D.State.ProcessedHeight.height_of; shown = g.D.State.ProcessedHeight.bytes_of; participants = c.args.self.plan.now.participants; crashes = c.args.self.plan.now.crashes; link = c.args.self.plan.now.link; checks = c.args.self.plan.now.finalization_property; check_name = λ x. (goal.FinalizationProperty-dyn g (x.vtable, x.value)).finalization_name x.value; complaint = λ x. (goal.FinalizationProperty-dyn g (x.vtable, x.value)).finalization_complaint x.value; properties = c.args.self.plan.now.property; property_name = λ x. (goal.Property-dyn g (x.vtable, x.value)).property_name x.value; objection = λ x. (goal.Property-dyn g (x.vtable, x.value)).property_complaint x.value; condition = c.args.self.plan.now.exit_condition; condition_name = λ x. (goal.ExitCondition-dyn g (x.vtable, x.value)).exit_name x.value; polls = λ x. (goal.ExitCondition-dyn g (x.vtable, x.value)).exit_polls x.value; verdict = λ x. (goal.ExitCondition-dyn g (x.vtable, x.value)).exit_verdict x.value; required = c.args.self.plan.now.required_finalizations; max_events = c.args.self.plan.now.max_events; timeout = c.args.self.plan.now.timeout }) _ _ (λ m v. ⊥) seen asked ended
    c.args.self.watch c.args.self.watch []
    (λ m v. sees_begun (record { engine = c.args.self.plan.now.engine; peer_of = g.D.EngineDefinition.peer_of c.args.self.plan.now.engine; journal = g.D.EngineDefinition.journal c.args.self.plan.now.engine; reports = g.D.EngineDefinition.reports c.args.self.plan.now.engine; channels = g.D.EngineDefinition.carried_on c.args.self.plan.now.engine; max_size = g.D.EngineDefinition.carried_size c.args.self.plan.now.engine; height = g.D.State.ProcessedHeight.height_of; shown = g.D.State.ProcessedHeight.bytes_of; participants = c.args.self.plan.now.participants; crashes = c.args.self.plan.now.crashes; link = c.args.self.plan.now.link; checks = c.args.self.plan.now.finalization_property; check_name = λ x. (goal.FinalizationProperty-dyn g (x.vtable, x.value)).finalization_name x.value; complaint = λ x. (goal.FinalizationProperty-dyn g (x.vtable, x.value)).finalization_complaint x.value; properties = c.args.self.plan.now.property; property_name = λ x. (goal.Property-dyn g (x.vtable, x.value)).property_name x.value; objection = λ x. (goal.Property-dyn g (x.vtable, x.value)).property_complaint x.value; condition = c.args.self.plan.now.exit_condition; condition_name = λ x. (goal.ExitCondition-dyn g (x.vtable, x.value)).exit_name x.value; polls = λ x. (goal.ExitCondition-dyn g (x.vtable, x.value)).exit_polls x.value; verdict = λ x. (goal.ExitCondition-dyn g (x.vtable, x.value)).exit_verdict x.value; required = c.args.self.plan.now.required_finalizations; max_events = c.args.self.plan.now.max_events; timeout = c.args.self.plan.now.timeout }) (Finds (record { engine = c.args.self.plan.now.engine; peer_of = g.D.EngineDefinition.peer_of c.args.self.plan.now.engine; journal = g.D.EngineDefinition.journal c.args.self.plan.now.engine; reports = g.D.EngineDefinition.reports c.args.self.plan.now.engine; channels = g.D.EngineDefinition.carried_on c.args.self.plan.now.engine; max_size = g.D.EngineDefinition.carried_size c.args.self.plan.now.engine; height = g.D.State.ProcessedHeight.height_of; shown = g.D.State.ProcessedHeight.bytes_of; participants = c.args.self.plan.now.participants; crashes = c.args.self.plan.now.crashes; link = c.args.self.plan.now.link; checks = c.args.self.plan.now.finalization_property; check_name = λ x. (goal.FinalizationProperty-dyn g (x.vtable, x.value)).finalization_name x.value; complaint = λ x. (goal.FinalizationProperty-dyn g (x.vtable, x.value)).finalization_complaint x.value; properties = c.args.self.plan.now.property; property_name = λ x. (goal.Property-dyn g (x.vtable, x.value)).property_name x.value; objection = λ x. (goal.Property-dyn g (x.vtable, x.value)).property_complaint x.value; condition = c.args.self.plan.now.exit_condition; condition_name = λ x. (goal.ExitCondition-dyn g (x.vtable, x.value)).exit_name x.value; polls = λ x. (goal.ExitCondition-dyn g (x.vtable, x.value)).exit_polls x.value; verdict = λ x. (goal.ExitCondition-dyn g (x.vtable, x.value)).exit_verdict x.value; required = c.args.self.plan.now.required_finalizations; max_events = c.args.self.plan.now.max_events; timeout = c.args.self.plan.now.timeout }) c.args.self.watch) c.args.self.queue c.take.new.self c.in-Some.entry c.new-agenda.result c.args.self.world m v c.in-Some.ensures.taken start)
    (λ m v n. asks_begun (record { engine = c.args.self.plan.now.engine; peer_of = g.D.EngineDefinition.peer_of c.args.self.plan.now.engine; journal = g.D.EngineDefinition.journal c.args.self.plan.now.engine; reports = g.D.EngineDefinition.reports c.args.self.plan.now.engine; channels = g.D.EngineDefinition.carried_on c.args.self.plan.now.engine; max_size = g.D.EngineDefinition.carried_size c.args.self.plan.now.engine; height = g.D.State.ProcessedHeight.height_of; shown = g.D.State.ProcessedHeight.bytes_of; participants = c.args.self.plan.now.participants; crashes = c.args.self.plan.now.crashes; link = c.args.self.plan.now.link; checks = c.args.self.plan.now.finalization_property; check_name = λ x. (goal.FinalizationProperty-dyn g (x.vtable, x.value)).finalization_name x.value; complaint = λ x. (goal.FinalizationProperty-dyn g (x.vtable, x.value)).finalization_complaint x.value; properties = c.args.self.plan.now.property; property_name = λ x. (goal.Property-dyn g (x.vtable, x.value)).property_name x.value; objection = λ x. (goal.Property-dyn g (x.vtable, x.value)).property_complaint x.value; condition = c.args.self.plan.now.exit_condition; condition_name = λ x. (goal.ExitCondition-dyn g (x.vtable, x.value)).exit_name x.value; polls = λ x. (goal.ExitCondition-dyn g (x.vtable, x.value)).exit_polls x.value; verdict = λ x. (goal.ExitCondition-dyn g (x.vtable, x.value)).exit_verdict x.value; required = c.args.self.plan.now.required_finalizations; max_events = c.args.self.plan.now.max_events; timeout = c.args.self.plan.now.timeout }) (Finds (record { engine = c.args.self.plan.now.engine; peer_of = g.D.EngineDefinition.peer_of c.args.self.plan.now.engine; journal = g.D.EngineDefinition.journal c.args.self.plan.now.engine; reports = g.D.EngineDefinition.reports c.args.self.plan.now.engine; channels = g.D.EngineDefinition.carried_on c.args.self.plan.now.engine; max_size = g.D.EngineDefinition.carried_size c.args.self.plan.now.engine; height = g.D.State.ProcessedHeight.height_of; shown = g.D.State.ProcessedHeight.bytes_of; participants = c.args.self.plan.now.participants; crashes = c.args.self.plan.now.crashes; link = c.args.self.plan.now.link; checks = c.args.self.plan.now.finalization_property; check_name = λ x. (goal.FinalizationProperty-dyn g (x.vtable, x.value)).finalization_name x.value; complaint = λ x. (goal.FinalizationProperty-dyn g (x.vtable, x.value)).finalization_complaint x.value; properties = c.args.self.plan.now.property; property_name = λ x. (goal.Property-dyn g (x.vtable, x.value)).property_name x.value; objection = λ x. (goal.Property-dyn g (x.vtable, x.value)).property_complaint x.value; condition = c.args.self.plan.now.exit_condition; condition_name = λ x. (goal.ExitCondition-dyn g (x.vtable, x.value)).exit_name x.value; polls = λ x. (goal.ExitCondition-dyn g (x.vtable, x.value)).exit_polls x.value; verdict = λ x. (goal.ExitCondition-dyn g (x.vtable, x.value)).exit_verdict x.value; required = c.args.self.plan.now.required_finalizations; max_events = c.args.self.plan.now.max_events; timeout = c.args.self.plan.now.timeout }) c.args.self.watch) c.args.self.queue c.take.new.self c.in-Some.entry c.new-agenda.result c.args.self.watch c.args.self.world m v n c.in-Some.ensures.taken start)
    (λ m v never. absurd never) (sym (append-nil c.args.self.watch)) c.in-Err.stop c.in-Err.ensures.answered)

pub returns-in-Ok-None-clause-started : goal.returns-in-Ok-None-clause-started
returns-in-Ok-None-clause-started g c = λ next e.
    let p = c.go_on.ensures.on next e in
    ap (λ w. w.exercise.delayed_started) p.2
    ∙ c.in-Ok-None.ensures.started
    ∙ ap (started_by c.args.self.plan.now.participants c.args.self.plan.now.crashes c.args.self.watch c.args.self.world.exercise.delayed_started (drop (length c.args.self.watch) c.handle-outcome.new.watch)) c.in-Ok-None.field-0-is
    ∙ ap (λ us. started_after c.args.self.plan.now.participants c.args.self.plan.now.crashes c.args.self.watch c.args.self.world.exercise.delayed_started (drop (length c.args.self.watch) us)) (sym p.1)

pub returns-in-Ok-Some-clause-delayed : goal.returns-in-Ok-Some-clause-delayed
returns-in-Ok-Some-clause-delayed g c = λ r e.
    let met = (some_is (λ r. IsReached (record { engine = c.args.self.plan.now.engine; peer_of = g.D.EngineDefinition.peer_of c.args.self.plan.now.engine; journal = g.D.EngineDefinition.journal c.args.self.plan.now.engine; reports = g.D.EngineDefinition.reports c.args.self.plan.now.engine; channels = g.D.EngineDefinition.carried_on c.args.self.plan.now.engine; max_size = g.D.EngineDefinition.carried_size c.args.self.plan.now.engine; height = g.D.State.ProcessedHeight.height_of; shown = g.D.State.ProcessedHeight.bytes_of; participants = c.args.self.plan.now.participants; crashes = c.args.self.plan.now.crashes; link = c.args.self.plan.now.link; checks = c.args.self.plan.now.finalization_property; check_name = λ x. (goal.FinalizationProperty-dyn g (x.vtable, x.value)).finalization_name x.value; complaint = λ x. (goal.FinalizationProperty-dyn g (x.vtable, x.value)).finalization_complaint x.value; properties = c.args.self.plan.now.property; property_name = λ x. (goal.Property-dyn g (x.vtable, x.value)).property_name x.value; objection = λ x. (goal.Property-dyn g (x.vtable, x.value)).property_complaint x.value; condition = c.args.self.plan.now.exit_condition; condition_name = λ x. (goal.ExitCondition-dyn g (x.vtable, x.value)).exit_name x.value; polls = λ x. (goal.ExitCondition-dyn g (x.vtable, x.value)).exit_polls x.value; verdict = λ x. (goal.ExitCondition-dyn g (x.vtable, x.value)).exit_verdict x.value; required = c.args.self.plan.now.required_finalizations; max_events = c.args.self.plan.now.max_events; timeout = c.args.self.plan.now.timeout }) (target_count c.args.self.plan.now.participants c.args.self.plan.now.crashes c.handle-outcome.new.world.exercise.delayed_started) c.handle-outcome.new.watch r) c.in-Ok-Some.field-0 c.in-Ok-Some.reached c.in-Ok-Some.field-0-is c.in-Ok-Some.ensures.reached) in
    let updates = (c.finish.ensures.done r e).0 in
    let shown = c.finish.ensures.shows r e in (
      c.in-Ok-Some.reached.count,
      shown.2 ∙ ap (λ x. x.tracker) c.in-Ok-Some.reached-is ∙ met.tracker ∙ ap (λ us. tracker_of (take c.in-Ok-Some.reached.count us)) (sym updates),
      shown.0 ∙ (c.in-Ok-Some.ensures.started
          ∙ ap (started_by c.args.self.plan.now.participants c.args.self.plan.now.crashes c.args.self.watch c.args.self.world.exercise.delayed_started (drop (length c.args.self.watch) c.handle-outcome.new.watch)) c.in-Ok-Some.field-0-is)
          ∙ ap (λ us. started_where c.args.self.plan.now.participants c.args.self.plan.now.crashes c.args.self.watch c.args.self.world.exercise.delayed_started c.in-Ok-Some.reached.count (drop (length c.args.self.watch) us)) (sym updates),
    )

pub returns-in-Ok-Some-clause-counts : goal.returns-in-Ok-Some-clause-counts
returns-in-Ok-Some-clause-counts g c = λ r e.
    let grown = c.in-Ok-Some.ensures.updates in
    let shown = c.finish.ensures.shows r e in (
      grown.added ++ [],
      (ends_of (record { engine = c.args.self.plan.now.engine; peer_of = g.D.EngineDefinition.peer_of c.args.self.plan.now.engine; journal = g.D.EngineDefinition.journal c.args.self.plan.now.engine; reports = g.D.EngineDefinition.reports c.args.self.plan.now.engine; channels = g.D.EngineDefinition.carried_on c.args.self.plan.now.engine; max_size = g.D.EngineDefinition.carried_size c.args.self.plan.now.engine; height = g.D.State.ProcessedHeight.height_of; shown = g.D.State.ProcessedHeight.bytes_of; participants = c.args.self.plan.now.participants; crashes = c.args.self.plan.now.crashes; link = c.args.self.plan.now.link; checks = c.args.self.plan.now.finalization_property; check_name = λ x. (goal.FinalizationProperty-dyn g (x.vtable, x.value)).finalization_name x.value; complaint = λ x. (goal.FinalizationProperty-dyn g (x.vtable, x.value)).finalization_complaint x.value; properties = c.args.self.plan.now.property; property_name = λ x. (goal.Property-dyn g (x.vtable, x.value)).property_name x.value; objection = λ x. (goal.Property-dyn g (x.vtable, x.value)).property_complaint x.value; condition = c.args.self.plan.now.exit_condition; condition_name = λ x. (goal.ExitCondition-dyn g (x.vtable, x.value)).exit_name x.value; polls = λ x. (goal.ExitCondition-dyn g (x.vtable, x.value)).exit_polls x.value; verdict = λ x. (goal.ExitCondition-dyn g (x.vtable, x.value)).exit_verdict x.value; required = c.args.self.plan.now.required_finalizations; max_events = c.args.self.plan.now.max_events; timeout = c.args.self.plan.now.timeout }) (Finds (record { engine = c.args.self.plan.now.engine; peer_of = g.D.EngineDefinition.peer_of c.args.self.plan.now.engine; journal = g.D.EngineDefinition.journal c.args.self.plan.now.engine; reports = g.D.EngineDefinition.reports c.args.self.plan.now.engine; channels = g.D.EngineDefinition.carried_on c.args.self.plan.now.engine; max_size = g.D.EngineDefinition.carried_size c.args.self.plan.now.engine; height = g.D.State.ProcessedHeight.height_of; shown = g.D.State.ProcessedHeight.bytes_of; participants = c.args.self.plan.now.participants; crashes = c.args.self.plan.now.crashes; link = c.args.self.plan.now.link; checks = c.args.self.plan.now.finalization_property; check_name = λ x. (goal.FinalizationProperty-dyn g (x.vtable, x.value)).finalization_name x.value; complaint = λ x. (goal.FinalizationProperty-dyn g (x.vtable, x.value)).finalization_complaint x.value; properties = c.args.self.plan.now.property; property_name = λ x. (goal.Property-dyn g (x.vtable, x.value)).property_name x.value; objection = λ x. (goal.Property-dyn g (x.vtable, x.value)).property_complaint x.value; condition = c.args.self.plan.now.exit_condition; condition_name = λ x. (goal.ExitCondition-dyn g (x.vtable, x.value)).exit_name x.value; polls = λ x. (goal.ExitCondition-dyn g (x.vtable, x.value)).exit_polls x.value; verdict = λ x. (goal.ExitCondition-dyn g (x.vtable, x.value)).exit_verdict x.value; required = c.args.self.plan.now.required_finalizations; max_events = c.args.self.plan.now.max_events; timeout = c.args.self.plan.now.timeout }) c.args.self.watch) c.args.self.queue c.take.new.self c.in-Some.entry c.new-agenda.result c.handle-outcome.new.agenda
          c.args.self.watch c.handle-outcome.new.watch grown.added [] c.args.self.world c.handle-outcome.new.world r.states c.in-Ok-Some.reached c.in-Some.ensures.taken (c.new-agenda.ensures ∙ ap empty_agenda c.next.ensures)
          (subst (λ o. Handles (record { engine = c.args.self.plan.now.engine; peer_of = g.D.EngineDefinition.peer_of c.args.self.plan.now.engine; journal = g.D.EngineDefinition.journal c.args.self.plan.now.engine; reports = g.D.EngineDefinition.reports c.args.self.plan.now.engine; channels = g.D.EngineDefinition.carried_on c.args.self.plan.now.engine; max_size = g.D.EngineDefinition.carried_size c.args.self.plan.now.engine; height = g.D.State.ProcessedHeight.height_of; shown = g.D.State.ProcessedHeight.bytes_of; participants = c.args.self.plan.now.participants; crashes = c.args.self.plan.now.crashes; link = c.args.self.plan.now.link; checks = c.args.self.plan.now.finalization_property; check_name = λ x. (goal.FinalizationProperty-dyn g (x.vtable, x.value)).finalization_name x.value; complaint = λ x. (goal.FinalizationProperty-dyn g (x.vtable, x.value)).finalization_complaint x.value; properties = c.args.self.plan.now.property; property_name = λ x. (goal.Property-dyn g (x.vtable, x.value)).property_name x.value; objection = λ x. (goal.Property-dyn g (x.vtable, x.value)).property_complaint x.value; condition = c.args.self.plan.now.exit_condition; condition_name = λ x. (goal.ExitCondition-dyn g (x.vtable, x.value)).exit_name x.value; polls = λ x. (goal.ExitCondition-dyn g (x.vtable, x.value)).exit_polls x.value; verdict = λ x. (goal.ExitCondition-dyn g (x.vtable, x.value)).exit_verdict x.value; required = c.args.self.plan.now.required_finalizations; max_events = c.args.self.plan.now.max_events; timeout = c.args.self.plan.now.timeout }) (Finds (record { engine = c.args.self.plan.now.engine; peer_of = g.D.EngineDefinition.peer_of c.args.self.plan.now.engine; journal = g.D.EngineDefinition.journal c.args.self.plan.now.engine; reports = g.D.EngineDefinition.reports c.args.self.plan.now.engine; channels = g.D.EngineDefinition.carried_on c.args.self.plan.now.engine; max_size = g.D.EngineDefinition.carried_size c.args.self.plan.now.engine; height = g.D.State.ProcessedHeight.height_of; shown = g.D.State.ProcessedHeight.bytes_of; participants = c.args.self.plan.now.participants; crashes = c.args.self.plan.now.crashes; link = c.args.self.plan.now.link; checks = c.args.self.plan.now.finalization_property; check_name = λ x. (goal.FinalizationProperty-dyn g (x.vtable, x.value)).finalization_name x.value; complaint = λ x. (goal.FinalizationProperty-dyn g (x.vtable, x.value)).finalization_complaint x.value; properties = c.args.self.plan.now.property; property_name = λ x. (goal.Property-dyn g (x.vtable, x.value)).property_name x.value; objection = λ x. (goal.Property-dyn g (x.vtable, x.value)).property_complaint x.value; condition = c.args.self.plan.now.exit_condition; condition_name = λ x. (goal.ExitCondition-dyn g (x.vtable, x.value)).exit_name x.value; polls = λ x. (goal.ExitCondition-dyn g (x.vtable, x.value)).exit_polls x.value; verdict = λ x. (goal.ExitCondition-dyn g (x.vtable, x.value)).exit_verdict x.value; required = c.args.self.plan.now.required_finalizations; max_events = c.args.self.plan.now.max_events; timeout = c.args.self.plan.now.timeout }) c.args.self.watch) o c.in-Some.entry.0 c.in-Some.entry.1 c.new-agenda.result c.handle-outcome.new.agenda c.args.self.watch c.handle-outcome.new.watch c.args.self.world c.handle-outcome.new.world) c.in-Ok-Some.field-0-is c.in-Ok-Some.ensures.handled)
          (some_is (λ r. IsReached (record { engine = c.args.self.plan.now.engine; peer_of = g.D.EngineDefinition.peer_of c.args.self.plan.now.engine; journal = g.D.EngineDefinition.journal c.args.self.plan.now.engine; reports = g.D.EngineDefinition.reports c.args.self.plan.now.engine; channels = g.D.EngineDefinition.carried_on c.args.self.plan.now.engine; max_size = g.D.EngineDefinition.carried_size c.args.self.plan.now.engine; height = g.D.State.ProcessedHeight.height_of; shown = g.D.State.ProcessedHeight.bytes_of; participants = c.args.self.plan.now.participants; crashes = c.args.self.plan.now.crashes; link = c.args.self.plan.now.link; checks = c.args.self.plan.now.finalization_property; check_name = λ x. (goal.FinalizationProperty-dyn g (x.vtable, x.value)).finalization_name x.value; complaint = λ x. (goal.FinalizationProperty-dyn g (x.vtable, x.value)).finalization_complaint x.value; properties = c.args.self.plan.now.property; property_name = λ x. (goal.Property-dyn g (x.vtable, x.value)).property_name x.value; objection = λ x. (goal.Property-dyn g (x.vtable, x.value)).property_complaint x.value; condition = c.args.self.plan.now.exit_condition; condition_name = λ x. (goal.ExitCondition-dyn g (x.vtable, x.value)).exit_name x.value; polls = λ x. (goal.ExitCondition-dyn g (x.vtable, x.value)).exit_polls x.value; verdict = λ x. (goal.ExitCondition-dyn g (x.vtable, x.value)).exit_verdict x.value; required = c.args.self.plan.now.required_finalizations; max_events = c.args.self.plan.now.max_events; timeout = c.args.self.plan.now.timeout }) (target_count c.args.self.plan.now.participants c.args.self.plan.now.crashes c.handle-outcome.new.world.exercise.delayed_started) c.handle-outcome.new.watch r) c.in-Ok-Some.field-0 c.in-Ok-Some.reached c.in-Ok-Some.field-0-is c.in-Ok-Some.ensures.reached)
          (c.in-Ok-Some.ensures.started
          ∙ ap (started_by c.args.self.plan.now.participants c.args.self.plan.now.crashes c.args.self.watch c.args.self.world.exercise.delayed_started (drop (length c.args.self.watch) c.handle-outcome.new.watch)) c.in-Ok-Some.field-0-is)
          (subst (λ o. IfSome o (MetOn (Asked (record { engine = c.args.self.plan.now.engine; peer_of = g.D.EngineDefinition.peer_of c.args.self.plan.now.engine; journal = g.D.EngineDefinition.journal c.args.self.plan.now.engine; reports = g.D.EngineDefinition.reports c.args.self.plan.now.engine; channels = g.D.EngineDefinition.carried_on c.args.self.plan.now.engine; max_size = g.D.EngineDefinition.carried_size c.args.self.plan.now.engine; height = g.D.State.ProcessedHeight.height_of; shown = g.D.State.ProcessedHeight.bytes_of; participants = c.args.self.plan.now.participants; crashes = c.args.self.plan.now.crashes; link = c.args.self.plan.now.link; checks = c.args.self.plan.now.finalization_property; check_name = λ x. (goal.FinalizationProperty-dyn g (x.vtable, x.value)).finalization_name x.value; complaint = λ x. (goal.FinalizationProperty-dyn g (x.vtable, x.value)).finalization_complaint x.value; properties = c.args.self.plan.now.property; property_name = λ x. (goal.Property-dyn g (x.vtable, x.value)).property_name x.value; objection = λ x. (goal.Property-dyn g (x.vtable, x.value)).property_complaint x.value; condition = c.args.self.plan.now.exit_condition; condition_name = λ x. (goal.ExitCondition-dyn g (x.vtable, x.value)).exit_name x.value; polls = λ x. (goal.ExitCondition-dyn g (x.vtable, x.value)).exit_polls x.value; verdict = λ x. (goal.ExitCondition-dyn g (x.vtable, x.value)).exit_verdict x.value; required = c.args.self.plan.now.required_finalizations; max_events = c.args.self.plan.now.max_events; timeout = c.args.self.plan.now.timeout }) (Finds (record { engine = c.args.self.plan.now.engine; peer_of = g.D.EngineDefinition.peer_of c.args.self.plan.now.engine; journal = g.D.EngineDefinition.journal c.args.self.plan.now.engine; reports = g.D.EngineDefinition.reports c.args.self.plan.now.engine; channels = g.D.EngineDefinition.carried_on c.args.self.plan.now.engine; max_size = g.D.EngineDefinition.carried_size c.args.self.plan.now.engine; height = g.D.State.ProcessedHeight.height_of; shown = g.D.State.ProcessedHeight.bytes_of; participants = c.args.self.plan.now.participants; crashes = c.args.self.plan.now.crashes; link = c.args.self.plan.now.link; checks = c.args.self.plan.now.finalization_property; check_name = λ x. (goal.FinalizationProperty-dyn g (x.vtable, x.value)).finalization_name x.value; complaint = λ x. (goal.FinalizationProperty-dyn g (x.vtable, x.value)).finalization_complaint x.value; properties = c.args.self.plan.now.property; property_name = λ x. (goal.Property-dyn g (x.vtable, x.value)).property_name x.value; objection = λ x. (goal.Property-dyn g (x.vtable, x.value)).property_complaint x.value; condition = c.args.self.plan.now.exit_condition; condition_name = λ x. (goal.ExitCondition-dyn g (x.vtable, x.value)).exit_name x.value; polls = λ x. (goal.ExitCondition-dyn g (x.vtable, x.value)).exit_polls x.value; verdict = λ x. (goal.ExitCondition-dyn g (x.vtable, x.value)).exit_verdict x.value; required = c.args.self.plan.now.required_finalizations; max_events = c.args.self.plan.now.max_events; timeout = c.args.self.plan.now.timeout }) c.args.self.watch) (told_by c.in-Some.entry.0 c.in-Some.entry.1) (is_poll c.in-Some.entry.1) c.new-agenda.result c.args.self.world) c.args.self.watch)) c.in-Ok-Some.field-0-is c.in-Ok-Some.ensures.seen)
          grown.is (refl, shown.3 ∙ ap (λ x. x.states.items) c.in-Ok-Some.reached-is)),
      (c.finish.ensures.done r e).0 ∙ grown.is ∙ sym (ap (λ us. c.args.self.watch ++ us) (append-nil grown.added)),
      shown.1,
      shown.0,
    )

pub returns-in-Ok-None-clause-unmet : goal.returns-in-Ok-None-clause-unmet
returns-in-Ok-None-clause-unmet g c = λ next e polls.
    subst (λ o. ExitIs (record { engine = c.args.self.plan.now.engine; peer_of = g.D.EngineDefinition.peer_of c.args.self.plan.now.engine; journal = g.D.EngineDefinition.journal c.args.self.plan.now.engine; reports = g.D.EngineDefinition.reports c.args.self.plan.now.engine; channels = g.D.EngineDefinition.carried_on c.args.self.plan.now.engine; max_size = g.D.EngineDefinition.carried_size c.args.self.plan.now.engine; height = g.D.State.ProcessedHeight.height_of; shown = g.D.State.ProcessedHeight.bytes_of; participants = c.args.self.plan.now.participants; crashes = c.args.self.plan.now.crashes; link = c.args.self.plan.now.link; checks = c.args.self.plan.now.finalization_property; check_name = λ x. (goal.FinalizationProperty-dyn g (x.vtable, x.value)).finalization_name x.value; complaint = λ x. (goal.FinalizationProperty-dyn g (x.vtable, x.value)).finalization_complaint x.value; properties = c.args.self.plan.now.property; property_name = λ x. (goal.Property-dyn g (x.vtable, x.value)).property_name x.value; objection = λ x. (goal.Property-dyn g (x.vtable, x.value)).property_complaint x.value; condition = c.args.self.plan.now.exit_condition; condition_name = λ x. (goal.ExitCondition-dyn g (x.vtable, x.value)).exit_name x.value; polls = λ x. (goal.ExitCondition-dyn g (x.vtable, x.value)).exit_polls x.value; verdict = λ x. (goal.ExitCondition-dyn g (x.vtable, x.value)).exit_verdict x.value; required = c.args.self.plan.now.required_finalizations; max_events = c.args.self.plan.now.max_events; timeout = c.args.self.plan.now.timeout }) (target_count c.args.self.plan.now.participants c.args.self.plan.now.crashes c.args.self.world.exercise.delayed_started) (tracker_of c.args.self.watch) (active_views g.D.State.ProcessedHeight.height_of g.D.State.ProcessedHeight.bytes_of c.args.self.world.seats.entries) (is_some o)) c.in-Ok-None.field-0-is
    (c.in-Ok-None.ensures.answers (sym (ap polls_first c.in-Some.ensures.taken) ∙ polls))

use Rattle.std.proofs.Common.{◌≡◌, ◌∷◌, [], ◌++◌, ◌∙◌, ap, refl, sym, subst, is_some, true, false}
use Rattle.ledger_simulate.specs.Plans.{target_count}
use Rattle.ledger_simulate.proofs.Causing.{stop_asked, stop_forks, stop_skips}
use Rattle.ledger_simulate.proofs.Changing.{changes_alone_none, changes_alone_then}
use Rattle.ledger_simulate.proofs.Answering.{stop_answered_since}
use Rattle.simulate_parts.specs.Seats.{active_views}
use Rattle.simulate_parts.specs.Tracker.{tracker_of}
use Rattle.ledger_simulate.specs.Reaching.{ExitIs}
use Rattle.std.proofs.lemmas.List.{append-nil}
use Rattle.ledger_simulate.proofs.Delaying.{launches_none}
use Rattle.ledger_simulate.proofs.Delaying.{some_is}
use Rattle.ledger_simulate.proofs.reports.take_report.Goals as goal

pub returns-in-Ok-start_delayed-clause-changes_alone : goal.returns-in-Ok-start_delayed-clause-changes_alone
returns-in-Ok-start_delayed-clause-changes_alone g c =
    changes_alone_then (g.D.EngineDefinition.peer_of c.args.plan.now.engine) c.args.agenda.now c.enter_windows.new.agenda c.start_delayed.new.agenda c.args.world.now c.enter_windows.new.self c.start_delayed.new.self
    c.in-Ok-enter_windows.ensures.changes_alone c.in-Ok-start_delayed.ensures.changes_alone

pub returns-in-Ok-start_delayed-clause-sets_off : goal.returns-in-Ok-start_delayed-clause-sets_off
returns-in-Ok-start_delayed-clause-sets_off g c = record {
  made = c.enter_windows.new.agenda;
  mid = c.enter_windows.new.self;
  unpassed = c.in-Ok-enter_windows.ensures.unpassed;
  enters = c.in-Ok-enter_windows.ensures.changes_alone;
  entered = c.in-Ok-enter_windows.ensures.standing;
  held = record {
    sound = c.in-Ok-None.ensures.sound;
    answers =
        subst (λ us. ExitIs (record { engine = c.args.plan.now.engine; peer_of = g.D.EngineDefinition.peer_of c.args.plan.now.engine; journal = g.D.EngineDefinition.journal c.args.plan.now.engine; reports = g.D.EngineDefinition.reports c.args.plan.now.engine; channels = g.D.EngineDefinition.carried_on c.args.plan.now.engine; max_size = g.D.EngineDefinition.carried_size c.args.plan.now.engine; height = g.D.State.ProcessedHeight.height_of; shown = g.D.State.ProcessedHeight.bytes_of; participants = c.args.plan.now.participants; crashes = c.args.plan.now.crashes; link = c.args.plan.now.link; checks = c.args.plan.now.finalization_property; check_name = λ x. (goal.FinalizationProperty-dyn g (x.vtable, x.value)).finalization_name x.value; complaint = λ x. (goal.FinalizationProperty-dyn g (x.vtable, x.value)).finalization_complaint x.value; properties = c.args.plan.now.property; property_name = λ x. (goal.Property-dyn g (x.vtable, x.value)).property_name x.value; objection = λ x. (goal.Property-dyn g (x.vtable, x.value)).property_complaint x.value; condition = c.args.plan.now.exit_condition; condition_name = λ x. (goal.ExitCondition-dyn g (x.vtable, x.value)).exit_name x.value; polls = λ x. (goal.ExitCondition-dyn g (x.vtable, x.value)).exit_polls x.value; verdict = λ x. (goal.ExitCondition-dyn g (x.vtable, x.value)).exit_verdict x.value; required = c.args.plan.now.required_finalizations; max_events = c.args.plan.now.max_events; timeout = c.args.plan.now.timeout }) (target_count c.args.plan.now.participants c.args.plan.now.crashes c.enter_windows.new.self.exercise.delayed_started) (tracker_of us) (active_views g.D.State.ProcessedHeight.height_of g.D.State.ProcessedHeight.bytes_of c.enter_windows.new.self.seats.entries) false) c.in-Ok.ensures.ok
        (subst (λ o. ExitIs (record { engine = c.args.plan.now.engine; peer_of = g.D.EngineDefinition.peer_of c.args.plan.now.engine; journal = g.D.EngineDefinition.journal c.args.plan.now.engine; reports = g.D.EngineDefinition.reports c.args.plan.now.engine; channels = g.D.EngineDefinition.carried_on c.args.plan.now.engine; max_size = g.D.EngineDefinition.carried_size c.args.plan.now.engine; height = g.D.State.ProcessedHeight.height_of; shown = g.D.State.ProcessedHeight.bytes_of; participants = c.args.plan.now.participants; crashes = c.args.plan.now.crashes; link = c.args.plan.now.link; checks = c.args.plan.now.finalization_property; check_name = λ x. (goal.FinalizationProperty-dyn g (x.vtable, x.value)).finalization_name x.value; complaint = λ x. (goal.FinalizationProperty-dyn g (x.vtable, x.value)).finalization_complaint x.value; properties = c.args.plan.now.property; property_name = λ x. (goal.Property-dyn g (x.vtable, x.value)).property_name x.value; objection = λ x. (goal.Property-dyn g (x.vtable, x.value)).property_complaint x.value; condition = c.args.plan.now.exit_condition; condition_name = λ x. (goal.ExitCondition-dyn g (x.vtable, x.value)).exit_name x.value; polls = λ x. (goal.ExitCondition-dyn g (x.vtable, x.value)).exit_polls x.value; verdict = λ x. (goal.ExitCondition-dyn g (x.vtable, x.value)).exit_verdict x.value; required = c.args.plan.now.required_finalizations; max_events = c.args.plan.now.max_events; timeout = c.args.plan.now.timeout }) (target_count c.args.plan.now.participants c.args.plan.now.crashes c.enter_windows.new.self.exercise.delayed_started) (tracker_of c.observe.new.self) (active_views g.D.State.ProcessedHeight.height_of g.D.State.ProcessedHeight.bytes_of c.enter_windows.new.self.seats.entries) (is_some o)) c.in-Ok-None.field-0-is c.in-Ok-None.ensures.answers);
  };
  changes_alone = c.in-Ok-start_delayed.ensures.changes_alone;
  launched = c.in-Ok-start_delayed.ensures.launches.0;
  launches = c.in-Ok-start_delayed.ensures.launches.1;
  events = c.in-Ok-start_delayed.ensures.launches.2;
  tally = c.in-Ok-start_delayed.ensures.tally;
}

pub returns-in-Ok-Some-clause-sets_off : goal.returns-in-Ok-Some-clause-sets_off
returns-in-Ok-Some-clause-sets_off g c = record {
  made = c.enter_windows.new.agenda;
  mid = c.enter_windows.new.self;
  unpassed = c.in-Ok-enter_windows.ensures.unpassed;
  enters = c.in-Ok-enter_windows.ensures.changes_alone;
  entered = c.in-Ok-enter_windows.ensures.standing;
  held = record {
    sound = c.in-Ok-Some.ensures.sound;
    answers =
        subst (λ us. ExitIs (record { engine = c.args.plan.now.engine; peer_of = g.D.EngineDefinition.peer_of c.args.plan.now.engine; journal = g.D.EngineDefinition.journal c.args.plan.now.engine; reports = g.D.EngineDefinition.reports c.args.plan.now.engine; channels = g.D.EngineDefinition.carried_on c.args.plan.now.engine; max_size = g.D.EngineDefinition.carried_size c.args.plan.now.engine; height = g.D.State.ProcessedHeight.height_of; shown = g.D.State.ProcessedHeight.bytes_of; participants = c.args.plan.now.participants; crashes = c.args.plan.now.crashes; link = c.args.plan.now.link; checks = c.args.plan.now.finalization_property; check_name = λ x. (goal.FinalizationProperty-dyn g (x.vtable, x.value)).finalization_name x.value; complaint = λ x. (goal.FinalizationProperty-dyn g (x.vtable, x.value)).finalization_complaint x.value; properties = c.args.plan.now.property; property_name = λ x. (goal.Property-dyn g (x.vtable, x.value)).property_name x.value; objection = λ x. (goal.Property-dyn g (x.vtable, x.value)).property_complaint x.value; condition = c.args.plan.now.exit_condition; condition_name = λ x. (goal.ExitCondition-dyn g (x.vtable, x.value)).exit_name x.value; polls = λ x. (goal.ExitCondition-dyn g (x.vtable, x.value)).exit_polls x.value; verdict = λ x. (goal.ExitCondition-dyn g (x.vtable, x.value)).exit_verdict x.value; required = c.args.plan.now.required_finalizations; max_events = c.args.plan.now.max_events; timeout = c.args.plan.now.timeout }) (target_count c.args.plan.now.participants c.args.plan.now.crashes c.enter_windows.new.self.exercise.delayed_started) (tracker_of us) (active_views g.D.State.ProcessedHeight.height_of g.D.State.ProcessedHeight.bytes_of c.enter_windows.new.self.seats.entries) true) c.in-Ok.ensures.ok
        (subst (λ o. ExitIs (record { engine = c.args.plan.now.engine; peer_of = g.D.EngineDefinition.peer_of c.args.plan.now.engine; journal = g.D.EngineDefinition.journal c.args.plan.now.engine; reports = g.D.EngineDefinition.reports c.args.plan.now.engine; channels = g.D.EngineDefinition.carried_on c.args.plan.now.engine; max_size = g.D.EngineDefinition.carried_size c.args.plan.now.engine; height = g.D.State.ProcessedHeight.height_of; shown = g.D.State.ProcessedHeight.bytes_of; participants = c.args.plan.now.participants; crashes = c.args.plan.now.crashes; link = c.args.plan.now.link; checks = c.args.plan.now.finalization_property; check_name = λ x. (goal.FinalizationProperty-dyn g (x.vtable, x.value)).finalization_name x.value; complaint = λ x. (goal.FinalizationProperty-dyn g (x.vtable, x.value)).finalization_complaint x.value; properties = c.args.plan.now.property; property_name = λ x. (goal.Property-dyn g (x.vtable, x.value)).property_name x.value; objection = λ x. (goal.Property-dyn g (x.vtable, x.value)).property_complaint x.value; condition = c.args.plan.now.exit_condition; condition_name = λ x. (goal.ExitCondition-dyn g (x.vtable, x.value)).exit_name x.value; polls = λ x. (goal.ExitCondition-dyn g (x.vtable, x.value)).exit_polls x.value; verdict = λ x. (goal.ExitCondition-dyn g (x.vtable, x.value)).exit_verdict x.value; required = c.args.plan.now.required_finalizations; max_events = c.args.plan.now.max_events; timeout = c.args.plan.now.timeout }) (target_count c.args.plan.now.participants c.args.plan.now.crashes c.enter_windows.new.self.exercise.delayed_started) (tracker_of c.observe.new.self) (active_views g.D.State.ProcessedHeight.height_of g.D.State.ProcessedHeight.bytes_of c.enter_windows.new.self.seats.entries) (is_some o)) c.in-Ok-Some.field-0-is c.in-Ok-Some.ensures.answers);
  };
  changes_alone = changes_alone_none (g.D.EngineDefinition.peer_of c.args.plan.now.engine) c.enter_windows.new.agenda c.enter_windows.new.self;
  launched = [];
  launches = launches_none c.args.plan.now.participants c.args.plan.now.crashes c.enter_windows.new.self.exercise.delayed_started;
  events = sym (append-nil c.enter_windows.new.agenda.events);
  tally = refl;
}

pub returns-in-Err-clause-comes : goal.returns-in-Err-clause-comes
returns-in-Err-clause-comes g c = stop_forks _ _ c.args.watch.now c.args.update c.in-Err.stop (refl, refl) c.in-Err.ensures.fork

pub returns-in-Err-enter_windows-clause-comes : goal.returns-in-Err-enter_windows-clause-comes
returns-in-Err-enter_windows-clause-comes g c = stop_skips _ _ c.args.watch.now c.in-Err-enter_windows.stop c.in-Err-enter_windows.ensures.skips

pub returns-in-Err-check_and_ask-clause-comes : goal.returns-in-Err-check_and_ask-clause-comes
returns-in-Err-check_and_ask-clause-comes g c = stop_asked _ _ c.args.watch.now c.in-Err-check_and_ask.stop c.in-Err-check_and_ask.ensures.asked

pub returns-in-Err-check_and_ask-clause-answered : goal.returns-in-Err-check_and_ask-clause-answered
returns-in-Err-check_and_ask-clause-answered g c =
    let entered = ap (λ x. active_views g.D.State.ProcessedHeight.height_of g.D.State.ProcessedHeight.bytes_of x.seats) c.in-Ok-enter_windows.ensures.standing in
    stop_answered_since (record { engine = c.args.plan.now.engine; peer_of = g.D.EngineDefinition.peer_of c.args.plan.now.engine; journal = g.D.EngineDefinition.journal c.args.plan.now.engine; reports = g.D.EngineDefinition.reports c.args.plan.now.engine; channels = g.D.EngineDefinition.carried_on c.args.plan.now.engine; max_size = g.D.EngineDefinition.carried_size c.args.plan.now.engine; height = g.D.State.ProcessedHeight.height_of; shown = g.D.State.ProcessedHeight.bytes_of; participants = c.args.plan.now.participants; crashes = c.args.plan.now.crashes; link = c.args.plan.now.link; checks = c.args.plan.now.finalization_property; check_name = λ x. (goal.FinalizationProperty-dyn g (x.vtable, x.value)).finalization_name x.value; complaint = λ x. (goal.FinalizationProperty-dyn g (x.vtable, x.value)).finalization_complaint x.value; properties = c.args.plan.now.property; property_name = λ x. (goal.Property-dyn g (x.vtable, x.value)).property_name x.value; objection = λ x. (goal.Property-dyn g (x.vtable, x.value)).property_complaint x.value; condition = c.args.plan.now.exit_condition; condition_name = λ x. (goal.ExitCondition-dyn g (x.vtable, x.value)).exit_name x.value; polls = λ x. (goal.ExitCondition-dyn g (x.vtable, x.value)).exit_polls x.value; verdict = λ x. (goal.ExitCondition-dyn g (x.vtable, x.value)).exit_verdict x.value; required = c.args.plan.now.required_finalizations; max_events = c.args.plan.now.max_events; timeout = c.args.plan.now.timeout }) _ _ (λ m v. ⊥) _ _ (λ m v. ⊥)
    c.args.watch.now c.observe.new.self (c.args.update ∷ [])
    (λ m v is. (ap (λ us. (c.args.update ∷ []) ++ us) is.0, is.1 ∙ entered))
    (λ m v n is. (ap (λ us. (c.args.update ∷ []) ++ us) is.0, is.1 ∙ entered, is.2 ∙ ap (target_count c.args.plan.now.participants c.args.plan.now.crashes) c.in-Ok-enter_windows.ensures.started))
    (λ m v never. absurd never) c.in-Ok.ensures.ok c.in-Err-check_and_ask.stop c.in-Err-check_and_ask.ensures.answered

pub returns-in-Ok-Some-clause-states : goal.returns-in-Ok-Some-clause-states
returns-in-Ok-Some-clause-states g c =
    some_is (λ r. r.states.items ≡ active_views g.D.State.ProcessedHeight.height_of g.D.State.ProcessedHeight.bytes_of c.enter_windows.new.self.seats.entries) c.in-Ok-Some.field-0 c.in-Ok-Some.reached c.in-Ok-Some.field-0-is c.in-Ok-Some.ensures.states
    ∙ ap (λ x. active_views g.D.State.ProcessedHeight.height_of g.D.State.ProcessedHeight.bytes_of x.seats) c.in-Ok-enter_windows.ensures.standing

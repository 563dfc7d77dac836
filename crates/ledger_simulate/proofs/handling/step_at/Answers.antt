use Rattle.std.proofs.Common.{◌≡◌, ◌∷◌, [], List, None, Some, is_some, subst, ◌++◌, refl, sym, ap, ◌∙◌, inr}
use Rattle.simulate_parts.specs.declared.engine.StateView.{StateView}
use Rattle.simulate_parts.specs.declared.tracker.FinalizationUpdate.{FinalizationUpdate}
use Rattle.ledger_simulate.specs.Delays.{target_at}
use Rattle.std.proofs.lemmas.List.{append-nil}
use Rattle.std.proofs.lemmas.List.Elements.{All-contains}
use Rattle.simulate_parts.specs.Engine.{Passes, updates_of}
use Rattle.ledger_simulate.specs.Causes.{SkipsAmong}
use Rattle.ledger_simulate.specs.Handling.{TriggersFailuresEach, number_after, count_setting_off}
use Rattle.ledger_simulate.proofs.Causing.{if_err_map, stop_since}
use Rattle.ledger_simulate.proofs.Engines.{passes_step}
use Rattle.ledger_simulate.proofs.Turning.{in_turn}
use Rattle.ledger_simulate.proofs.Proceeding.{tells_by}
use Rattle.ledger_simulate.specs.Answering.{Sees, SeesAfter, EngineStep}
use Rattle.ledger_simulate.proofs.Answering.{if_answered_wider}
use Rattle.ledger_simulate.proofs.Delaying.{if_ok_some_map, if_ok_with, started_rests, started_turns}
use Rattle.ledger_simulate.specs.Reaching.{Finds}
use Rattle.ledger_simulate.proofs.handling.step_at.Goals as goal

pub returns-in-Ok-clause-told : goal.returns-in-Ok-clause-told
returns-in-Ok-clause-told g c =
    let engine = c.args.plan.now.engine in
    let given = c.in-Ok.ensures in
    if_ok_with c.take_reports.result
    (λ grown o set_off.
    tells_by (record { engine = c.args.plan.now.engine; peer_of = g.D.EngineDefinition.peer_of c.args.plan.now.engine; journal = g.D.EngineDefinition.journal c.args.plan.now.engine; reports = g.D.EngineDefinition.reports c.args.plan.now.engine; channels = g.D.EngineDefinition.carried_on c.args.plan.now.engine; max_size = g.D.EngineDefinition.carried_size c.args.plan.now.engine; height = g.D.State.ProcessedHeight.height_of; shown = g.D.State.ProcessedHeight.bytes_of; participants = c.args.plan.now.participants; crashes = c.args.plan.now.crashes; link = c.args.plan.now.link; checks = c.args.plan.now.finalization_property; check_name = λ x. (goal.FinalizationProperty-dyn g (x.vtable, x.value)).finalization_name x.value; complaint = λ x. (goal.FinalizationProperty-dyn g (x.vtable, x.value)).finalization_complaint x.value; properties = c.args.plan.now.property; property_name = λ x. (goal.Property-dyn g (x.vtable, x.value)).property_name x.value; objection = λ x. (goal.Property-dyn g (x.vtable, x.value)).property_complaint x.value; condition = c.args.plan.now.exit_condition; condition_name = λ x. (goal.ExitCondition-dyn g (x.vtable, x.value)).exit_name x.value; polls = λ x. (goal.ExitCondition-dyn g (x.vtable, x.value)).exit_polls x.value; verdict = λ x. (goal.ExitCondition-dyn g (x.vtable, x.value)).exit_verdict x.value; required = c.args.plan.now.required_finalizations; max_events = c.args.plan.now.max_events; timeout = c.args.plan.now.timeout }) (Finds (record { engine = c.args.plan.now.engine; peer_of = g.D.EngineDefinition.peer_of c.args.plan.now.engine; journal = g.D.EngineDefinition.journal c.args.plan.now.engine; reports = g.D.EngineDefinition.reports c.args.plan.now.engine; channels = g.D.EngineDefinition.carried_on c.args.plan.now.engine; max_size = g.D.EngineDefinition.carried_size c.args.plan.now.engine; height = g.D.State.ProcessedHeight.height_of; shown = g.D.State.ProcessedHeight.bytes_of; participants = c.args.plan.now.participants; crashes = c.args.plan.now.crashes; link = c.args.plan.now.link; checks = c.args.plan.now.finalization_property; check_name = λ x. (goal.FinalizationProperty-dyn g (x.vtable, x.value)).finalization_name x.value; complaint = λ x. (goal.FinalizationProperty-dyn g (x.vtable, x.value)).finalization_complaint x.value; properties = c.args.plan.now.property; property_name = λ x. (goal.Property-dyn g (x.vtable, x.value)).property_name x.value; objection = λ x. (goal.Property-dyn g (x.vtable, x.value)).property_complaint x.value; condition = c.args.plan.now.exit_condition; condition_name = λ x. (goal.ExitCondition-dyn g (x.vtable, x.value)).exit_name x.value; polls = λ x. (goal.ExitCondition-dyn g (x.vtable, x.value)).exit_polls x.value; verdict = λ x. (goal.ExitCondition-dyn g (x.vtable, x.value)).exit_verdict x.value; required = c.args.plan.now.required_finalizations; max_events = c.args.plan.now.max_events; timeout = c.args.plan.now.timeout }) c.args.watch.now) o c.args.told.pk c.in-Some.birth c.args.told.event
    c.args.agenda.now c.take_reports.new.agenda c.args.watch.now c.take_reports.new.watch c.args.world.now c.take_reports.new.world _ (sym c.addressed.ensures ∙ c.in-Some.is)
    (record {
      out = given.0;
      given = c.step_and_send.new.agenda;
      mid = c.step_and_send.new.world;
      gives = given.1;
      reported = grown ∙ ap (λ xs. c.args.watch.now ++ xs) given.2;
      set_off =
          subst (λ us. TriggersFailuresEach (record { engine = c.args.plan.now.engine; peer_of = g.D.EngineDefinition.peer_of c.args.plan.now.engine; journal = g.D.EngineDefinition.journal c.args.plan.now.engine; reports = g.D.EngineDefinition.reports c.args.plan.now.engine; channels = g.D.EngineDefinition.carried_on c.args.plan.now.engine; max_size = g.D.EngineDefinition.carried_size c.args.plan.now.engine; height = g.D.State.ProcessedHeight.height_of; shown = g.D.State.ProcessedHeight.bytes_of; participants = c.args.plan.now.participants; crashes = c.args.plan.now.crashes; link = c.args.plan.now.link; checks = c.args.plan.now.finalization_property; check_name = λ x. (goal.FinalizationProperty-dyn g (x.vtable, x.value)).finalization_name x.value; complaint = λ x. (goal.FinalizationProperty-dyn g (x.vtable, x.value)).finalization_complaint x.value; properties = c.args.plan.now.property; property_name = λ x. (goal.Property-dyn g (x.vtable, x.value)).property_name x.value; objection = λ x. (goal.Property-dyn g (x.vtable, x.value)).property_complaint x.value; condition = c.args.plan.now.exit_condition; condition_name = λ x. (goal.ExitCondition-dyn g (x.vtable, x.value)).exit_name x.value; polls = λ x. (goal.ExitCondition-dyn g (x.vtable, x.value)).exit_polls x.value; verdict = λ x. (goal.ExitCondition-dyn g (x.vtable, x.value)).exit_verdict x.value; required = c.args.plan.now.required_finalizations; max_events = c.args.plan.now.max_events; timeout = c.args.plan.now.timeout }) (Finds (record { engine = c.args.plan.now.engine; peer_of = g.D.EngineDefinition.peer_of c.args.plan.now.engine; journal = g.D.EngineDefinition.journal c.args.plan.now.engine; reports = g.D.EngineDefinition.reports c.args.plan.now.engine; channels = g.D.EngineDefinition.carried_on c.args.plan.now.engine; max_size = g.D.EngineDefinition.carried_size c.args.plan.now.engine; height = g.D.State.ProcessedHeight.height_of; shown = g.D.State.ProcessedHeight.bytes_of; participants = c.args.plan.now.participants; crashes = c.args.plan.now.crashes; link = c.args.plan.now.link; checks = c.args.plan.now.finalization_property; check_name = λ x. (goal.FinalizationProperty-dyn g (x.vtable, x.value)).finalization_name x.value; complaint = λ x. (goal.FinalizationProperty-dyn g (x.vtable, x.value)).finalization_complaint x.value; properties = c.args.plan.now.property; property_name = λ x. (goal.Property-dyn g (x.vtable, x.value)).property_name x.value; objection = λ x. (goal.Property-dyn g (x.vtable, x.value)).property_complaint x.value; condition = c.args.plan.now.exit_condition; condition_name = λ x. (goal.ExitCondition-dyn g (x.vtable, x.value)).exit_name x.value; polls = λ x. (goal.ExitCondition-dyn g (x.vtable, x.value)).exit_polls x.value; verdict = λ x. (goal.ExitCondition-dyn g (x.vtable, x.value)).exit_verdict x.value; required = c.args.plan.now.required_finalizations; max_events = c.args.plan.now.max_events; timeout = c.args.plan.now.timeout }) c.args.watch.now) us (is_some o) (count_setting_off c.args.watch.now us o) c.step_and_send.new.agenda c.take_reports.new.agenda c.step_and_send.new.world c.take_reports.new.world) given.2 set_off;
    }))
    c.take_reports.ensures.updates c.take_reports.ensures.set_off

pub returns-in-Ok-clause-comes : goal.returns-in-Ok-clause-comes
returns-in-Ok-clause-comes g c =
    let engine = c.args.plan.now.engine in
    let given = c.in-Ok.ensures in
    let watch = c.args.watch.now in
    let took : EngineStep (record { engine = c.args.plan.now.engine; peer_of = g.D.EngineDefinition.peer_of c.args.plan.now.engine; journal = g.D.EngineDefinition.journal c.args.plan.now.engine; reports = g.D.EngineDefinition.reports c.args.plan.now.engine; channels = g.D.EngineDefinition.carried_on c.args.plan.now.engine; max_size = g.D.EngineDefinition.carried_size c.args.plan.now.engine; height = g.D.State.ProcessedHeight.height_of; shown = g.D.State.ProcessedHeight.bytes_of; participants = c.args.plan.now.participants; crashes = c.args.plan.now.crashes; link = c.args.plan.now.link; checks = c.args.plan.now.finalization_property; check_name = λ x. (goal.FinalizationProperty-dyn g (x.vtable, x.value)).finalization_name x.value; complaint = λ x. (goal.FinalizationProperty-dyn g (x.vtable, x.value)).finalization_complaint x.value; properties = c.args.plan.now.property; property_name = λ x. (goal.Property-dyn g (x.vtable, x.value)).property_name x.value; objection = λ x. (goal.Property-dyn g (x.vtable, x.value)).property_complaint x.value; condition = c.args.plan.now.exit_condition; condition_name = λ x. (goal.ExitCondition-dyn g (x.vtable, x.value)).exit_name x.value; polls = λ x. (goal.ExitCondition-dyn g (x.vtable, x.value)).exit_polls x.value; verdict = λ x. (goal.ExitCondition-dyn g (x.vtable, x.value)).exit_verdict x.value; required = c.args.plan.now.required_finalizations; max_events = c.args.plan.now.max_events; timeout = c.args.plan.now.timeout }) (Some (c.args.told.pk, c.args.told.birth, c.args.told.event)) c.args.agenda.now c.args.world.now = record {
      pk = c.args.told.pk;
      given_birth = c.args.told.birth;
      event = c.args.told.event;
      tells = refl;
      birth = c.in-Some.birth;
      runs = sym c.addressed.ensures ∙ c.in-Some.is;
      out = given.0;
      given = c.step_and_send.new.agenda;
      mid = c.step_and_send.new.world;
      gives = given.1;
    } in
    if_err_map _ _
    (stop_since _ _ _ _ watch watch [] (sym (append-nil watch))
    (λ m u came.
    let turn : updates_of c.args.told.pk given.0.finalized ≡ m ++ u ∷ came.0 = sym given.2 ∙ came.1 in
    record {
      took = took;
      rest = came.0;
      in_turn = turn;
      passes = λ seated.
          All-contains (Passes (g.D.EngineDefinition.reports engine)) (updates_of c.args.told.pk given.0.finalized) u
          (passes_step (g.D.EngineDefinition.peer_of engine) (g.D.EngineDefinition.journal engine) (g.D.EngineDefinition.reports engine) c.args.told.pk c.args.told.event given.0 (number_after c.args.agenda.now) c.args.world.now.seats.entries c.step_and_send.new.world.seats.entries given.1.step seated)
          (in_turn (updates_of c.args.told.pk given.0.finalized) m came.0 u turn);
    })
    (λ h skips. record {
      took = took;
      skips = subst (λ us. SkipsAmong (record { engine = c.args.plan.now.engine; peer_of = g.D.EngineDefinition.peer_of c.args.plan.now.engine; journal = g.D.EngineDefinition.journal c.args.plan.now.engine; reports = g.D.EngineDefinition.reports c.args.plan.now.engine; channels = g.D.EngineDefinition.carried_on c.args.plan.now.engine; max_size = g.D.EngineDefinition.carried_size c.args.plan.now.engine; height = g.D.State.ProcessedHeight.height_of; shown = g.D.State.ProcessedHeight.bytes_of; participants = c.args.plan.now.participants; crashes = c.args.plan.now.crashes; link = c.args.plan.now.link; checks = c.args.plan.now.finalization_property; check_name = λ x. (goal.FinalizationProperty-dyn g (x.vtable, x.value)).finalization_name x.value; complaint = λ x. (goal.FinalizationProperty-dyn g (x.vtable, x.value)).finalization_complaint x.value; properties = c.args.plan.now.property; property_name = λ x. (goal.Property-dyn g (x.vtable, x.value)).property_name x.value; objection = λ x. (goal.Property-dyn g (x.vtable, x.value)).property_complaint x.value; condition = c.args.plan.now.exit_condition; condition_name = λ x. (goal.ExitCondition-dyn g (x.vtable, x.value)).exit_name x.value; polls = λ x. (goal.ExitCondition-dyn g (x.vtable, x.value)).exit_polls x.value; verdict = λ x. (goal.ExitCondition-dyn g (x.vtable, x.value)).exit_verdict x.value; required = c.args.plan.now.required_finalizations; max_events = c.args.plan.now.max_events; timeout = c.args.plan.now.timeout }) (Finds (record { engine = c.args.plan.now.engine; peer_of = g.D.EngineDefinition.peer_of c.args.plan.now.engine; journal = g.D.EngineDefinition.journal c.args.plan.now.engine; reports = g.D.EngineDefinition.reports c.args.plan.now.engine; channels = g.D.EngineDefinition.carried_on c.args.plan.now.engine; max_size = g.D.EngineDefinition.carried_size c.args.plan.now.engine; height = g.D.State.ProcessedHeight.height_of; shown = g.D.State.ProcessedHeight.bytes_of; participants = c.args.plan.now.participants; crashes = c.args.plan.now.crashes; link = c.args.plan.now.link; checks = c.args.plan.now.finalization_property; check_name = λ x. (goal.FinalizationProperty-dyn g (x.vtable, x.value)).finalization_name x.value; complaint = λ x. (goal.FinalizationProperty-dyn g (x.vtable, x.value)).finalization_complaint x.value; properties = c.args.plan.now.property; property_name = λ x. (goal.Property-dyn g (x.vtable, x.value)).property_name x.value; objection = λ x. (goal.Property-dyn g (x.vtable, x.value)).property_complaint x.value; condition = c.args.plan.now.exit_condition; condition_name = λ x. (goal.ExitCondition-dyn g (x.vtable, x.value)).exit_name x.value; polls = λ x. (goal.ExitCondition-dyn g (x.vtable, x.value)).exit_polls x.value; verdict = λ x. (goal.ExitCondition-dyn g (x.vtable, x.value)).exit_verdict x.value; required = c.args.plan.now.required_finalizations; max_events = c.args.plan.now.max_events; timeout = c.args.plan.now.timeout }) c.args.watch.now) us c.step_and_send.new.agenda c.step_and_send.new.world h) given.2 skips;
    }))
    c.take_reports.result c.take_reports.ensures.comes

pub returns-in-Ok-clause-answered : goal.returns-in-Ok-clause-answered
returns-in-Ok-clause-answered g c =
    let engine = c.args.plan.now.engine in
    let given = c.in-Ok.ensures in
    let after : (m : List FinalizationUpdate) (v : List StateView) → Sees (record { engine = c.args.plan.now.engine; peer_of = g.D.EngineDefinition.peer_of c.args.plan.now.engine; journal = g.D.EngineDefinition.journal c.args.plan.now.engine; reports = g.D.EngineDefinition.reports c.args.plan.now.engine; channels = g.D.EngineDefinition.carried_on c.args.plan.now.engine; max_size = g.D.EngineDefinition.carried_size c.args.plan.now.engine; height = g.D.State.ProcessedHeight.height_of; shown = g.D.State.ProcessedHeight.bytes_of; participants = c.args.plan.now.participants; crashes = c.args.plan.now.crashes; link = c.args.plan.now.link; checks = c.args.plan.now.finalization_property; check_name = λ x. (goal.FinalizationProperty-dyn g (x.vtable, x.value)).finalization_name x.value; complaint = λ x. (goal.FinalizationProperty-dyn g (x.vtable, x.value)).finalization_complaint x.value; properties = c.args.plan.now.property; property_name = λ x. (goal.Property-dyn g (x.vtable, x.value)).property_name x.value; objection = λ x. (goal.Property-dyn g (x.vtable, x.value)).property_complaint x.value; condition = c.args.plan.now.exit_condition; condition_name = λ x. (goal.ExitCondition-dyn g (x.vtable, x.value)).exit_name x.value; polls = λ x. (goal.ExitCondition-dyn g (x.vtable, x.value)).exit_polls x.value; verdict = λ x. (goal.ExitCondition-dyn g (x.vtable, x.value)).exit_verdict x.value; required = c.args.plan.now.required_finalizations; max_events = c.args.plan.now.max_events; timeout = c.args.plan.now.timeout }) (Finds (record { engine = c.args.plan.now.engine; peer_of = g.D.EngineDefinition.peer_of c.args.plan.now.engine; journal = g.D.EngineDefinition.journal c.args.plan.now.engine; reports = g.D.EngineDefinition.reports c.args.plan.now.engine; channels = g.D.EngineDefinition.carried_on c.args.plan.now.engine; max_size = g.D.EngineDefinition.carried_size c.args.plan.now.engine; height = g.D.State.ProcessedHeight.height_of; shown = g.D.State.ProcessedHeight.bytes_of; participants = c.args.plan.now.participants; crashes = c.args.plan.now.crashes; link = c.args.plan.now.link; checks = c.args.plan.now.finalization_property; check_name = λ x. (goal.FinalizationProperty-dyn g (x.vtable, x.value)).finalization_name x.value; complaint = λ x. (goal.FinalizationProperty-dyn g (x.vtable, x.value)).finalization_complaint x.value; properties = c.args.plan.now.property; property_name = λ x. (goal.Property-dyn g (x.vtable, x.value)).property_name x.value; objection = λ x. (goal.Property-dyn g (x.vtable, x.value)).property_complaint x.value; condition = c.args.plan.now.exit_condition; condition_name = λ x. (goal.ExitCondition-dyn g (x.vtable, x.value)).exit_name x.value; polls = λ x. (goal.ExitCondition-dyn g (x.vtable, x.value)).exit_polls x.value; verdict = λ x. (goal.ExitCondition-dyn g (x.vtable, x.value)).exit_verdict x.value; required = c.args.plan.now.required_finalizations; max_events = c.args.plan.now.max_events; timeout = c.args.plan.now.timeout }) c.args.watch.now) c.step_and_send.new.agenda c.step_and_send.new.world c.in-Ok.updates.items m v → SeesAfter (record { engine = c.args.plan.now.engine; peer_of = g.D.EngineDefinition.peer_of c.args.plan.now.engine; journal = g.D.EngineDefinition.journal c.args.plan.now.engine; reports = g.D.EngineDefinition.reports c.args.plan.now.engine; channels = g.D.EngineDefinition.carried_on c.args.plan.now.engine; max_size = g.D.EngineDefinition.carried_size c.args.plan.now.engine; height = g.D.State.ProcessedHeight.height_of; shown = g.D.State.ProcessedHeight.bytes_of; participants = c.args.plan.now.participants; crashes = c.args.plan.now.crashes; link = c.args.plan.now.link; checks = c.args.plan.now.finalization_property; check_name = λ x. (goal.FinalizationProperty-dyn g (x.vtable, x.value)).finalization_name x.value; complaint = λ x. (goal.FinalizationProperty-dyn g (x.vtable, x.value)).finalization_complaint x.value; properties = c.args.plan.now.property; property_name = λ x. (goal.Property-dyn g (x.vtable, x.value)).property_name x.value; objection = λ x. (goal.Property-dyn g (x.vtable, x.value)).property_complaint x.value; condition = c.args.plan.now.exit_condition; condition_name = λ x. (goal.ExitCondition-dyn g (x.vtable, x.value)).exit_name x.value; polls = λ x. (goal.ExitCondition-dyn g (x.vtable, x.value)).exit_polls x.value; verdict = λ x. (goal.ExitCondition-dyn g (x.vtable, x.value)).exit_verdict x.value; required = c.args.plan.now.required_finalizations; max_events = c.args.plan.now.max_events; timeout = c.args.plan.now.timeout }) (Finds (record { engine = c.args.plan.now.engine; peer_of = g.D.EngineDefinition.peer_of c.args.plan.now.engine; journal = g.D.EngineDefinition.journal c.args.plan.now.engine; reports = g.D.EngineDefinition.reports c.args.plan.now.engine; channels = g.D.EngineDefinition.carried_on c.args.plan.now.engine; max_size = g.D.EngineDefinition.carried_size c.args.plan.now.engine; height = g.D.State.ProcessedHeight.height_of; shown = g.D.State.ProcessedHeight.bytes_of; participants = c.args.plan.now.participants; crashes = c.args.plan.now.crashes; link = c.args.plan.now.link; checks = c.args.plan.now.finalization_property; check_name = λ x. (goal.FinalizationProperty-dyn g (x.vtable, x.value)).finalization_name x.value; complaint = λ x. (goal.FinalizationProperty-dyn g (x.vtable, x.value)).finalization_complaint x.value; properties = c.args.plan.now.property; property_name = λ x. (goal.Property-dyn g (x.vtable, x.value)).property_name x.value; objection = λ x. (goal.Property-dyn g (x.vtable, x.value)).property_complaint x.value; condition = c.args.plan.now.exit_condition; condition_name = λ x. (goal.ExitCondition-dyn g (x.vtable, x.value)).exit_name x.value; polls = λ x. (goal.ExitCondition-dyn g (x.vtable, x.value)).exit_polls x.value; verdict = λ x. (goal.ExitCondition-dyn g (x.vtable, x.value)).exit_verdict x.value; required = c.args.plan.now.required_finalizations; max_events = c.args.plan.now.max_events; timeout = c.args.plan.now.timeout }) c.args.watch.now) (Some (c.args.told.pk, c.args.told.birth, c.args.told.event)) c.args.agenda.now c.args.world.now m v = λ m v sees. record {
      took = record {
        pk = c.args.told.pk;
        given_birth = c.args.told.birth;
        event = c.args.told.event;
        tells = refl;
        birth = c.in-Some.birth;
        runs = sym c.addressed.ensures ∙ c.in-Some.is;
        out = given.0;
        given = c.step_and_send.new.agenda;
        mid = c.step_and_send.new.world;
        gives = given.1;
      };
      sees = subst (λ us. Sees (record { engine = c.args.plan.now.engine; peer_of = g.D.EngineDefinition.peer_of c.args.plan.now.engine; journal = g.D.EngineDefinition.journal c.args.plan.now.engine; reports = g.D.EngineDefinition.reports c.args.plan.now.engine; channels = g.D.EngineDefinition.carried_on c.args.plan.now.engine; max_size = g.D.EngineDefinition.carried_size c.args.plan.now.engine; height = g.D.State.ProcessedHeight.height_of; shown = g.D.State.ProcessedHeight.bytes_of; participants = c.args.plan.now.participants; crashes = c.args.plan.now.crashes; link = c.args.plan.now.link; checks = c.args.plan.now.finalization_property; check_name = λ x. (goal.FinalizationProperty-dyn g (x.vtable, x.value)).finalization_name x.value; complaint = λ x. (goal.FinalizationProperty-dyn g (x.vtable, x.value)).finalization_complaint x.value; properties = c.args.plan.now.property; property_name = λ x. (goal.Property-dyn g (x.vtable, x.value)).property_name x.value; objection = λ x. (goal.Property-dyn g (x.vtable, x.value)).property_complaint x.value; condition = c.args.plan.now.exit_condition; condition_name = λ x. (goal.ExitCondition-dyn g (x.vtable, x.value)).exit_name x.value; polls = λ x. (goal.ExitCondition-dyn g (x.vtable, x.value)).exit_polls x.value; verdict = λ x. (goal.ExitCondition-dyn g (x.vtable, x.value)).exit_verdict x.value; required = c.args.plan.now.required_finalizations; max_events = c.args.plan.now.max_events; timeout = c.args.plan.now.timeout }) (Finds (record { engine = c.args.plan.now.engine; peer_of = g.D.EngineDefinition.peer_of c.args.plan.now.engine; journal = g.D.EngineDefinition.journal c.args.plan.now.engine; reports = g.D.EngineDefinition.reports c.args.plan.now.engine; channels = g.D.EngineDefinition.carried_on c.args.plan.now.engine; max_size = g.D.EngineDefinition.carried_size c.args.plan.now.engine; height = g.D.State.ProcessedHeight.height_of; shown = g.D.State.ProcessedHeight.bytes_of; participants = c.args.plan.now.participants; crashes = c.args.plan.now.crashes; link = c.args.plan.now.link; checks = c.args.plan.now.finalization_property; check_name = λ x. (goal.FinalizationProperty-dyn g (x.vtable, x.value)).finalization_name x.value; complaint = λ x. (goal.FinalizationProperty-dyn g (x.vtable, x.value)).finalization_complaint x.value; properties = c.args.plan.now.property; property_name = λ x. (goal.Property-dyn g (x.vtable, x.value)).property_name x.value; objection = λ x. (goal.Property-dyn g (x.vtable, x.value)).property_complaint x.value; condition = c.args.plan.now.exit_condition; condition_name = λ x. (goal.ExitCondition-dyn g (x.vtable, x.value)).exit_name x.value; polls = λ x. (goal.ExitCondition-dyn g (x.vtable, x.value)).exit_polls x.value; verdict = λ x. (goal.ExitCondition-dyn g (x.vtable, x.value)).exit_verdict x.value; required = c.args.plan.now.required_finalizations; max_events = c.args.plan.now.max_events; timeout = c.args.plan.now.timeout }) c.args.watch.now) c.step_and_send.new.agenda c.step_and_send.new.world us m v) given.2 sees;
    } in
    if_answered_wider (record { engine = c.args.plan.now.engine; peer_of = g.D.EngineDefinition.peer_of c.args.plan.now.engine; journal = g.D.EngineDefinition.journal c.args.plan.now.engine; reports = g.D.EngineDefinition.reports c.args.plan.now.engine; channels = g.D.EngineDefinition.carried_on c.args.plan.now.engine; max_size = g.D.EngineDefinition.carried_size c.args.plan.now.engine; height = g.D.State.ProcessedHeight.height_of; shown = g.D.State.ProcessedHeight.bytes_of; participants = c.args.plan.now.participants; crashes = c.args.plan.now.crashes; link = c.args.plan.now.link; checks = c.args.plan.now.finalization_property; check_name = λ x. (goal.FinalizationProperty-dyn g (x.vtable, x.value)).finalization_name x.value; complaint = λ x. (goal.FinalizationProperty-dyn g (x.vtable, x.value)).finalization_complaint x.value; properties = c.args.plan.now.property; property_name = λ x. (goal.Property-dyn g (x.vtable, x.value)).property_name x.value; objection = λ x. (goal.Property-dyn g (x.vtable, x.value)).property_complaint x.value; condition = c.args.plan.now.exit_condition; condition_name = λ x. (goal.ExitCondition-dyn g (x.vtable, x.value)).exit_name x.value; polls = λ x. (goal.ExitCondition-dyn g (x.vtable, x.value)).exit_polls x.value; verdict = λ x. (goal.ExitCondition-dyn g (x.vtable, x.value)).exit_verdict x.value; required = c.args.plan.now.required_finalizations; max_events = c.args.plan.now.max_events; timeout = c.args.plan.now.timeout }) _ _ (λ m v. ⊥) _ _ (λ m v. ⊥)
    c.args.watch.now c.take_reports.result after
    (λ m v n is. (inr (after m v is.0), is.1 ∙ ap (λ e. target_at c.args.plan.now.participants c.args.plan.now.crashes c.args.watch.now e.delayed_started m) given.1.exercise))
    (λ m v never. absurd never) c.take_reports.ensures.answered

pub returns-in-Ok-clause-started : goal.returns-in-Ok-clause-started
returns-in-Ok-clause-started g c =
    let given = c.in-Ok.ensures in
    if_ok_with c.take_reports.result
    (λ grown o is.
    started_turns c.args.plan.now.participants c.args.plan.now.crashes c.args.watch.now c.take_reports.new.watch c.in-Ok.updates.items c.args.world.now.exercise.delayed_started c.step_and_send.new.world.exercise.delayed_started c.take_reports.new.world.exercise.delayed_started o
    grown (ap (λ e. e.delayed_started) given.1.exercise) is)
    c.take_reports.ensures.updates c.take_reports.ensures.started

pub returns-in_default-clause-started : goal.returns-in_default-clause-started
returns-in_default-clause-started g c = started_rests c.args.plan.now.participants c.args.plan.now.crashes c.args.watch.now c.args.watch.now c.args.world.now.exercise.delayed_started c.args.world.now.exercise.delayed_started None refl refl

pub returns-in-Ok-clause-seen : goal.returns-in-Ok-clause-seen
returns-in-Ok-clause-seen g c =
    let engine = c.args.plan.now.engine in
    let given = c.in-Ok.ensures in
    let after : (m : List FinalizationUpdate) (v : List StateView) → Sees (record { engine = c.args.plan.now.engine; peer_of = g.D.EngineDefinition.peer_of c.args.plan.now.engine; journal = g.D.EngineDefinition.journal c.args.plan.now.engine; reports = g.D.EngineDefinition.reports c.args.plan.now.engine; channels = g.D.EngineDefinition.carried_on c.args.plan.now.engine; max_size = g.D.EngineDefinition.carried_size c.args.plan.now.engine; height = g.D.State.ProcessedHeight.height_of; shown = g.D.State.ProcessedHeight.bytes_of; participants = c.args.plan.now.participants; crashes = c.args.plan.now.crashes; link = c.args.plan.now.link; checks = c.args.plan.now.finalization_property; check_name = λ x. (goal.FinalizationProperty-dyn g (x.vtable, x.value)).finalization_name x.value; complaint = λ x. (goal.FinalizationProperty-dyn g (x.vtable, x.value)).finalization_complaint x.value; properties = c.args.plan.now.property; property_name = λ x. (goal.Property-dyn g (x.vtable, x.value)).property_name x.value; objection = λ x. (goal.Property-dyn g (x.vtable, x.value)).property_complaint x.value; condition = c.args.plan.now.exit_condition; condition_name = λ x. (goal.ExitCondition-dyn g (x.vtable, x.value)).exit_name x.value; polls = λ x. (goal.ExitCondition-dyn g (x.vtable, x.value)).exit_polls x.value; verdict = λ x. (goal.ExitCondition-dyn g (x.vtable, x.value)).exit_verdict x.value; required = c.args.plan.now.required_finalizations; max_events = c.args.plan.now.max_events; timeout = c.args.plan.now.timeout }) (Finds (record { engine = c.args.plan.now.engine; peer_of = g.D.EngineDefinition.peer_of c.args.plan.now.engine; journal = g.D.EngineDefinition.journal c.args.plan.now.engine; reports = g.D.EngineDefinition.reports c.args.plan.now.engine; channels = g.D.EngineDefinition.carried_on c.args.plan.now.engine; max_size = g.D.EngineDefinition.carried_size c.args.plan.now.engine; height = g.D.State.ProcessedHeight.height_of; shown = g.D.State.ProcessedHeight.bytes_of; participants = c.args.plan.now.participants; crashes = c.args.plan.now.crashes; link = c.args.plan.now.link; checks = c.args.plan.now.finalization_property; check_name = λ x. (goal.FinalizationProperty-dyn g (x.vtable, x.value)).finalization_name x.value; complaint = λ x. (goal.FinalizationProperty-dyn g (x.vtable, x.value)).finalization_complaint x.value; properties = c.args.plan.now.property; property_name = λ x. (goal.Property-dyn g (x.vtable, x.value)).property_name x.value; objection = λ x. (goal.Property-dyn g (x.vtable, x.value)).property_complaint x.value; condition = c.args.plan.now.exit_condition; condition_name = λ x. (goal.ExitCondition-dyn g (x.vtable, x.value)).exit_name x.value; polls = λ x. (goal.ExitCondition-dyn g (x.vtable, x.value)).exit_polls x.value; verdict = λ x. (goal.ExitCondition-dyn g (x.vtable, x.value)).exit_verdict x.value; required = c.args.plan.now.required_finalizations; max_events = c.args.plan.now.max_events; timeout = c.args.plan.now.timeout }) c.args.watch.now) c.step_and_send.new.agenda c.step_and_send.new.world c.in-Ok.updates.items m v → SeesAfter (record { engine = c.args.plan.now.engine; peer_of = g.D.EngineDefinition.peer_of c.args.plan.now.engine; journal = g.D.EngineDefinition.journal c.args.plan.now.engine; reports = g.D.EngineDefinition.reports c.args.plan.now.engine; channels = g.D.EngineDefinition.carried_on c.args.plan.now.engine; max_size = g.D.EngineDefinition.carried_size c.args.plan.now.engine; height = g.D.State.ProcessedHeight.height_of; shown = g.D.State.ProcessedHeight.bytes_of; participants = c.args.plan.now.participants; crashes = c.args.plan.now.crashes; link = c.args.plan.now.link; checks = c.args.plan.now.finalization_property; check_name = λ x. (goal.FinalizationProperty-dyn g (x.vtable, x.value)).finalization_name x.value; complaint = λ x. (goal.FinalizationProperty-dyn g (x.vtable, x.value)).finalization_complaint x.value; properties = c.args.plan.now.property; property_name = λ x. (goal.Property-dyn g (x.vtable, x.value)).property_name x.value; objection = λ x. (goal.Property-dyn g (x.vtable, x.value)).property_complaint x.value; condition = c.args.plan.now.exit_condition; condition_name = λ x. (goal.ExitCondition-dyn g (x.vtable, x.value)).exit_name x.value; polls = λ x. (goal.ExitCondition-dyn g (x.vtable, x.value)).exit_polls x.value; verdict = λ x. (goal.ExitCondition-dyn g (x.vtable, x.value)).exit_verdict x.value; required = c.args.plan.now.required_finalizations; max_events = c.args.plan.now.max_events; timeout = c.args.plan.now.timeout }) (Finds (record { engine = c.args.plan.now.engine; peer_of = g.D.EngineDefinition.peer_of c.args.plan.now.engine; journal = g.D.EngineDefinition.journal c.args.plan.now.engine; reports = g.D.EngineDefinition.reports c.args.plan.now.engine; channels = g.D.EngineDefinition.carried_on c.args.plan.now.engine; max_size = g.D.EngineDefinition.carried_size c.args.plan.now.engine; height = g.D.State.ProcessedHeight.height_of; shown = g.D.State.ProcessedHeight.bytes_of; participants = c.args.plan.now.participants; crashes = c.args.plan.now.crashes; link = c.args.plan.now.link; checks = c.args.plan.now.finalization_property; check_name = λ x. (goal.FinalizationProperty-dyn g (x.vtable, x.value)).finalization_name x.value; complaint = λ x. (goal.FinalizationProperty-dyn g (x.vtable, x.value)).finalization_complaint x.value; properties = c.args.plan.now.property; property_name = λ x. (goal.Property-dyn g (x.vtable, x.value)).property_name x.value; objection = λ x. (goal.Property-dyn g (x.vtable, x.value)).property_complaint x.value; condition = c.args.plan.now.exit_condition; condition_name = λ x. (goal.ExitCondition-dyn g (x.vtable, x.value)).exit_name x.value; polls = λ x. (goal.ExitCondition-dyn g (x.vtable, x.value)).exit_polls x.value; verdict = λ x. (goal.ExitCondition-dyn g (x.vtable, x.value)).exit_verdict x.value; required = c.args.plan.now.required_finalizations; max_events = c.args.plan.now.max_events; timeout = c.args.plan.now.timeout }) c.args.watch.now) (Some (c.args.told.pk, c.args.told.birth, c.args.told.event)) c.args.agenda.now c.args.world.now m v = λ m v sees. record {
      took = record {
        pk = c.args.told.pk;
        given_birth = c.args.told.birth;
        event = c.args.told.event;
        tells = refl;
        birth = c.in-Some.birth;
        runs = sym c.addressed.ensures ∙ c.in-Some.is;
        out = given.0;
        given = c.step_and_send.new.agenda;
        mid = c.step_and_send.new.world;
        gives = given.1;
      };
      sees = subst (λ us. Sees (record { engine = c.args.plan.now.engine; peer_of = g.D.EngineDefinition.peer_of c.args.plan.now.engine; journal = g.D.EngineDefinition.journal c.args.plan.now.engine; reports = g.D.EngineDefinition.reports c.args.plan.now.engine; channels = g.D.EngineDefinition.carried_on c.args.plan.now.engine; max_size = g.D.EngineDefinition.carried_size c.args.plan.now.engine; height = g.D.State.ProcessedHeight.height_of; shown = g.D.State.ProcessedHeight.bytes_of; participants = c.args.plan.now.participants; crashes = c.args.plan.now.crashes; link = c.args.plan.now.link; checks = c.args.plan.now.finalization_property; check_name = λ x. (goal.FinalizationProperty-dyn g (x.vtable, x.value)).finalization_name x.value; complaint = λ x. (goal.FinalizationProperty-dyn g (x.vtable, x.value)).finalization_complaint x.value; properties = c.args.plan.now.property; property_name = λ x. (goal.Property-dyn g (x.vtable, x.value)).property_name x.value; objection = λ x. (goal.Property-dyn g (x.vtable, x.value)).property_complaint x.value; condition = c.args.plan.now.exit_condition; condition_name = λ x. (goal.ExitCondition-dyn g (x.vtable, x.value)).exit_name x.value; polls = λ x. (goal.ExitCondition-dyn g (x.vtable, x.value)).exit_polls x.value; verdict = λ x. (goal.ExitCondition-dyn g (x.vtable, x.value)).exit_verdict x.value; required = c.args.plan.now.required_finalizations; max_events = c.args.plan.now.max_events; timeout = c.args.plan.now.timeout }) (Finds (record { engine = c.args.plan.now.engine; peer_of = g.D.EngineDefinition.peer_of c.args.plan.now.engine; journal = g.D.EngineDefinition.journal c.args.plan.now.engine; reports = g.D.EngineDefinition.reports c.args.plan.now.engine; channels = g.D.EngineDefinition.carried_on c.args.plan.now.engine; max_size = g.D.EngineDefinition.carried_size c.args.plan.now.engine; height = g.D.State.ProcessedHeight.height_of; shown = g.D.State.ProcessedHeight.bytes_of; participants = c.args.plan.now.participants; crashes = c.args.plan.now.crashes; link = c.args.plan.now.link; checks = c.args.plan.now.finalization_property; check_name = λ x. (goal.FinalizationProperty-dyn g (x.vtable, x.value)).finalization_name x.value; complaint = λ x. (goal.FinalizationProperty-dyn g (x.vtable, x.value)).finalization_complaint x.value; properties = c.args.plan.now.property; property_name = λ x. (goal.Property-dyn g (x.vtable, x.value)).property_name x.value; objection = λ x. (goal.Property-dyn g (x.vtable, x.value)).property_complaint x.value; condition = c.args.plan.now.exit_condition; condition_name = λ x. (goal.ExitCondition-dyn g (x.vtable, x.value)).exit_name x.value; polls = λ x. (goal.ExitCondition-dyn g (x.vtable, x.value)).exit_polls x.value; verdict = λ x. (goal.ExitCondition-dyn g (x.vtable, x.value)).exit_verdict x.value; required = c.args.plan.now.required_finalizations; max_events = c.args.plan.now.max_events; timeout = c.args.plan.now.timeout }) c.args.watch.now) c.step_and_send.new.agenda c.step_and_send.new.world us m v) given.2 sees;
    } in
    if_ok_some_map c.take_reports.result (λ r met. (met.0, met.1, after met.0 r.states.items met.2)) c.take_reports.ensures.seen

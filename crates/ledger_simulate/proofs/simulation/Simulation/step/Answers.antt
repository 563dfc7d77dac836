use Rattle.std.proofs.Common.{Err, ap, ◌∙◌, sym}
use Rattle.ledger_simulate.specs.Stepping.{course_of}
use Rattle.ledger_simulate.specs.Stops.{early_fault}
use Rattle.ledger_simulate.proofs.Whole.{fails_early, fails_late, same_fault}
use Rattle.ledger_simulate.proofs.simulation.Simulation.step.Goals as goal

pub returns-clause-on : goal.returns-clause-on
returns-clause-on g c = λ next h.
    let p = c.advance.ensures.on next h in (
      record {
        due = sym (c.early.ensures.fault ∙ ap (λ k. early_fault k c.args.self.handled c.args.self.plan.now.max_events c.args.self.plan.now.timeout) c.first.ensures) ∙ c.in-None.is;
        below = c.early.ensures.below c.in-None.is;
        proceeds = p.0;
        unmet = c.advance.ensures.unmet next h;
        handled = p.1;
        seed = p.2;
        started = c.advance.ensures.started next h;
      },
      p.3,
    )

pub returns-clause-done : goal.returns-clause-done
returns-clause-done g c = λ r h.
    let p = c.advance.ensures.done r h in
    let d = c.advance.ensures.delayed r h in
    let q = c.advance.ensures.counts r h in
    record {
      due = sym (c.early.ensures.fault ∙ ap (λ k. early_fault k c.args.self.handled c.args.self.plan.now.max_events c.args.self.plan.now.timeout) c.first.ensures) ∙ c.in-None.is;
      more = q.0;
      end = q.1;
      updates = q.2;
      tally = q.3;
      started = q.4;
      count = d.0;
      reached = d.1;
      started_before = d.2;
      handled = p.1;
      seed = p.2;
      limit = p.3;
      timeout = p.4;
      succeeds = c.advance.ensures.success r h;
      reports = c.advance.ensures.reports r h;
    }

pub returns-clause-fails : goal.returns-clause-fails
returns-clause-fails g c = λ e h.
    let p = c.advance.ensures.late e h in
    fails_late (record { engine = c.args.self.plan.now.engine; peer_of = g.D.EngineDefinition.peer_of c.args.self.plan.now.engine; journal = g.D.EngineDefinition.journal c.args.self.plan.now.engine; reports = g.D.EngineDefinition.reports c.args.self.plan.now.engine; channels = g.D.EngineDefinition.carried_on c.args.self.plan.now.engine; max_size = g.D.EngineDefinition.carried_size c.args.self.plan.now.engine; height = g.D.State.ProcessedHeight.height_of; shown = g.D.State.ProcessedHeight.bytes_of; participants = c.args.self.plan.now.participants; crashes = c.args.self.plan.now.crashes; link = c.args.self.plan.now.link; checks = c.args.self.plan.now.finalization_property; check_name = λ x. (goal.FinalizationProperty-dyn g (x.vtable, x.value)).finalization_name x.value; complaint = λ x. (goal.FinalizationProperty-dyn g (x.vtable, x.value)).finalization_complaint x.value; properties = c.args.self.plan.now.property; property_name = λ x. (goal.Property-dyn g (x.vtable, x.value)).property_name x.value; objection = λ x. (goal.Property-dyn g (x.vtable, x.value)).property_complaint x.value; condition = c.args.self.plan.now.exit_condition; condition_name = λ x. (goal.ExitCondition-dyn g (x.vtable, x.value)).exit_name x.value; polls = λ x. (goal.ExitCondition-dyn g (x.vtable, x.value)).exit_polls x.value; verdict = λ x. (goal.ExitCondition-dyn g (x.vtable, x.value)).exit_verdict x.value; required = c.args.self.plan.now.required_finalizations; max_events = c.args.self.plan.now.max_events; timeout = c.args.self.plan.now.timeout }) (course_of c.args.self) e (sym (c.early.ensures.fault ∙ ap (λ k. early_fault k c.args.self.handled c.args.self.plan.now.max_events c.args.self.plan.now.timeout) c.first.ensures) ∙ c.in-None.is) p.2 p.3 p.4
    (record { late = p.0; handled = p.1; comes = c.advance.ensures.comes e h; answered = c.advance.ensures.answered e h })

pub returns-in-Some-clause-fails : goal.returns-in-Some-clause-fails
returns-in-Some-clause-fails g c = λ e h.
    fails_early (record { engine = c.args.self.plan.now.engine; peer_of = g.D.EngineDefinition.peer_of c.args.self.plan.now.engine; journal = g.D.EngineDefinition.journal c.args.self.plan.now.engine; reports = g.D.EngineDefinition.reports c.args.self.plan.now.engine; channels = g.D.EngineDefinition.carried_on c.args.self.plan.now.engine; max_size = g.D.EngineDefinition.carried_size c.args.self.plan.now.engine; height = g.D.State.ProcessedHeight.height_of; shown = g.D.State.ProcessedHeight.bytes_of; participants = c.args.self.plan.now.participants; crashes = c.args.self.plan.now.crashes; link = c.args.self.plan.now.link; checks = c.args.self.plan.now.finalization_property; check_name = λ x. (goal.FinalizationProperty-dyn g (x.vtable, x.value)).finalization_name x.value; complaint = λ x. (goal.FinalizationProperty-dyn g (x.vtable, x.value)).finalization_complaint x.value; properties = c.args.self.plan.now.property; property_name = λ x. (goal.Property-dyn g (x.vtable, x.value)).property_name x.value; objection = λ x. (goal.Property-dyn g (x.vtable, x.value)).property_complaint x.value; condition = c.args.self.plan.now.exit_condition; condition_name = λ x. (goal.ExitCondition-dyn g (x.vtable, x.value)).exit_name x.value; polls = λ x. (goal.ExitCondition-dyn g (x.vtable, x.value)).exit_polls x.value; verdict = λ x. (goal.ExitCondition-dyn g (x.vtable, x.value)).exit_verdict x.value; required = c.args.self.plan.now.required_finalizations; max_events = c.args.self.plan.now.max_events; timeout = c.args.self.plan.now.timeout }) (course_of c.args.self) e c.in-Some.fault (sym (c.early.ensures.fault ∙ ap (λ k. early_fault k c.args.self.handled c.args.self.plan.now.max_events c.args.self.plan.now.timeout) c.first.ensures) ∙ c.in-Some.is) (same_fault _ e (ap Err (sym c.end_by.ensures) ∙ h))

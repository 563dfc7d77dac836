use Rattle.std.proofs.Common.{◌≡◌, refl, ◌∷◌, []}
use Rattle.ledger_simulate.proofs.Causing.{stop_asked, stop_forks}
use Rattle.simulate_parts.specs.Seats.{active_views}
use Rattle.ledger_simulate.proofs.Answering.{answered_complains}
use Rattle.ledger_simulate.proofs.reports.drain_report.Goals as goal

pub returns-in-Err-clause-comes : goal.returns-in-Err-clause-comes
returns-in-Err-clause-comes g c = stop_forks _ _ c.args.watch.now c.args.update c.in-Err.stop (refl, refl) c.in-Err.ensures.fork

pub returns-in-Err-check_now-clause-comes : goal.returns-in-Err-check_now-clause-comes
returns-in-Err-check_now-clause-comes g c = stop_asked _ _ c.args.watch.now c.in-Err-check_now.stop c.in-Err-check_now.ensures.asked

pub returns-in-Err-check_now-clause-answered : goal.returns-in-Err-check_now-clause-answered
returns-in-Err-check_now-clause-answered g c =
    answered_complains (record { engine = c.args.plan.now.engine; peer_of = g.D.EngineDefinition.peer_of c.args.plan.now.engine; journal = g.D.EngineDefinition.journal c.args.plan.now.engine; reports = g.D.EngineDefinition.reports c.args.plan.now.engine; channels = g.D.EngineDefinition.carried_on c.args.plan.now.engine; max_size = g.D.EngineDefinition.carried_size c.args.plan.now.engine; height = g.D.State.ProcessedHeight.height_of; shown = g.D.State.ProcessedHeight.bytes_of; participants = c.args.plan.now.participants; crashes = c.args.plan.now.crashes; link = c.args.plan.now.link; checks = c.args.plan.now.finalization_property; check_name = λ x. (goal.FinalizationProperty-dyn g (x.vtable, x.value)).finalization_name x.value; complaint = λ x. (goal.FinalizationProperty-dyn g (x.vtable, x.value)).finalization_complaint x.value; properties = c.args.plan.now.property; property_name = λ x. (goal.Property-dyn g (x.vtable, x.value)).property_name x.value; objection = λ x. (goal.Property-dyn g (x.vtable, x.value)).property_complaint x.value; condition = c.args.plan.now.exit_condition; condition_name = λ x. (goal.ExitCondition-dyn g (x.vtable, x.value)).exit_name x.value; polls = λ x. (goal.ExitCondition-dyn g (x.vtable, x.value)).exit_polls x.value; verdict = λ x. (goal.ExitCondition-dyn g (x.vtable, x.value)).exit_verdict x.value; required = c.args.plan.now.required_finalizations; max_events = c.args.plan.now.max_events; timeout = c.args.plan.now.timeout }) (λ m v. (m ≡ c.args.update ∷ []) × (v ≡ active_views g.D.State.ProcessedHeight.height_of g.D.State.ProcessedHeight.bytes_of c.args.world.now.seats.entries)) (λ m v n. ⊥) (λ m v. ⊥)
    c.args.watch.now (c.args.update ∷ []) (active_views g.D.State.ProcessedHeight.height_of g.D.State.ProcessedHeight.bytes_of c.args.world.now.seats.entries) c.in-Err-check_now.stop (refl, refl) c.in-Err-check_now.ensures.complains

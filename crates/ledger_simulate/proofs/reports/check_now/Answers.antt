use Rattle.std.proofs.Common.{◌∙◌}
use Rattle.simulate_parts.specs.Seats.{active_views}
use Rattle.ledger_simulate.proofs.Answering.{complaint_on}
use Rattle.ledger_simulate.proofs.reports.check_now.Goals as goal

pub returns-in-Err-check_finalizations-clause-complains : goal.returns-in-Err-check_finalizations-clause-complains
returns-in-Err-check_finalizations-clause-complains g c =
    complaint_on (λ x. (goal.FinalizationProperty-dyn g (x.vtable, x.value)).finalization_name x.value) (λ x. (goal.FinalizationProperty-dyn g (x.vtable, x.value)).finalization_complaint x.value) c.as_slice.result.now c.args.plan.now.finalization_property c.as_slice-2.result.now (active_views g.D.State.ProcessedHeight.height_of g.D.State.ProcessedHeight.bytes_of c.args.world.now.seats.entries)
    c.in-Err-check_finalizations.stop c.as_slice.ensures (c.as_slice-2.ensures.value ∙ c.in-Ok.ensures) c.in-Err-check_finalizations.ensures.complains

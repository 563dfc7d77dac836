use Rattle.std.proofs.Common.{◌∙◌}
use Rattle.transfer_cases.proofs.Uses.{planned_so}
use Rattle.transfer_cases.proofs.promised.planned.Goals as goal

pub returns : goal.returns
returns g c =
    planned_so c.in_ok-plan.plan c.first.result c.deref.result.now c.in_ok-settle.field-0.items c.first.ensures (c.deref.ensures.value ∙ c.in_ok-reads.ensures)
    c.in_ok-plan.ensures.plan c.in_ok-plan.ensures.order (c.in_ok-settle.ensures.batch _ c.in_ok-plan.ensures.plan)

use Rattle.std.proofs.Common.{◌∙◌}
use Rattle.std.proofs.lemmas.Result.{IfErr-weaker}
use Rattle.transfer_cases.proofs.Uses.{fails_so}
use Rattle.transfer_cases.proofs.promised.unaffordable.Goals as goal

pub returns : goal.returns
returns g c =
    IfErr-weaker c.settle.result _ _ (λ fault fails. fails_so c.in_ok-plan.plan c.first.result c.second.result c.deref.result.now fault c.first.ensures c.second.ensures
    (c.deref.ensures.value ∙ c.in_ok-reads.ensures) c.in_ok-plan.ensures.order (fails _ c.in_ok-plan.ensures.plan)) c.settle.ensures.offends

use Rattle.std.proofs.Common.{[], ◌∷◌, refl}
use Rattle.transfer_cases.proofs.Uses.{ends_so}
use Rattle.transfer_cases.proofs.promised.either_order.Goals as goal

pub returns-clause-alike : goal.returns-clause-alike
returns-clause-alike c =
    ends_so c.pay.result c.pay-2.result (λ t. t.first ∷ t.second ∷ t.third ∷ []) c.has_no_effects.result c.has_no_effects.ensures.none c.has_no_effects.ensures.any_order _ _ c.pay.ensures c.pay-2.ensures refl refl

use Rattle.std.proofs.Common.{List, subst, ◌∙◌}
use Rattle.ledger_transfers.specs.declared.change.Change.{Change}
use Rattle.ledger_transfers.specs.Orders.{HasNoEffects}
use Rattle.ledger_transfers.proofs.OrderLemmas.{ends_alike}
use Rattle.ledger_transfers.proofs.forecast.has_no_effects.Goals as goal

pub returns-clause-any_order : goal.returns-clause-any_order
returns-clause-any_order g c told at others congr order =
    let keys = g.met.K.Eq g.world.𝓛 g.world.𝓜 g.world.𝓡 ((λ s x. x), (λ x. x), (λ x. x), λ x. x) in
    let none = subst (λ (us : List (g.row.K.Denot × Change g.row.A-Effect.Denot)). HasNoEffects us) (c.deref.ensures.value ∙ c.in_ok-all.ensures) (c.are_without_effect.ensures.0 told) in
    ends_alike g.K.PartialEq.eq keys.laws g.A.PartialEq.eq g.A.Account.rules g.T.Transfer.changes_of at c.args.transfers.now others congr none order

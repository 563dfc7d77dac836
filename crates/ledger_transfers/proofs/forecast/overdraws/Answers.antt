use Rattle.std.proofs.Common.{◌<◌, List, subst, ◌∙◌}
use Rattle.ledger_transfers.specs.declared.change.Change.{Change}
use Rattle.ledger_transfers.specs.Touches.{deb}
use Rattle.ledger_transfers.proofs.OrderLemmas.{never_settled}
use Rattle.ledger_transfers.proofs.forecast.overdraws.Goals as goal

pub returns-clause-unsettled : goal.returns-clause-unsettled
returns-clause-unsettled g c told at more congr opens =
    let keys = g.met.K.Eq g.world.𝓛 g.world.𝓜 g.world.𝓡 ((λ s x. x), (λ x. x), (λ x. x), λ x. x) in
    let over = subst (λ (us : List (g.row.K.Denot × Change g.row.A-Effect.Denot)). c.args.balance < deb g.K.PartialEq.eq us c.args.key) (c.deref.ensures.value ∙ c.in_ok-all.ensures) (c.debits_exceed.ensures.0 told) in
    never_settled g.K.PartialEq.eq keys.laws g.A.PartialEq.eq g.A.Account.rules g.T.Transfer.changes_of at c.args.transfers.now more c.args.key c.args.balance congr over opens

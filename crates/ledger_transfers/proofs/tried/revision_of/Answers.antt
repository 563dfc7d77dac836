use Rattle.ledger_transfers.proofs.TriedLemmas.{effect_never, effect_change}
use Rattle.ledger_transfers.proofs.tried.revision_of.Goals as goal

pub returns-then-not-apply : goal.returns-then-not-apply
returns-then-not-apply g c taken held more amount =
    let eq = g.met.A.Eq g.world.𝓛 g.world.𝓜 g.world.𝓡 ((λ s x. x), (λ x. x), (λ x. x), λ x. x) in
    let laws = g.met.A.Account g.world.𝓛 g.world.𝓜 g.world.𝓡 ((λ s x. x), (λ x. x), (λ x. x), λ x. x) in
    effect_never g.A.PartialEq.eq eq.laws g.A.Account.rules laws.laws c.args.held.now c.args.change c.in-Some-effect.effect taken more c.in_ok-account.account held c.in_ok-account.ensures c.in-Some-effect.is c.if-not-apply.ensures

pub returns : goal.returns
returns g c taken held =
    let eq = g.met.A.Eq g.world.𝓛 g.world.𝓜 g.world.𝓡 ((λ s x. x), (λ x. x), (λ x. x), λ x. x) in
    let laws = g.met.A.Account g.world.𝓛 g.world.𝓜 g.world.𝓡 ((λ s x. x), (λ x. x), (λ x. x), λ x. x) in
    effect_change g.A.PartialEq.eq eq.laws g.A.Account.rules laws.laws c.args.held.now c.args.change c.in-Some-effect.effect taken c.in_ok-account.account c.apply.new.self c.in-Some.debits c.in-Some-checked_add.credits held c.in_ok-account.ensures
    c.in-Some-effect.is c.if-not-apply.ensures c.in-Some.ensures.1 c.in-Some-checked_add.ensures.1

use Rattle.std.proofs.Common.{◌≡◌, ◌+◌, ◌-◌, arith}
use Rattle.ledger_transfers.specs.Settling.{opened}
use Rattle.ledger_transfers.proofs.RegisterLemmas.{held_settles_to}
use Rattle.ledger_transfers.proofs.register.settle_held.Goals as goal

pub returns : goal.returns
returns g c total held settles =
    let eq = g.met.A.Eq g.world.𝓛 g.world.𝓜 g.world.𝓡 ((λ s x. x), (λ x. x), (λ x. x), λ x. x) in
    let laws = g.met.A.Account g.world.𝓛 g.world.𝓜 g.world.𝓡 ((λ s x. x), (λ x. x), (λ x. x), λ x. x) in
    let rules = g.A.Account.rules in
    let h = c.args.held.now in
    let o = opened rules h.read in
    let opens = c.opening_balance.ensures in
    let left = c.saturating_sub-left.ensures in
    let sum = c.saturating_add.ensures in
    let ds = held.debits in
    let cs = held.credits in
    let fits = settles.fits in
    let is : c.saturating_add.result ≡ (rules.balance_of o - h.sums.debits) + h.sums.credits = omega arith in
    held_settles_to g.A.PartialEq.eq eq.laws rules laws.laws h total c.in_ok-account.account c.set_balance.new.self c.saturating_add.result c.slot.result held settles c.in_ok-account.ensures is c.set_balance.ensures c.slot.ensures

use Rattle.std.proofs.Common.{◌≤◌, ◌+◌, arith, refl}
use Rattle.ledger_transfers.proofs.OrderLemmas.{deb_more, deb_part}
use Rattle.ledger_transfers.proofs.forecast.debits_exceed.Goals as goal

pub returns-in_default : goal.returns-in_default
returns-in_default g c =
    let i = c.loop-touch.touch-index in
    let more = deb_more g.K.PartialEq.eq c.args.all.now i c.touch-item.result c.args.key c.loop-touch-test.true c.touch-item.is in
    let part = deb_part g.K.PartialEq.eq c.args.all.now (i + 1) c.args.key in
    let less : c.debit_of.result ≤ c.loop-touch.left → ⊥ = c.in_default.ensures in
    (λ _. omega (arith, less, more, part, c.loop-touch.invariant, c.debit_of.ensures), λ _. refl)

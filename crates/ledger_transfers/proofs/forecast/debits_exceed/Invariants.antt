use Rattle.std.proofs.Common.{◌≡◌, ◌+◌, take}
use Rattle.ledger_transfers.specs.Touches.{deb}
use Rattle.ledger_transfers.proofs.forecast.debits_exceed.Given as goal

abbrev pub invariant-loop-touch : goal.invariant-loop-touch
invariant-loop-touch g l = l.left + deb g.K.PartialEq.eq (take l.touch-index l.all) l.key ≡ l.balance

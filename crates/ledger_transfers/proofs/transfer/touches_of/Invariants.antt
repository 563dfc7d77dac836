use Rattle.std.proofs.Common.{◌≡◌, take}
use Rattle.std.specs.List.{flat_map}
use Rattle.ledger_transfers.proofs.transfer.touches_of.Given as goal

abbrev pub invariant-loop-transfer : goal.invariant-loop-transfer
invariant-loop-transfer g l = l.all.items ≡ flat_map g.T.Transfer.changes_of (take l.transfer-index l.transfers)

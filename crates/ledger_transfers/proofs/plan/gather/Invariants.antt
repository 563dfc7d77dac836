use Rattle.std.proofs.Common.{◌≡◌, [], take}
use Rattle.std.specs.Map.{keys_of}
use Rattle.ledger_transfers.specs.Touches.{touches, IsPlanOf, IsWithinSums}
use Rattle.ledger_transfers.specs.Registering.{touched}
use Rattle.ledger_transfers.proofs.plan.gather.Given as goal

abbrev pub invariant-loop-transfer : goal.invariant-loop-transfer
invariant-loop-transfer g l = record {
  plan : IsPlanOf g.K.PartialEq.eq (touches g.T.Transfer.changes_of (take l.transfer-index l.transfers)) l.table.entries;
  order : keys_of l.table.entries ≡ touched g.K.PartialEq.eq [] (touches g.T.Transfer.changes_of (take l.transfer-index l.transfers));
  within : IsWithinSums g.K.PartialEq.eq (touches g.T.Transfer.changes_of (take l.transfer-index l.transfers));
}

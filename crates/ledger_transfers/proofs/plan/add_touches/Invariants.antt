use Rattle.std.proofs.Common.{◌≡◌, ◌++◌, [], List, take}
use Rattle.std.specs.Map.{keys_of}
use Rattle.ledger_transfers.specs.declared.change.Change.{Change}
use Rattle.ledger_transfers.specs.Touches.{IsPlanOf, IsWithinSums}
use Rattle.ledger_transfers.specs.Registering.{touched}
use Rattle.ledger_transfers.proofs.plan.add_touches.Given as goal

abbrev pub invariant-loop-key : goal.invariant-loop-key
invariant-loop-key g l = record {
  plan : (before : List (g.row.K.Denot × Change g.row.E.Denot)) → IsPlanOf g.K.PartialEq.eq before l.fn.table.entries → IsPlanOf g.K.PartialEq.eq (before ++ take l.key-index l.all) l.table.entries;
  order : (before : List (g.row.K.Denot × Change g.row.E.Denot)) → keys_of l.fn.table.entries ≡ touched g.K.PartialEq.eq [] before → keys_of l.table.entries ≡ touched g.K.PartialEq.eq [] (before ++ take l.key-index l.all);
  within : (before : List (g.row.K.Denot × Change g.row.E.Denot)) → IsPlanOf g.K.PartialEq.eq before l.fn.table.entries → IsWithinSums g.K.PartialEq.eq before → IsWithinSums g.K.PartialEq.eq (before ++ take l.key-index l.all);
}

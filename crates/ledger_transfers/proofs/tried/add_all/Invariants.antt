use Rattle.std.proofs.Common.{◌≡◌, ◌++◌, List, length, take}
use Rattle.std.specs.Map.{keys_of}
use Rattle.ledger_transfers.specs.declared.change.Change.{Change}
use Rattle.ledger_transfers.specs.Revising.{undone}
use Rattle.ledger_transfers.specs.Selecting.{AreReadBy, StandTogether}
use Rattle.ledger_transfers.specs.Trying.{AreSumsOf, IsPlaceOf}
use Rattle.ledger_transfers.proofs.tried.add_all.Given as goal

abbrev pub invariant-loop-key : goal.invariant-loop-key
invariant-loop-key g l = record {
  count : length l.log.items ≡ l.key-index;
  places : StandTogether (IsPlaceOf g.K.PartialEq.eq g.A.PartialEq.eq g.A.Account.rules (keys_of l.fn.table.entries)) l.all l.log.items;
  undo : undone l.log.items l.table.entries ≡ l.fn.table.entries;
  same_reads : AreReadBy g.K.PartialEq.eq l.fn.table.entries l.table.entries;
  sums : (us : List (g.row.K.Denot × Change g.row.A-Effect.Denot)) → AreSumsOf g.K.PartialEq.eq g.A.PartialEq.eq g.A.Account.rules l.fn.table.entries us
      → AreSumsOf g.K.PartialEq.eq g.A.PartialEq.eq g.A.Account.rules l.table.entries (us ++ take l.key-index l.all);
}

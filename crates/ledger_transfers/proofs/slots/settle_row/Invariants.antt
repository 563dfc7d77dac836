use Rattle.ledger_strategy.specs.Parts.{AreResultsFrom}
use Rattle.ledger_transfers.specs.Settling.{IsSlotAt}
use Rattle.ledger_transfers.proofs.slots.settle_row.Given as goal

abbrev pub invariant-loop-place : goal.invariant-loop-place
invariant-loop-place g l = AreResultsFrom (IsSlotAt g.A.PartialEq.eq g.A.Account.rules l.table.entries l.reads) l.from l.place l.slots.items

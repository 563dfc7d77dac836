use Rattle.ledger_strategy.specs.Parts.{AreResultsFrom}
use Rattle.ledger_transfers.specs.Registering.{IsKeySlot}
use Rattle.ledger_transfers.proofs.register.settle_row.Given as goal

abbrev pub invariant-loop-place : goal.invariant-loop-place
invariant-loop-place g l = AreResultsFrom (IsKeySlot g.K.PartialEq.eq g.A.PartialEq.eq g.A.Account.rules l.keys l.table.entries) l.from l.place l.slots.items

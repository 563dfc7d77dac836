use Rattle.std.proofs.Common.{ℕ, take}
use Rattle.std.specs.List.{All}
use Rattle.ledger_transfers.specs.declared.revise.Revision.{Revision}
use Rattle.ledger_transfers.specs.Trying.{SettlesAt}
use Rattle.ledger_transfers.proofs.tried.all_settle.Given as goal

abbrev pub invariant-loop-entry : goal.invariant-loop-entry
invariant-loop-entry g l = All (λ (b : ℕ × Revision g.row.A.Denot). SettlesAt g.A.PartialEq.eq g.A.Account.rules l.table.entries b.0) (take l.entry-index l.log)

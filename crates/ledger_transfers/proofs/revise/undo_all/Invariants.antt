use Rattle.std.proofs.Common.{◌≡◌, vec_len}
use Rattle.ledger_transfers.specs.Revising.{undone}
use Rattle.ledger_transfers.proofs.revise.undo_all.Given as goal

abbrev pub invariant-loop-entry : goal.invariant-loop-entry
invariant-loop-entry g l = undone l.log.items l.table.entries ≡ undone l.fn.log.items l.fn.table.entries

abbrev pub decreases-loop-entry : goal.decreases-loop-entry
decreases-loop-entry g l = vec_len l.log

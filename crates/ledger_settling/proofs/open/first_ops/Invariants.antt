use Rattle.std.proofs.Common.{◌≡◌, take}
use Rattle.ledger_settling.proofs.open.first_ops.Given as goal

abbrev pub invariant-loop-place : goal.invariant-loop-place
invariant-loop-place l = l.first.items ≡ take l.place l.log.ops

use Rattle.std.proofs.Common.{◌≡◌, [], ◌∷◌, ◌++◌, drop}
use Rattle.ledger_log.specs.View.{batch_floor}
use Rattle.ledger_compact.proofs.admission.floor_of_batch.Given as goal

abbrev pub invariant-loop-op : goal.invariant-loop-op
invariant-loop-op g l = batch_floor g.F.Family.floor_of (drop l.op-index l.others ++ l.last ∷ []) ≡ batch_floor g.F.Family.floor_of l.fn.ops

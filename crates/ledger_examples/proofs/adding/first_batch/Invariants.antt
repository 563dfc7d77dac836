use Rattle.std.proofs.Common.{◌≡◌, ◌+◌, drop}
use Rattle.ledger_examples.proofs.Batching.{batch_len}
use Rattle.ledger_examples.proofs.adding.first_batch.Given as goal

abbrev pub invariant-loop-op : goal.invariant-loop-op
invariant-loop-op g l = record {
  counted : l.count ≡ l.op-index;
  rest : l.op-index + batch_len g.F.Family.floor_of (drop l.op-index l.ops) ≡ batch_len g.F.Family.floor_of l.ops;
}

use Rattle.std.proofs.Common.{◌≡◌, ℕ, ◌+◌, List, take}
use Rattle.ledger_log.specs.Index.{end_at, end_after, last_write}
use Rattle.ledger_log.proofs.index.index_of.Given as goal

abbrev pub invariant-loop-op : goal.invariant-loop-op
invariant-loop-op g l = record {
  end : l.end ≡ l.fn.start + l.op-index;
  ends : (k : List ℕ) → end_at l.index k ≡ end_after l.fn.start 0 (last_write g.F.Family.write_of k (take l.op-index l.ops));
}

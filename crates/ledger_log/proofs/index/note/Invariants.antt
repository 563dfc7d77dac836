use Rattle.std.proofs.Common.{◌≡◌, ℕ, ◌+◌, List, take, All}
use Rattle.ledger_log.specs.View.{key_written}
use Rattle.ledger_log.specs.Index.{end_at, end_after, last_write, HasEntry}
use Rattle.ledger_log.proofs.index.note.Given as goal

abbrev pub invariant-loop-op : goal.invariant-loop-op
invariant-loop-op g l = record {
  end : l.end ≡ l.fn.start + l.op-index;
  ends : (k : List ℕ) → end_at l.index k ≡ end_after l.fn.start (end_at l.initial.index k) (last_write g.F.Family.write_of k (take l.op-index l.ops));
  room : All (λ op. HasEntry l.index (key_written (g.F.Family.write_of op))) l.ops;
}

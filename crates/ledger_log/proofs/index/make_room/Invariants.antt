use Rattle.std.proofs.Common.{◌≡◌, ℕ, List, take, All}
use Rattle.ledger_log.specs.View.{key_written}
use Rattle.ledger_log.specs.Index.{end_at, HasEntry}
use Rattle.ledger_log.proofs.index.make_room.Given as goal

abbrev pub invariant-loop-op : goal.invariant-loop-op
invariant-loop-op g l = record {
  same : (k : List ℕ) → end_at l.index k ≡ end_at l.initial.index k;
  room : All (λ op. HasEntry l.index (key_written (g.F.Family.write_of op))) (take l.op-index l.ops);
}

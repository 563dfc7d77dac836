use Rattle.std.proofs.Common.{◌≡◌, ◌+◌, [], ◌∷◌, ◌++◌, length, take, sym, ap, ◌∙◌, arith}
use Rattle.std.proofs.lemmas.List.{take_more, length-take-le}
use Rattle.ledger_log.specs.View.{key_written}
use Rattle.ledger_log.specs.Index.{end_at, end_where, end_after, last_write}
use Rattle.ledger_log.proofs.Indexing.{write_noted}
use Rattle.ledger_log.proofs.index.index_of.Goals as goal

pub loop-op-preserved : goal.loop-op-preserved
loop-op-preserved g c =
    let w = g.F.Family.write_of in
    let key = λ (op : g.row.F-Op.Denot). key_written (w op) in
    let i = c.loop-op.op-index in
    let ops = c.args.ops.now in
    let op = c.op-item.result in
    let start = c.args.start in
    let xs = take i ops in
    let more : take (i + 1) ops ≡ xs ++ op ∷ [] = take_more ops i op c.loop-op-test.true ∙ ap (λ z. xs ++ z ∷ []) (sym c.op-item.is) in
    let long : length xs ≡ i = length-take-le i ops (omega arith) in
    let at : c.loop-op.end + 1 ≡ start + length xs + 1 = omega (arith, c.loop-op.invariant.end) in
    record {
      end = omega (arith, c.loop-op.invariant.end);
      ends = λ k. c.in_ok-put_end.ensures k
          ∙ (ap (λ o. end_where o k (c.loop-op.end + 1) (end_at c.loop-op.index k)) c.written_key.ensures
          ∙ (ap (end_where (key op) k (c.loop-op.end + 1)) (c.loop-op.invariant.ends k)
          ∙ (write_noted w k start 0 (c.loop-op.end + 1) xs op at
          ∙ ap (λ z. end_after start 0 (last_write w k z)) (sym more))));
    }

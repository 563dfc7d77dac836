use Rattle.std.proofs.Common.{◌≡◌, ◌++◌, drop, Some}
use Rattle.ledger_compact.specs.View.{compact_of, fresh_log}
use Rattle.ledger_compact.specs.Batches.{after_batches, answers}
use Rattle.ledger_compact.proofs.agreement.run_both.Given as goal

abbrev pub invariant-loop-batch : goal.invariant-loop-batch
invariant-loop-batch g l = record {
  twins : compact_of g.H.Hasher.digest g.F.Op.Leaf.spelling l.full ≡ Some l.compact;
  rest : after_batches g.F.Family.floor_of l.full (drop l.batch-index l.batches) ≡ after_batches g.F.Family.floor_of (fresh_log g.F.Family.commit_of) l.batches;
  told : l.full_answers.items ++ answers g.F.Family.floor_of l.full (drop l.batch-index l.batches) ≡ answers g.F.Family.floor_of (fresh_log g.F.Family.commit_of) l.batches;
  same : l.compact_answers.items ≡ l.full_answers.items;
}

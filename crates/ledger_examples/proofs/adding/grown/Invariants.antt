use Rattle.std.proofs.Common.{◌≡◌, None, length}
use Rattle.ledger_log.specs.View.{floor_or_zero}
use Rattle.ledger_compact.specs.View.{with_batch}
use Rattle.ledger_examples.specs.Batches.{batches_of, first_refusal, with_batches}
use Rattle.ledger_examples.proofs.adding.grown.Given as goal

abbrev pub invariant-loop-rest : goal.invariant-loop-rest
invariant-loop-rest g l =
    let f = g.F.Family.floor_of in
    let appended = with_batch g.H.Hasher.digest g.F.Op.Leaf.spelling in
    record {
      taken : first_refusal f l.grown.size (floor_or_zero (f l.grown.last)) (batches_of f l.rest) ≡ None;
      grown : with_batches appended l.grown (batches_of f l.rest) ≡ with_batches appended l.fn.log (batches_of f l.fn.ops);
    }

abbrev pub decreases-loop-rest : goal.decreases-loop-rest
decreases-loop-rest g l = length l.rest

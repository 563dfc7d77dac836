use Rattle.std.proofs.Common.{◌≡◌, length}
use Rattle.ledger_examples.specs.Batches.{batches_of, first_refusal}
use Rattle.ledger_examples.proofs.adding.test_all.Given as goal

abbrev pub invariant-loop-rest : goal.invariant-loop-rest
invariant-loop-rest g l =
    first_refusal g.F.Family.floor_of l.size l.floor (batches_of g.F.Family.floor_of l.rest) ≡ first_refusal g.F.Family.floor_of l.fn.size l.fn.floor (batches_of g.F.Family.floor_of l.fn.ops)

abbrev pub decreases-loop-rest : goal.decreases-loop-rest
decreases-loop-rest g l = length l.rest

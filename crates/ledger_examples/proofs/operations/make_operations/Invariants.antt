use Rattle.std.proofs.Common.{◌≡◌}
use Rattle.std.specs.List.{flat_map, range_with_len}
use Rattle.ledger_examples.specs.Tests.{test_step}
use Rattle.ledger_examples.proofs.operations.make_operations.Given as goal

abbrev pub invariant-loop-number : goal.invariant-loop-number
invariant-loop-number g l = l.ops.items ≡ flat_map (test_step g.F.ExampleFamily.test_of g.F.ExampleFamily.test_commit_of l.seed l.start) (range_with_len 0 l.number)

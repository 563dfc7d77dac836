use Rattle.std.proofs.Common.{◌++◌, ap, ◌∙◌}
use Rattle.ledger_examples.specs.Tests.{test_step}
use Rattle.ledger_examples.proofs.Making.{steps_more}
use Rattle.ledger_examples.proofs.operations.make_operations.Goals as goal

pub loop-number-preserved : goal.loop-number-preserved
loop-number-preserved g c =
    let step = test_step g.F.ExampleFamily.test_of g.F.ExampleFamily.test_commit_of c.args.seed c.args.start in
    let n = c.loop-number.number in
    c.in_ok-add_test.ensures ∙ (ap (λ l. l ++ step n) c.loop-number.invariant ∙ steps_more step n)

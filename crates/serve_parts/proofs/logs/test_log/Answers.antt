use Rattle.std.proofs.Common.{◌≡◌, ◌∙◌, ap, sym, subst}
use Rattle.std.specs.Prelude.{IfOk}
use Rattle.ledger_log.specs.View.{LogView}
use Rattle.ledger_compact.specs.View.{with_ops}
use Rattle.ledger_examples.specs.Batches.{added_batches, with_batches}
use Rattle.ledger_examples.specs.Tests.{test_operations}
use Rattle.serve_parts.proofs.Adding.{full_tests}
use Rattle.serve_parts.proofs.logs.test_log.Goals as goal

pub returns : goal.returns
returns g c =
    let f = g.F.Family.floor_of in
    let write = g.F.ExampleFamily.test_of in
    let commit = g.F.ExampleFamily.test_commit_of in
    let added = g.F.ExampleFamily.added_of in
    subst (λ z. IfOk c.with_tests.result (λ log. log ≡ z)) (ap (λ log. with_batches with_ops log (added_batches f added 0 (test_operations write commit c.args.seed 0 c.args.count))) c.in-Ok.ensures.ok ∙ full_tests f g.F.Family.commit_of write commit added g.F.ExampleFamily.floor_shown g.met.F.TestedFamily.has_tests c.args.count c.args.seed) c.with_tests.ensures.new

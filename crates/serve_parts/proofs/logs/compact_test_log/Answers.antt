use Rattle.sha2.specs.Sha256.{sha256}
use Rattle.serve_parts.proofs.Adding.{compact_so}
use Rattle.serve_parts.proofs.logs.compact_test_log.Goals as goal

pub returns : goal.returns
returns g c = compact_so g.F.Family.floor_of g.F.Family.commit_of g.F.ExampleFamily.test_of g.F.ExampleFamily.test_commit_of g.F.ExampleFamily.added_of g.F.ExampleFamily.floor_shown g.met.F.TestedFamily.has_tests sha256 g.F.Op.Leaf.spelling c.in-Ok.log 1 0 c.args.count c.args.seed c.with_tests.result c.in-Ok.ensures.ok c.with_tests.ensures.taken c.with_tests.ensures.new

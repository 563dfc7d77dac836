use Rattle.std.proofs.Common.{arith}
use Rattle.std.proofs.lemmas.Result.{IfOk-weaker}
use Rattle.promise_cases.proofs.Trees.{last_right, three_long}
use Rattle.promise_cases.proofs.tests.trees.last_of_three.Goals as goal

pub proof-requires-clause-most : goal.proof-requires-clause-most
proof-requires-clause-most c = omega (arith, c.at.ensures, three_long c.in_ok-list.list c.in_ok-list.ensures)

pub returns-clause-right : goal.returns-clause-right
returns-clause-right c = IfOk-weaker c.proof.result _ _ (λ p h. last_right p c.in_ok-list.list c.at.result c.at-2.result c.in_ok-list.ensures c.at.ensures c.at-2.ensures h) c.proof.ensures.holds

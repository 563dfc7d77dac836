use Rattle.promise_cases.proofs.Pruned.{both_ok, proof_kept, range_kept}
use Rattle.promise_cases.proofs.tests.logs.drop_first.Goals as goal

pub returns-clause-range : goal.returns-clause-range
returns-clause-range c =
    both_ok c.prune.result (λ kept is. range_kept c.args.log.now c.prune.new.self c.plus.result c.requires.front c.plus.ensures kept is) c.prune.ensures.kept c.prune.ensures.ok

pub returns-clause-proof : goal.returns-clause-proof
returns-clause-proof c =
    both_ok c.prune.result (λ kept is. proof_kept c.args.log.now c.prune.new.self c.plus.result c.requires.front c.plus.ensures kept is c.requires.size) c.prune.ensures.kept c.prune.ensures.ok

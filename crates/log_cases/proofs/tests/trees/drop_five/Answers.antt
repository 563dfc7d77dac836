use Rattle.std.proofs.Common.{arith}
use Rattle.log_cases.proofs.tests.trees.drop_five.Goals as goal

pub returns-clause-proof : goal.returns-clause-proof
returns-clause-proof g c = c.in_ok-prune.ensures.kept.proofs 12 5 3 (omega (arith, c.at.ensures)) (omega arith) (omega (arith, c.requires.size))

pub returns-clause-peaks : goal.returns-clause-peaks
returns-clause-peaks g c = c.in_ok-prune.ensures.kept.peaks 7 (omega (arith, c.at.ensures)) (omega (arith, c.requires.size))

use Rattle.std.proofs.Common.{◌-◌, length, arith}
use Rattle.std.proofs.lemmas.List.{length-take-le}
use Rattle.ledger_merkle.proofs.Joining.{ones_half}
use Rattle.ledger_merkle.proofs.level.rest_of.Goals as goal

pub slice_bounds-result-count : goal.slice_bounds-result-count
slice_bounds-result-count c = omega (arith, ones_half c.args.front)

pub returns-then-front-eq1-clause-count : goal.returns-then-front-eq1-clause-count
returns-then-front-eq1-clause-count c = omega (arith, ones_half c.args.front, length-take-le (length c.args.pinned.now - 1) c.args.pinned.now (omega arith))

pub returns-else-front-eq1-clause-count : goal.returns-else-front-eq1-clause-count
returns-else-front-eq1-clause-count c = omega (arith, ones_half c.args.front)

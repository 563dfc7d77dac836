use Rattle.std.proofs.Common.{◌+◌, ◌≤◌, length, arith}
use Rattle.follow_promises.proofs.tests.binding.bound.Goals as goal

pub collision-requires-clause-within : goal.collision-requires-clause-within
collision-requires-clause-within g c = omega (arith, c.get-end.ensures.most, c.in_ok-one.ensures.part.start, c.in_ok-one.ensures.part.count)

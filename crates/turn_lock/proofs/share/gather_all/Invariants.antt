use Rattle.turn_lock.specs.Seated.{Gathers}
use Rattle.turn_lock.proofs.share.gather_all.Given as goal

abbrev pub invariant-loop-pass : goal.invariant-loop-pass
invariant-loop-pass g l = (goal.iterator-loop-pass g).can_next l.pass-iterator × (goal.iterator-loop-pass g).is_finite l.pass-iterator × Gathers l.fn.seat l.seat l.yielded

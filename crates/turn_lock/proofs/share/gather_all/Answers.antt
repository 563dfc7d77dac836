use Rattle.turn_lock.proofs.Passing.{gathers_more}
use Rattle.turn_lock.proofs.share.gather_all.Goals as goal

pub loop-pass-preserved : goal.loop-pass-preserved
loop-pass-preserved g c = (tt, tt, gathers_more c.args.seat c.loop-pass.seat c.take_in.new.seat c.loop-pass.yielded c.in-Some.pass c.loop-pass.invariant.2 c.take_in.ensures)

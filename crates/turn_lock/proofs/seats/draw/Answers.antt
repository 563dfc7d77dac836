use Rattle.std.proofs.Common.{arith}
use Rattle.turn_lock.proofs.Steps.{draws}
use Rattle.turn_lock.proofs.seats.draw.Goals as goal

pub fetch_add-requires : goal.fetch_add-requires
fetch_add-requires g c = (c.requires.seat.0, (let e = c.requires.seat.1 in omega arith), draws g.F.Guarded.after g.F.Guarded.Answers _ _ _ _ _ c.requires.idle.0 c.requires.room c.requires.stands)

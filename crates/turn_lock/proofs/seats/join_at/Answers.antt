use Rattle.std.proofs.Common.{arith, ◌∙◌}
use Rattle.turn_lock.proofs.Steps.{joins, looks_at}
use Rattle.turn_lock.proofs.seats.join_at.Goals as goal

pub join_seat-requires : goal.join_seat-requires
join_seat-requires g c = let i = c.requires.idle in (c.requires.seat.0, c.requires.other.0, i.1.1, (let w = c.requires.seat.1 in omega arith), joins g.F.Guarded.after g.F.Guarded.Answers _ _ _ _ _ i.0.0 i.1.0)

pub load-requires : goal.load-requires
load-requires g c = (c.join_seat.ensures.0 ∙ c.requires.seat.0, (let w = c.requires.seat.1 in omega arith), looks_at g.F.Guarded.after g.F.Guarded.Answers _ _ _ _)

use Rattle.std.proofs.Common.{arith}
use Rattle.turn_lock.proofs.Steps.{notes}
use Rattle.turn_lock.proofs.seats.note_at.Goals as goal

pub split_seat-requires : goal.split_seat-requires
split_seat-requires g c = (c.requires.seat.0, (let w = c.requires.seat.1 in omega arith), notes g.F.Guarded.after g.F.Guarded.Answers _ _ _ c.requires.idle.0)

use Rattle.std.proofs.Common.{ap, ◌∙◌}
use Rattle.turn_lock.proofs.seats.enter.Goals as goal

pub try_take-requires-clause-seat : goal.try_take-requires-clause-seat
try_take-requires-clause-seat g c = (c.loop.invariant.same.0 ∙ c.requires.seat.0, c.requires.seat.1, c.requires.seat.2)

pub try_take-requires-clause-waits : goal.try_take-requires-clause-waits
try_take-requires-clause-waits g c = (ap (λ m. m.0.stage) c.loop.invariant.me, ap (λ m. m.1) c.loop.invariant.me)

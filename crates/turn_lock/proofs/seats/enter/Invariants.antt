use Rattle.std.proofs.Common.{◌≡◌, []}
use Rattle.turn_lock.specs.Turns.{IsSame, waiting}
use Rattle.turn_lock.proofs.seats.enter.Given as goal

abbrev pub invariant-loop : goal.invariant-loop
invariant-loop g l = record { same : IsSame l.fn.seat l.seat; me : l.seat.me ≡ (waiting l.fn.seat.me.0 l.ticket, []) }

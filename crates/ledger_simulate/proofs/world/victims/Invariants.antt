use Rattle.std.proofs.Common.{◌≡◌, ◌++◌, ◌-◌}
use Rattle.simulate_parts.specs.Seats.{active_peers}
use Rattle.ledger_simulate.specs.Failures.{picked}
use Rattle.ledger_simulate.proofs.world.victims.Given as goal

abbrev pub invariant-loop : goal.invariant-loop
invariant-loop g l = l.picked.items ++ picked (l.count - l.counter) l.words l.left.items ≡ picked l.count l.fn.words (active_peers l.seats.entries)

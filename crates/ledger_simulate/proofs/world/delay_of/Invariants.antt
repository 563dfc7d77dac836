use Rattle.std.proofs.Common.{◌≡◌, drop}
use Rattle.ledger_simulate.specs.Delays.{delay_round}
use Rattle.ledger_simulate.proofs.world.delay_of.Given as goal

abbrev pub invariant-loop-crash : goal.invariant-loop-crash
invariant-loop-crash l = delay_round l.crashes ≡ delay_round (drop l.crash-index l.crashes)

use Rattle.std.proofs.Common.{◌≡◌, drop}
use Rattle.ledger_simulate.specs.Failures.{random_count}
use Rattle.ledger_simulate.proofs.world.random_of.Given as goal

abbrev pub invariant-loop-crash : goal.invariant-loop-crash
invariant-loop-crash l = random_count l.crashes ≡ random_count (drop l.crash-index l.crashes)

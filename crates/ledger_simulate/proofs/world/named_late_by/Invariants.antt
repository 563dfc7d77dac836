use Rattle.std.proofs.Common.{◌≡◌, drop}
use Rattle.ledger_simulate.specs.Plans.{named_late}
use Rattle.ledger_simulate.proofs.world.named_late_by.Given as goal

abbrev pub invariant-loop-crash : goal.invariant-loop-crash
invariant-loop-crash l = named_late l.crashes ≡ named_late (drop l.crash-index l.crashes)

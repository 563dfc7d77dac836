use Rattle.std.proofs.Common.{◌≡◌, drop}
use Rattle.ledger_simulate.specs.Exercise.{unexercised_from}
use Rattle.ledger_simulate.proofs.exercise.Exercise.first_missed.Given as goal

abbrev pub invariant-loop-i : goal.invariant-loop-i
invariant-loop-i l =
    unexercised_from l.self.crashes l.self.scheduled_actions l.self.delayed_started l.self.entered.items 0 l.crashes
    ≡ unexercised_from l.self.crashes l.self.scheduled_actions l.self.delayed_started l.self.entered.items l.i (drop l.i l.crashes)

use Rattle.std.proofs.Common.{◌≡◌, ◌++◌, take}
use Rattle.ledger_simulate.specs.Messages.{timers_of}
use Rattle.ledger_simulate.proofs.messages.set_timers.Given as goal

abbrev pub invariant-loop-delay : goal.invariant-loop-delay
invariant-loop-delay l = l.agenda ≡ record l.initial.agenda { events = l.initial.agenda.events ++ timers_of l.pk l.birth (take l.delay-index l.delays) }

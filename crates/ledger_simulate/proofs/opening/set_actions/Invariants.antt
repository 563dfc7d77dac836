use Rattle.std.proofs.Common.{◌≡◌, ◌++◌, take}
use Rattle.std.specs.List.{flat_map}
use Rattle.ledger_simulate.specs.Opening.{actions_of}
use Rattle.ledger_simulate.proofs.opening.set_actions.Given as goal

abbrev pub invariant-loop-crash : goal.invariant-loop-crash
invariant-loop-crash l = l.agenda ≡ record l.initial.agenda { events = l.initial.agenda.events ++ flat_map actions_of (take l.crash-index l.crashes) }

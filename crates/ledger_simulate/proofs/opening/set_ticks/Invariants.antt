use Rattle.std.proofs.Common.{◌≡◌, ◌++◌, take}
use Rattle.std.specs.List.{flat_map}
use Rattle.ledger_simulate.specs.Opening.{first_tick}
use Rattle.ledger_simulate.proofs.opening.set_ticks.Given as goal

abbrev pub invariant-loop-crash : goal.invariant-loop-crash
invariant-loop-crash l = l.agenda ≡ record l.initial.agenda { events = l.initial.agenda.events ++ flat_map first_tick (take l.crash-index l.crashes) }

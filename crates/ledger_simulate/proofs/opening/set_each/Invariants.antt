use Rattle.std.proofs.Common.{◌≡◌, ◌++◌, map, take}
use Rattle.ledger_simulate.specs.declared.event.Event.TheVariants.{Act}
use Rattle.ledger_simulate.proofs.opening.set_each.Given as goal

abbrev pub invariant-loop-action : goal.invariant-loop-action
invariant-loop-action l = l.agenda ≡ record l.initial.agenda { events = l.initial.agenda.events ++ map (λ e. (e.0, Act e.1)) (take l.action-index l.actions) }

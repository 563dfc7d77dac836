use Rattle.std.proofs.Common.{◌≡◌, ◌++◌}
use Rattle.std.specs.Vec.Iter.{into_iter_items}
use Rattle.ledger_simulate.specs.Handling.{ChangesEnginesAlone}
use Rattle.ledger_simulate.specs.Opening.{starts}
use Rattle.ledger_simulate.proofs.world.World.launch_all.Given as goal

abbrev pub invariant-loop-pk : goal.invariant-loop-pk
invariant-loop-pk g l = record {
  changes_alone : ChangesEnginesAlone (g.D.EngineDefinition.peer_of l.plan.engine) l.initial.agenda l.agenda l.initial.self l.self;
  events : l.agenda.events ++ starts (into_iter_items l.pk-iterator) ≡ l.initial.agenda.events ++ starts l.fn.participants.items;
  exercise : l.self.exercise ≡ l.initial.self.exercise;
}

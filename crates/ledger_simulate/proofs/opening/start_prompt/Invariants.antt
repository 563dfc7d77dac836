use Rattle.std.proofs.Common.{◌≡◌, ◌++◌, take}
use Rattle.simulate_parts.specs.Team.{others}
use Rattle.ledger_simulate.specs.Handling.{ChangesEnginesAlone}
use Rattle.ledger_simulate.specs.Opening.{starts}
use Rattle.ledger_simulate.specs.Plans.{named_late}
use Rattle.ledger_simulate.proofs.opening.start_prompt.Given as goal

abbrev pub invariant-loop-pk : goal.invariant-loop-pk
invariant-loop-pk g l = record {
  made : l.agenda ≡ record l.initial.agenda { events = l.initial.agenda.events ++ starts (others (named_late l.plan.crashes) (take l.pk-index l.pk-items)) };
  changes_alone : ChangesEnginesAlone (g.D.EngineDefinition.peer_of l.plan.engine) l.initial.agenda l.agenda l.initial.world l.world;
  exercise : l.world.exercise ≡ l.initial.world.exercise;
}

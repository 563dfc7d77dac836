use Rattle.std.proofs.Common.{◌≡◌, take}
use Rattle.simulate_parts.specs.Team.{StartsAll, definition_of, others, participants_of, seats_of}
use Rattle.simulate_parts.proofs.team.Team.start.Given as goal

abbrev pub invariant-loop-i : goal.invariant-loop-i
invariant-loop-i g l = record {
  started : StartsAll (g.D.EngineDefinition.peer_of (definition_of l.initial.self)) (g.D.EngineDefinition.made (definition_of l.initial.self)) (g.D.EngineDefinition.journal (definition_of l.initial.self)) (participants_of l.initial.self) l.fault (others l.delayed (take l.i (participants_of l.initial.self))) (seats_of l.initial.self) (seats_of l.self);
  participants : participants_of l.self ≡ participants_of l.initial.self;
  definition : definition_of l.self ≡ definition_of l.initial.self;
}

use Rattle.std.proofs.Common.{◌∙◌}
use Rattle.simulate_parts.specs.Team.{definition_of, participants_of, seats_of}
use Rattle.simulate_parts.proofs.Starting.{starts_more}
use Rattle.simulate_parts.proofs.team.Team.start.Goals as goal

pub loop-i-preserved : goal.loop-i-preserved
loop-i-preserved g c = record {
  started =
      starts_more g.D.EngineDefinition.peer_of g.D.EngineDefinition.made g.D.EngineDefinition.journal c.args.fault c.args.delayed.now
      (definition_of c.args.self.now) (definition_of c.loop-i.self) (participants_of c.args.self.now) (participants_of c.loop-i.self) c.loop-i.i
      (seats_of c.args.self.now) (seats_of c.loop-i.self) (seats_of c.start_at.new.self)
      c.loop-i.invariant.participants c.loop-i.invariant.definition c.loop-i.invariant.started c.in-Ok.ensures.ok;
  participants = c.start_at.ensures.participants ∙ c.loop-i.invariant.participants;
  definition = c.start_at.ensures.definition ∙ c.loop-i.invariant.definition;
}

use Rattle.std.proofs.Common.{◌∙◌}
use Rattle.std.specs.Vec.Iter.{into_iter_items}
use Rattle.ledger_simulate.proofs.Delaying.{starts_more}
use Rattle.ledger_simulate.proofs.Changing.{changes_alone_then}
use Rattle.ledger_simulate.proofs.world.World.launch_all.Goals as goal

pub loop-pk-preserved : goal.loop-pk-preserved
loop-pk-preserved g c = record {
  changes_alone =
      changes_alone_then (g.D.EngineDefinition.peer_of c.args.plan.now.engine) c.args.agenda.now c.loop-pk.agenda c.launch.new.agenda c.args.self.now c.loop-pk.self c.launch.new.self
      c.loop-pk.invariant.changes_alone c.in_ok-launch.ensures.changes_alone;
  events = starts_more c.args.agenda.now.events c.args.participants.items (into_iter_items c.loop-pk.pk-iterator) (into_iter_items c.next.new.self) c.loop-pk.agenda c.launch.new.agenda c.in-Some.pk c.loop-pk.invariant.events c.in-Some.ensures.steps.0 c.in_ok-launch.ensures.made;
  exercise = c.in_ok-launch.ensures.exercise ∙ c.loop-pk.invariant.exercise;
}

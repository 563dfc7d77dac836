use Rattle.std.proofs.Common.{◌≡◌}
use Rattle.std.specs.Vec.Iter.{into_iter_items}
use Rattle.simulate_parts.specs.declared.peer.Peer.{Peer}
use Rattle.ledger_simulate.specs.Failures.{crashed_all, standing_of}
use Rattle.ledger_simulate.specs.Handling.{ChangesEngines}
use Rattle.ledger_simulate.proofs.world.World.crash_all.Given as goal

abbrev pub invariant-loop-pk : goal.invariant-loop-pk
invariant-loop-pk g l = record {
  changes : (peer_of : g.row.D-Engine.Denot → Peer) → ChangesEngines peer_of l.initial.agenda l.agenda l.initial.self l.self;
  standing : crashed_all (standing_of l.self) (into_iter_items l.pk-iterator) ≡ crashed_all (standing_of l.initial.self) l.fn.peers.items;
  started : l.self.exercise.delayed_started ≡ l.initial.self.exercise.delayed_started;
}

use Rattle.std.proofs.Common.{◌≡◌, ◌-◌, List, Option, length, IsTrue}
use Rattle.ledger_log.specs.declared.target.Target.{Target}
use Rattle.sync_net.specs.Core.{LogData}
use Rattle.sync_client.specs.Serving.{Serves}
use Rattle.sync_client.specs.Owing.{AreSent, IsServed}
use Rattle.sync_client.specs.Ending.{Origin, Came}
use Rattle.sync_client.specs.Seen.{Beside, seen, Paired}
use Rattle.sync_client.specs.Session.{rules_for}
use Rattle.sync_client.specs.Tiles.{Tiles}
use Rattle.sync_client.proofs.session.fill.Given as goal

abbrev pub invariant-loop-frame : goal.invariant-loop-frame
invariant-loop-frame g l =
    record {
      plan : l.collector.plan ≡ l.fn.collector.plan;
      kept : l.collector.kept ≡ l.fn.collector.kept;
      paired : Paired l.machine l.collector;
      tiles : Tiles l.collector;
      exact : IsTrue g.L.Link.exact → g.L.Link.faults l.link ≡ g.L.Link.faults l.fn.link;
      steady : g.L.Link.steady l.fn.link → g.L.Link.steady l.link × (g.L.Link.faults l.link ≡ g.L.Link.faults l.fn.link);
      came : (o : Origin g.row.Op.Denot) (b : Beside) → o.rules ≡ rules_for g.Op.Spell.reading g.Op.Spell.written g.Op.Leaf.spelling → Came o (seen l.fn.machine l.fn.collector b) l.fn.machine.held l.fn.machine.closed (g.L.Link.wire l.fn.link) (g.L.Link.faults l.fn.link) → Came o (seen l.machine l.collector b) l.machine.held l.machine.closed (g.L.Link.wire l.link) (g.L.Link.faults l.link);
      serving : (held : LogData) (first : Target) (left : List (Option Target)) (b : Beside) → AreSent g.Op.Spell.reading g.Op.Spell.written g.Op.Leaf.spelling g.Op.Spell.sound → (h : Serves g.Op.Spell.written g.Op.Spell.sound held first) → IsServed g.Op.Spell.written held h.log left (seen l.fn.machine l.fn.collector b) l.fn.machine.held l.fn.machine.closed (g.L.Link.service l.fn.link) → IsServed g.Op.Spell.written held h.log left (seen l.machine l.collector b) l.machine.held l.machine.closed (g.L.Link.service l.link);
    }

abbrev pub decreases-loop-frame : goal.decreases-loop-frame
decreases-loop-frame g l = l.collector.plan.limits.outstanding - length l.collector.pending

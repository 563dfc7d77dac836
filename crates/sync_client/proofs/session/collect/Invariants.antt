use Rattle.std.proofs.Common.{◌≡◌, ◌-◌, ◌+◌, ◌<◌, ◌≤◌, ◌^◌, List, Option, length, IsTrue}
use Rattle.ledger_log.specs.declared.target.Target.{Target}
use Rattle.sync_net.specs.Core.{LogData}
use Rattle.sync_client.specs.Serving.{Serves}
use Rattle.sync_client.specs.Owing.{AreSent, IsServed}
use Rattle.sync_client.specs.Ending.{Origin, Came, handled}
use Rattle.sync_client.specs.Seen.{Beside, beside, seen, Paired}
use Rattle.sync_client.specs.Session.{Nothing, ask_next, rules_for}
use Rattle.sync_client.specs.Tiles.{Tiles}
use Rattle.sync_client.proofs.session.collect.Given as goal

abbrev pub invariant-loop-buffer : goal.invariant-loop-buffer
invariant-loop-buffer g l =
    record {
      room : 0 < length l.buffer;
      most : length l.buffer ≤ 4096;
      paired : Paired l.machine l.collector;
      tiles : Tiles l.collector;
      strays : l.strays ≤ 1024;
      fewer : length (g.Ts.Targets.answers l.updates) ≤ length (g.Ts.Targets.answers l.fn.updates);
      exact : IsTrue g.L.Link.exact → g.L.Link.faults l.link ≡ g.L.Link.faults l.fn.link;
      steady : g.L.Link.steady l.fn.link → g.L.Link.steady l.link × (g.L.Link.faults l.link ≡ g.L.Link.faults l.fn.link);
      came : (o : Origin g.row.Op.Denot) → o.rules ≡ rules_for g.Op.Spell.reading g.Op.Spell.written g.Op.Leaf.spelling → Came o (seen l.fn.machine l.fn.collector (beside 0 (g.Ts.Targets.answers l.fn.updates))) l.fn.machine.held l.fn.machine.closed (g.L.Link.wire l.fn.link) (g.L.Link.faults l.fn.link) → Came o (seen l.machine l.collector (beside l.strays (g.Ts.Targets.answers l.updates))) l.machine.held l.machine.closed (g.L.Link.wire l.link) (g.L.Link.faults l.link) × (ask_next (seen l.machine l.collector (beside l.strays (g.Ts.Targets.answers l.updates))) ≡ Nothing);
      nothing : (b : Beside) → ask_next (seen l.machine l.collector b) ≡ Nothing;
      serving : (held : LogData) (first : Target) (left : List (Option Target)) → AreSent g.Op.Spell.reading g.Op.Spell.written g.Op.Leaf.spelling g.Op.Spell.sound → (h : Serves g.Op.Spell.written g.Op.Spell.sound held first) → length left ≤ length (g.Ts.Targets.answers l.updates)
          → IsServed g.Op.Spell.written held h.log left (seen l.fn.machine l.fn.collector (beside 0 (g.Ts.Targets.answers l.fn.updates))) l.fn.machine.held l.fn.machine.closed (g.L.Link.service l.fn.link) → IsServed g.Op.Spell.written held h.log left (seen l.machine l.collector (beside l.strays (g.Ts.Targets.answers l.updates))) l.machine.held l.machine.closed (g.L.Link.service l.link);
    }

abbrev pub decreases-loop-buffer : goal.decreases-loop-buffer
decreases-loop-buffer g l = 2 ^ 62 + 1025 - handled (seen l.machine l.collector (beside l.strays (g.Ts.Targets.answers l.updates)))

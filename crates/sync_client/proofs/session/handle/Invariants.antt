use Rattle.std.proofs.Common.{◌≡◌, ◌-◌, ◌<◌, ◌≤◌, ℕ, List, Option, length, false, IsTrue}
use Rattle.ledger_log.specs.declared.target.Target.{Target}
use Rattle.sync_net.specs.Core.{LogData}
use Rattle.sync_client.specs.Serving.{Serves}
use Rattle.sync_client.specs.Owing.{AreSent, IsServed, Midway}
use Rattle.sync_client.specs.Ending.{Origin, Came}
use Rattle.sync_client.specs.Seen.{beside, seen, asks_of}
use Rattle.sync_client.specs.Session.{Nothing, ask_next, is_whole, rules_for}
use Rattle.sync_client.proofs.session.handle.Given as goal

abbrev pub invariant-loop-fault : goal.invariant-loop-fault
invariant-loop-fault g l =
    record {
      room : 0 < length l.buffer;
      most : length l.buffer ≤ 4096;
      collector : l.collector ≡ l.fn.collector;
      strays : l.strays ≡ l.fn.strays;
      updates : g.Ts.Targets.answers l.updates ≡ g.Ts.Targets.answers l.fn.updates;
      machine : (held : List ℕ) × (l.machine ≡ record l.fn.machine { held = held });
      exact : IsTrue g.L.Link.exact → g.L.Link.faults l.link ≡ g.L.Link.faults l.fn.link;
      steady : g.L.Link.steady l.fn.link → g.L.Link.steady l.link × (g.L.Link.faults l.link ≡ g.L.Link.faults l.fn.link);
      came : (o : Origin g.row.Op.Denot) → o.rules ≡ rules_for g.Op.Spell.reading g.Op.Spell.written g.Op.Leaf.spelling → Came o (seen l.fn.machine l.fn.collector (beside l.fn.strays (g.Ts.Targets.answers l.fn.updates))) l.fn.machine.held l.fn.machine.closed (g.L.Link.wire l.fn.link) (g.L.Link.faults l.fn.link)
          → ask_next (seen l.fn.machine l.fn.collector (beside l.fn.strays (g.Ts.Targets.answers l.fn.updates))) ≡ Nothing → is_whole (seen l.fn.machine l.fn.collector (beside l.fn.strays (g.Ts.Targets.answers l.fn.updates))) ≡ false
          → Came o (seen l.fn.machine l.fn.collector (beside l.fn.strays (g.Ts.Targets.answers l.fn.updates))) l.machine.held l.machine.closed (g.L.Link.wire l.link) (g.L.Link.faults l.link);
      serving : (held : LogData) (first : Target) (left : List (Option Target)) → AreSent g.Op.Spell.reading g.Op.Spell.written g.Op.Leaf.spelling g.Op.Spell.sound → (h : Serves g.Op.Spell.written g.Op.Spell.sound held first)
          → IsServed g.Op.Spell.written held h.log left (seen l.fn.machine l.fn.collector (beside l.fn.strays (g.Ts.Targets.answers l.fn.updates))) l.fn.machine.held l.fn.machine.closed (g.L.Link.service l.fn.link)
          → ask_next (seen l.fn.machine l.fn.collector (beside l.fn.strays (g.Ts.Targets.answers l.fn.updates))) ≡ Nothing → is_whole (seen l.fn.machine l.fn.collector (beside l.fn.strays (g.Ts.Targets.answers l.fn.updates))) ≡ false
          → Midway held (asks_of l.fn.machine.pending l.fn.collector.pending) (g.L.Link.service l.link) l.machine.held;
    }

abbrev pub decreases-loop-fault : goal.decreases-loop-fault
decreases-loop-fault g l = 10485766 - length l.machine.held

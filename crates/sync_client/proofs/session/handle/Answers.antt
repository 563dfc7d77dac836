use Rattle.std.proofs.Common.{◌≡◌, ◌∙◌, ◌<◌, ◌≤◌, ◌+◌, ◌++◌, ap, sym, subst, refl, ℕ, List, length, false, arith, length-append}
use Rattle.ledger_codec.specs.Frames.{Short, front}
use Rattle.sync_net.specs.View.{MachineView}
use Rattle.sync_client.specs.Collected.{Collected}
use Rattle.sync_client.specs.Ending.{Came, handled}
use Rattle.sync_client.specs.Seen.{Beside, beside, seen, asks_of}
use Rattle.sync_client.specs.Session.{State, Rules, ask_next, is_whole, rules_for}
use Rattle.sync_client.specs.Tiles.{Tiles}
use Rattle.sync_client.specs.Owing.{Midway}
use Rattle.sync_client.proofs.ServingTurns.{first_midway, some_pending, bytes_came, took_served, take_may_stop, bytes_may_stop, recv_faults}
use Rattle.sync_client.proofs.Rising.{rises, taking_keeps}
use Rattle.sync_client.proofs.Fewer.{fewer_taken, fewer_stopped}
use Rattle.sync_client.proofs.Shortness.{short_held}
use Rattle.sync_client.proofs.Turning.{fits, take_stops, took, recv_stops, recv_came, same_seen, same_beside}
use Rattle.sync_client.proofs.session.handle.Goals as goal

pub loop-fault-init : goal.loop-fault-init
loop-fault-init g c =
    record { room = c.requires.room; most = c.requires.most; collector = refl; strays = refl; updates = refl; machine = (c.args.machine.now.held, refl); exact = λ e. refl; steady = λ s. (s, refl); came = λ o r k nothing more. k; serving = λ held first left sent w k nothing more. first_midway g.Op.Spell.written held w.log left c.args.machine.now c.args.collector.now (beside c.args.strays.now (g.Ts.Targets.answers c.args.updates.now)) (g.L.Link.service c.args.link.now) k }

pub returns-in-Ok-true-clause-rises : goal.returns-in-Ok-true-clause-rises
returns-in-Ok-true-clause-rises g c =
    let i = c.loop-fault.invariant in
    let rules : Rules g.row.Op.Denot = rules_for g.Op.Spell.reading g.Op.Spell.written g.Op.Leaf.spelling in
    let now : Beside = beside c.loop-fault.strays (g.Ts.Targets.answers c.loop-fault.updates) in
    let old : Beside = beside c.args.strays.now (g.Ts.Targets.answers c.args.updates.now) in
    let next : Beside = beside c.take_next.new.strays (g.Ts.Targets.answers c.take_next.new.updates) in
    let same = same_seen c.loop-fault.machine c.args.machine.now c.loop-fault.collector c.args.collector.now now old i.machine.0 i.machine.1 i.collector (same_beside c.loop-fault.strays c.args.strays.now (g.Ts.Targets.answers c.loop-fault.updates) (g.Ts.Targets.answers c.args.updates.now) i.strays i.updates) in
    let h = rw c.in-Ok-true.field-0-test at c.in-Ok-true.ensures.takes in
    let up : handled (seen c.loop-fault.machine c.loop-fault.collector now) < handled (seen c.take_next.new.machine c.take_next.new.collector next) = rises rules (seen c.loop-fault.machine c.loop-fault.collector now) (seen c.take_next.new.machine c.take_next.new.collector next) h.0 h.2 in
    subst (λ (s : State g.row.Op.Denot). handled s < handled (seen c.take_next.new.machine c.take_next.new.collector next)) same up

pub returns-in-Ok-true-clause-strays : goal.returns-in-Ok-true-clause-strays
returns-in-Ok-true-clause-strays g c q =
    let i = c.loop-fault.invariant in
    let rules : Rules g.row.Op.Denot = rules_for g.Op.Spell.reading g.Op.Spell.written g.Op.Leaf.spelling in
    let now : Beside = beside c.loop-fault.strays (g.Ts.Targets.answers c.loop-fault.updates) in
    let old : Beside = beside c.args.strays.now (g.Ts.Targets.answers c.args.updates.now) in
    let next : Beside = beside c.take_next.new.strays (g.Ts.Targets.answers c.take_next.new.updates) in
    let same = same_seen c.loop-fault.machine c.args.machine.now c.loop-fault.collector c.args.collector.now now old i.machine.0 i.machine.1 i.collector (same_beside c.loop-fault.strays c.args.strays.now (g.Ts.Targets.answers c.loop-fault.updates) (g.Ts.Targets.answers c.args.updates.now) i.strays i.updates) in
    let h = rw c.in-Ok-true.field-0-test at c.in-Ok-true.ensures.takes in
    let k = taking_keeps rules (seen c.loop-fault.machine c.loop-fault.collector now) (seen c.take_next.new.machine c.take_next.new.collector next) h.0 h.2 in
    k.1 (subst (λ (n : ℕ). n ≤ 1024) (sym i.strays) q)

pub returns-in-Ok-true-clause-fewer : goal.returns-in-Ok-true-clause-fewer
returns-in-Ok-true-clause-fewer g c =
    let i = c.loop-fault.invariant in
    let rules : Rules g.row.Op.Denot = rules_for g.Op.Spell.reading g.Op.Spell.written g.Op.Leaf.spelling in
    let now : Beside = beside c.loop-fault.strays (g.Ts.Targets.answers c.loop-fault.updates) in
    let old : Beside = beside c.args.strays.now (g.Ts.Targets.answers c.args.updates.now) in
    let next : Beside = beside c.take_next.new.strays (g.Ts.Targets.answers c.take_next.new.updates) in
    let same = same_seen c.loop-fault.machine c.args.machine.now c.loop-fault.collector c.args.collector.now now old i.machine.0 i.machine.1 i.collector (same_beside c.loop-fault.strays c.args.strays.now (g.Ts.Targets.answers c.loop-fault.updates) (g.Ts.Targets.answers c.args.updates.now) i.strays i.updates) in
    let h = rw c.in-Ok-true.field-0-test at c.in-Ok-true.ensures.takes in
    let f = fewer_taken rules c.loop-fault.machine c.take_next.new.machine c.loop-fault.collector c.take_next.new.collector now next h in
    let e : length (g.Ts.Targets.answers c.loop-fault.updates) ≡ length (g.Ts.Targets.answers c.args.updates.now) = ap length i.updates in
    omega (arith, f, e)

pub returns-in-Err-clause-fewer : goal.returns-in-Err-clause-fewer
returns-in-Err-clause-fewer g c =
    let i = c.loop-fault.invariant in
    let rules : Rules g.row.Op.Denot = rules_for g.Op.Spell.reading g.Op.Spell.written g.Op.Leaf.spelling in
    let now : Beside = beside c.loop-fault.strays (g.Ts.Targets.answers c.loop-fault.updates) in
    let old : Beside = beside c.args.strays.now (g.Ts.Targets.answers c.args.updates.now) in
    let next : Beside = beside c.take_next.new.strays (g.Ts.Targets.answers c.take_next.new.updates) in
    let same = same_seen c.loop-fault.machine c.args.machine.now c.loop-fault.collector c.args.collector.now now old i.machine.0 i.machine.1 i.collector (same_beside c.loop-fault.strays c.args.strays.now (g.Ts.Targets.answers c.loop-fault.updates) (g.Ts.Targets.answers c.args.updates.now) i.strays i.updates) in
    let f = fewer_stopped rules c.loop-fault.machine c.take_next.new.machine c.loop-fault.collector c.take_next.new.collector now next c.in-Err.fault c.in-Err.ensures.takes in
    let e : length (g.Ts.Targets.answers c.loop-fault.updates) ≡ length (g.Ts.Targets.answers c.args.updates.now) = ap length i.updates in
    omega (arith, f, e)

pub returns-in-Ok-true-clause-handled : goal.returns-in-Ok-true-clause-handled
returns-in-Ok-true-clause-handled g c o r k nothing more =
    let i = c.loop-fault.invariant in
    let rules : Rules g.row.Op.Denot = rules_for g.Op.Spell.reading g.Op.Spell.written g.Op.Leaf.spelling in
    let now : Beside = beside c.loop-fault.strays (g.Ts.Targets.answers c.loop-fault.updates) in
    let old : Beside = beside c.args.strays.now (g.Ts.Targets.answers c.args.updates.now) in
    let next : Beside = beside c.take_next.new.strays (g.Ts.Targets.answers c.take_next.new.updates) in
    let same = same_seen c.loop-fault.machine c.args.machine.now c.loop-fault.collector c.args.collector.now now old i.machine.0 i.machine.1 i.collector (same_beside c.loop-fault.strays c.args.strays.now (g.Ts.Targets.answers c.loop-fault.updates) (g.Ts.Targets.answers c.args.updates.now) i.strays i.updates) in
    let h = rw c.in-Ok-true.field-0-test at c.in-Ok-true.ensures.takes in
    let came = subst (λ (s : State g.row.Op.Denot). Came o s c.loop-fault.machine.held c.loop-fault.machine.closed (g.L.Link.wire c.loop-fault.link) (g.L.Link.faults c.loop-fault.link)) (sym same) (i.came o r k nothing more) in
    took o rules c.loop-fault.machine c.take_next.new.machine c.loop-fault.collector c.take_next.new.collector now next (g.L.Link.wire c.loop-fault.link) (g.L.Link.faults c.loop-fault.link) h r came (ap ask_next same ∙ nothing) (ap is_whole same ∙ more)

pub returns-in-Err-clause-handled : goal.returns-in-Err-clause-handled
returns-in-Err-clause-handled g c o r k nothing more =
    let i = c.loop-fault.invariant in
    let rules : Rules g.row.Op.Denot = rules_for g.Op.Spell.reading g.Op.Spell.written g.Op.Leaf.spelling in
    let now : Beside = beside c.loop-fault.strays (g.Ts.Targets.answers c.loop-fault.updates) in
    let old : Beside = beside c.args.strays.now (g.Ts.Targets.answers c.args.updates.now) in
    let next : Beside = beside c.take_next.new.strays (g.Ts.Targets.answers c.take_next.new.updates) in
    let same = same_seen c.loop-fault.machine c.args.machine.now c.loop-fault.collector c.args.collector.now now old i.machine.0 i.machine.1 i.collector (same_beside c.loop-fault.strays c.args.strays.now (g.Ts.Targets.answers c.loop-fault.updates) (g.Ts.Targets.answers c.args.updates.now) i.strays i.updates) in
    let came = subst (λ (s : State g.row.Op.Denot). Came o s c.loop-fault.machine.held c.loop-fault.machine.closed (g.L.Link.wire c.loop-fault.link) (g.L.Link.faults c.loop-fault.link)) (sym same) (i.came o r k nothing more) in
    take_stops o rules c.loop-fault.machine c.take_next.new.machine c.loop-fault.collector c.take_next.new.collector now next c.in-Err.fault (g.L.Link.wire c.loop-fault.link) (g.L.Link.faults c.loop-fault.link) c.in-Err.ensures.takes r came (ap ask_next same ∙ nothing) (ap is_whole same ∙ more)
    (subst (λ (v : Collected g.row.Op.Denot). Tiles v) (sym i.collector) c.requires.tiles)

pub loop-fault-smaller : goal.loop-fault-smaller
loop-fault-smaller g c =
    let t = rw c.in-Ok-false.field-0-test at c.in-Ok-false.ensures.takes in
    let h = c.in-Ok.ensures.receives in
    let short : length c.loop-fault.machine.held < 10485766 = short_held 10485760 c.loop-fault.machine.held t.0 in
    let same : length c.take_next.new.machine.held ≡ length c.loop-fault.machine.held = ap (λ (v : MachineView). length v.held) t.2 in
    let grown : length c.receive.new.machine.held ≡ length c.take_next.new.machine.held + length h.0 = ap (λ (v : MachineView). length v.held) h.2 ∙ length-append c.take_next.new.machine.held h.0 in
    let some : 0 < length h.0 = h.1 in
    omega (arith, short, same, grown, some)

pub loop-fault-preserved : goal.loop-fault-preserved
loop-fault-preserved g c =
    let i = c.loop-fault.invariant in
    let old : Beside = beside c.args.strays.now (g.Ts.Targets.answers c.args.updates.now) in
    let t = rw c.in-Ok-false.field-0-test at c.in-Ok-false.ensures.takes in
    let h = c.in-Ok.ensures.receives in
    let live : c.take_next.new.machine.closed ≡ false = ap (λ (v : MachineView). v.closed) t.2 ∙ t.1 in
    let short : front 10485760 c.take_next.new.machine.held ≡ Short = ap (λ (v : MachineView). front 10485760 v.held) t.2 ∙ t.0 in
    let held : List ℕ = c.take_next.new.machine.held ++ h.0 in
    record {
      room = omega (arith, i.room, c.receive.auto.buffer);
      most = omega (arith, i.most, c.receive.auto.buffer);
      collector = t.3 ∙ i.collector;
      strays = ap (λ (b : Beside). b.strays) t.4 ∙ i.strays;
      updates = ap (λ (b : Beside). b.updates) t.4 ∙ i.updates;
      machine = (held, h.2 ∙ ap (λ (v : MachineView). let w : MachineView = record v { held = held } in w) (t.2 ∙ i.machine.1));
      exact = λ e. c.in-Ok.ensures.exact e ∙ i.exact e;
      steady = λ e. (let r = c.in-Ok.ensures.steady (i.steady e).0 in (r.0, r.1 ∙ (i.steady e).1));
      came = λ o r k nothing more.
          let before = subst (λ (v : MachineView). Came o (seen c.args.machine.now c.args.collector.now old) v.held v.closed (g.L.Link.wire c.loop-fault.link) (g.L.Link.faults c.loop-fault.link)) (sym t.2) (i.came o r k nothing more) in
          recv_came o (seen c.args.machine.now c.args.collector.now old) c.take_next.new.machine c.receive.new.machine c.in-Ok.field-0 (g.L.Link.wire c.loop-fault.link) (g.L.Link.wire c.receive.new.link) (g.L.Link.faults c.loop-fault.link) (g.L.Link.faults c.receive.new.link) h short live before nothing more;
      serving = λ held first left sent w k nothing more.
          let some = some_pending c.args.machine.now c.args.collector.now old c.requires.tiles c.requires.paired k.follows.many nothing more in
          let mid = subst (λ (v : MachineView). Midway held (asks_of c.args.machine.now.pending c.args.collector.now.pending) (g.L.Link.service c.loop-fault.link) v.held) (sym t.2) (i.serving held first left sent w k nothing more) in
          bytes_came g.Op.Spell.reading g.Op.Spell.written g.Op.Leaf.spelling g.Op.Spell.sound sent held first w (seen c.args.machine.now c.args.collector.now old) c.take_next.new.machine c.receive.new.machine (g.L.Link.service c.loop-fault.link) (g.L.Link.service c.receive.new.link) c.in-Ok.field-0
          k.follows some mid short c.in-Ok.ensures.gives;
    }

pub returns-in-Ok-true-clause-serving : goal.returns-in-Ok-true-clause-serving
returns-in-Ok-true-clause-serving g c held first left sent w less k nothing more =
    let i = c.loop-fault.invariant in
    let rules : Rules g.row.Op.Denot = rules_for g.Op.Spell.reading g.Op.Spell.written g.Op.Leaf.spelling in
    let now : Beside = beside c.loop-fault.strays (g.Ts.Targets.answers c.loop-fault.updates) in
    let old : Beside = beside c.args.strays.now (g.Ts.Targets.answers c.args.updates.now) in
    let next : Beside = beside c.take_next.new.strays (g.Ts.Targets.answers c.take_next.new.updates) in
    let same = same_seen c.loop-fault.machine c.args.machine.now c.loop-fault.collector c.args.collector.now now old i.machine.0 i.machine.1 i.collector (same_beside c.loop-fault.strays c.args.strays.now (g.Ts.Targets.answers c.loop-fault.updates) (g.Ts.Targets.answers c.args.updates.now) i.strays i.updates) in
    let h = rw c.in-Ok-true.field-0-test at c.in-Ok-true.ensures.takes in
    took_served g.Op.Spell.reading g.Op.Spell.written g.Op.Leaf.spelling g.Op.Spell.sound sent held first w left (seen c.args.machine.now c.args.collector.now old) c.loop-fault.machine c.take_next.new.machine c.loop-fault.collector c.take_next.new.collector now next (g.L.Link.service c.loop-fault.link)
    same k.follows k.foresees less (i.serving held first left sent w k nothing more) h

pub returns-in-Err-clause-serving : goal.returns-in-Err-clause-serving
returns-in-Err-clause-serving g c held first left sent w less k nothing more =
    let i = c.loop-fault.invariant in
    let rules : Rules g.row.Op.Denot = rules_for g.Op.Spell.reading g.Op.Spell.written g.Op.Leaf.spelling in
    let now : Beside = beside c.loop-fault.strays (g.Ts.Targets.answers c.loop-fault.updates) in
    let old : Beside = beside c.args.strays.now (g.Ts.Targets.answers c.args.updates.now) in
    let next : Beside = beside c.take_next.new.strays (g.Ts.Targets.answers c.take_next.new.updates) in
    let same = same_seen c.loop-fault.machine c.args.machine.now c.loop-fault.collector c.args.collector.now now old i.machine.0 i.machine.1 i.collector (same_beside c.loop-fault.strays c.args.strays.now (g.Ts.Targets.answers c.loop-fault.updates) (g.Ts.Targets.answers c.args.updates.now) i.strays i.updates) in
    let live : c.loop-fault.machine.closed ≡ false = ap (λ (v : MachineView). v.closed) i.machine.1 ∙ k.live in
    take_may_stop g.Op.Spell.reading g.Op.Spell.written g.Op.Leaf.spelling g.Op.Spell.sound sent held first w left (seen c.args.machine.now c.args.collector.now old) c.loop-fault.machine c.take_next.new.machine c.loop-fault.collector c.take_next.new.collector now next (g.L.Link.service c.loop-fault.link) c.in-Err.fault
    same k.follows k.foresees less (i.serving held first left sent w k nothing more) live c.in-Err.ensures.takes

pub returns-in-Err-receive-clause-serving : goal.returns-in-Err-receive-clause-serving
returns-in-Err-receive-clause-serving g c held first left sent w less k nothing more =
    let i = c.loop-fault.invariant in
    let old : Beside = beside c.args.strays.now (g.Ts.Targets.answers c.args.updates.now) in
    let t = rw c.in-Ok-false.field-0-test at c.in-Ok-false.ensures.takes in
    let some = some_pending c.args.machine.now c.args.collector.now old c.requires.tiles c.requires.paired k.follows.many nothing more in
    let mid = subst (λ (v : MachineView). Midway held (asks_of c.args.machine.now.pending c.args.collector.now.pending) (g.L.Link.service c.loop-fault.link) v.held) (sym t.2) (i.serving held first left sent w k nothing more) in
    let short : front 10485760 c.take_next.new.machine.held ≡ Short = ap (λ (v : MachineView). front 10485760 v.held) t.2 ∙ t.0 in
    bytes_may_stop g.Op.Spell.reading g.Op.Spell.written g.Op.Leaf.spelling g.Op.Spell.sound sent held first w (seen c.args.machine.now c.args.collector.now old) c.take_next.new.machine c.receive.new.machine (g.L.Link.service c.loop-fault.link) (g.L.Link.service c.receive.new.link) c.in-Err-receive.fault
    k.follows some mid short c.in-Err-receive.ensures.gives (recv_faults c.take_next.new.machine c.receive.new.machine c.in-Err-receive.fault (g.L.Link.wire c.loop-fault.link) (g.L.Link.wire c.receive.new.link) (g.L.Link.faults c.loop-fault.link) (g.L.Link.faults c.receive.new.link) c.in-Err-receive.ensures.receives)

pub returns-in-Err-receive-clause-fewer : goal.returns-in-Err-receive-clause-fewer
returns-in-Err-receive-clause-fewer g c =
    let i = c.loop-fault.invariant in
    let t = rw c.in-Ok-false.field-0-test at c.in-Ok-false.ensures.takes in
    let e : length (g.Ts.Targets.answers c.take_next.new.updates) ≡ length (g.Ts.Targets.answers c.args.updates.now) = ap (λ (b : Beside). length b.updates) t.4 ∙ ap length i.updates in
    omega (arith, e)

pub returns-in-Err-receive-clause-handled : goal.returns-in-Err-receive-clause-handled
returns-in-Err-receive-clause-handled g c o r k nothing more =
    let i = c.loop-fault.invariant in
    let old : Beside = beside c.args.strays.now (g.Ts.Targets.answers c.args.updates.now) in
    let t = rw c.in-Ok-false.field-0-test at c.in-Ok-false.ensures.takes in
    let live : c.take_next.new.machine.closed ≡ false = ap (λ (v : MachineView). v.closed) t.2 ∙ t.1 in
    let short : front 10485760 c.take_next.new.machine.held ≡ Short = ap (λ (v : MachineView). front 10485760 v.held) t.2 ∙ t.0 in
    let before = subst (λ (v : MachineView). Came o (seen c.args.machine.now c.args.collector.now old) v.held v.closed (g.L.Link.wire c.loop-fault.link) (g.L.Link.faults c.loop-fault.link)) (sym t.2) (i.came o r k nothing more) in
    let answers : g.Ts.Targets.answers c.take_next.new.updates ≡ g.Ts.Targets.answers c.args.updates.now = ap (λ (b : Beside). b.updates) t.4 ∙ i.updates in
    rw answers (recv_stops o (seen c.args.machine.now c.args.collector.now old) c.take_next.new.machine c.receive.new.machine c.in-Err-receive.fault (g.L.Link.wire c.loop-fault.link) (g.L.Link.wire c.receive.new.link) (g.L.Link.faults c.loop-fault.link) (g.L.Link.faults c.receive.new.link)
    c.in-Err-receive.ensures.receives short live before nothing more (fits c.args.machine.now c.args.collector.now old c.requires.tiles))

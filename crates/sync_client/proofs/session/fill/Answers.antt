use Rattle.std.proofs.Common.{◌∙◌, ap, Err, Result}
use Rattle.sync_net.specs.declared.link.LinkError.{LinkError}
use Rattle.sync_client.specs.Session.{Rules}
use Rattle.sync_client.proofs.ServingTurns.{made_served, none_next, none_served, ask_may_stop}
use Rattle.sync_client.proofs.Turning.{ask_stops, send_stops, send_starves, made_came}
use Rattle.sync_client.proofs.session.fill.Goals as goal

abbrev failure : LinkError → Result (Unit {0}) LinkError
failure x = Err x

pub returns-in-Err-clause-filled : goal.returns-in-Err-clause-filled
returns-in-Err-clause-filled g c o b r k =
    let i = c.loop-frame.invariant in
    ask_stops o g.Op.Spell.written c.loop-frame.machine c.ask.new.machine c.loop-frame.collector c.ask.new.collector b c.in-Err.fault (g.L.Link.wire c.loop-frame.link) (g.L.Link.faults c.loop-frame.link) c.in-Err.ensures.asks i.tiles (i.came o b r k)

pub returns-in-Err-Failed-clause-filled : goal.returns-in-Err-Failed-clause-filled
returns-in-Err-Failed-clause-filled g c o b r k =
    let i = c.loop-frame.invariant in
    let h = rw c.in-Ok-Some.field-0-is at c.in-Ok-Some.ensures.asks in
    let e = c.in-Err-Failed.ensures in
    send_stops o g.Op.Spell.written c.loop-frame.machine c.ask.new.machine c.loop-frame.collector c.ask.new.collector b c.in-Ok-Some.frame.items (g.L.Link.wire c.loop-frame.link) (g.L.Link.wire c.send.new.self) (g.L.Link.faults c.loop-frame.link) (g.L.Link.faults c.send.new.self)
    h (i.came o b r k) (e.cause.failed (ap (λ (x : LinkError). failure x) c.in-Err-Failed.field-0-is)) e.wire_now

pub returns-in-Err-OutOfMemory-clause-filled : goal.returns-in-Err-OutOfMemory-clause-filled
returns-in-Err-OutOfMemory-clause-filled g c o b r k =
    let i = c.loop-frame.invariant in
    let h = rw c.in-Ok-Some.field-0-is at c.in-Ok-Some.ensures.asks in
    let e = c.in-Err-OutOfMemory.ensures in
    send_starves o g.Op.Spell.written c.loop-frame.machine c.ask.new.machine c.loop-frame.collector c.ask.new.collector b c.in-Ok-Some.frame.items (g.L.Link.wire c.loop-frame.link) (g.L.Link.wire c.send.new.self) (g.L.Link.faults c.loop-frame.link) (g.L.Link.faults c.send.new.self)
    h (i.came o b r k) e.cause.later e.wire_now

pub loop-frame-preserved : goal.loop-frame-preserved
loop-frame-preserved g c =
    let i = c.loop-frame.invariant in
    let h = rw c.in-Ok-Some.field-0-is at c.in-Ok-Some.ensures.asks in
    record {
      plan = c.ask.ensures.plan ∙ i.plan;
      kept = c.ask.ensures.kept ∙ i.kept;
      paired = h.3;
      tiles = c.ask.ensures.tiles;
      exact = λ e. c.in-Ok.ensures.exact_count e ∙ i.exact e;
      steady = λ e. (let r = c.in-Ok.ensures.steady_on (i.steady e).0 in (r.0, r.1 ∙ (i.steady e).1));
      came = λ o b r k. made_came o g.Op.Spell.written c.loop-frame.machine c.ask.new.machine c.loop-frame.collector c.ask.new.collector b c.in-Ok-Some.frame.items c.deref.result.now (g.L.Link.wire c.loop-frame.link) (g.L.Link.wire c.send.new.self) (g.L.Link.faults c.loop-frame.link) (g.L.Link.faults c.send.new.self)
          (ap (λ (x : Rules g.row.Op.Denot). x.written) r) h c.deref.ensures.value (i.came o b r k) c.in-Ok.ensures.wire_now c.in-Ok.ensures.cause.later;
      serving = λ held first left b sent w k. made_served g.Op.Spell.reading g.Op.Spell.written g.Op.Leaf.spelling g.Op.Spell.sound sent held first w left c.loop-frame.machine c.ask.new.machine c.loop-frame.collector c.ask.new.collector b c.in-Ok-Some.frame.items c.deref.result.now
          (g.L.Link.service c.loop-frame.link) (g.L.Link.service c.send.new.self) c.in-Ok.field-0 h c.deref.ensures.value (i.serving held first left b sent w k) c.in-Ok.ensures.service_now;
    }

pub returns-in-Ok-None-clause-nothing : goal.returns-in-Ok-None-clause-nothing
returns-in-Ok-None-clause-nothing g c b =
    let h = rw c.in-Ok-None.field-0-is at c.in-Ok-None.ensures.asks in
    none_next g.Op.Spell.written c.loop-frame.machine c.ask.new.machine c.loop-frame.collector c.ask.new.collector b h

pub returns-in-Ok-None-clause-serving : goal.returns-in-Ok-None-clause-serving
returns-in-Ok-None-clause-serving g c held first left b sent w k =
    let i = c.loop-frame.invariant in
    let h = rw c.in-Ok-None.field-0-is at c.in-Ok-None.ensures.asks in
    none_served g.Op.Spell.written held w.log left c.loop-frame.machine c.ask.new.machine c.loop-frame.collector c.ask.new.collector b (g.L.Link.service c.loop-frame.link) h (i.serving held first left b sent w k)

pub returns-in-Err-clause-serving : goal.returns-in-Err-clause-serving
returns-in-Err-clause-serving g c held first left b sent w k =
    let i = c.loop-frame.invariant in
    ask_may_stop g.Op.Spell.written c.loop-frame.machine c.ask.new.machine c.loop-frame.collector c.ask.new.collector c.in-Err.fault c.in-Err.ensures.asks (i.serving held first left b sent w k).live

use Rattle.std.proofs.Common.{◌≡◌, ◌∙◌, ◌<◌, ◌+◌, ◌++◌, ap, sym, subst, length, arith, length-append}
use Rattle.ledger_codec.specs.Sequences.{string_written}
use Rattle.ledger_codec.specs.Frames.{Short, front}
use Rattle.sync_net.specs.View.{MachineView}
use Rattle.sync_client.proofs.Shortness.{short_held}
use Rattle.sync_fetch.specs.Served.{IsDue}
use Rattle.sync_fetch.proofs.Serving.{answered_due, held_due, recv_due, recv_may_stop}
use Rattle.sync_fetch.proofs.Waiting.{held_stops, recv_stops, recv_fed, recv_told, recv_drawn}
use Rattle.sync_fetch.proofs.exchange.next_answer.Goals as goal

pub returns-in-Err-clause-answers : goal.returns-in-Err-clause-answers
returns-in-Err-clause-answers g c =
    let i = c.loop-answer.invariant in
    held_stops g.Op.Spell.reading c.args.machine.now c.loop-answer.machine c.answer_held.new.machine i.given.0 (g.L.Link.wire c.args.link.now) (g.L.Link.wire c.loop-answer.link) (g.L.Link.faults c.args.link.now) (g.L.Link.faults c.loop-answer.link) c.in-Err.fault c.in-Err.ensures i.given.1 c.requires.live i.given.2 i.given.3 i.later

pub loop-answer-smaller : goal.loop-answer-smaller
loop-answer-smaller g c =
    let t = rw c.in-Ok-None.field-0-is at c.in-Ok-None.ensures in
    let h = c.in-Ok.ensures.receives in
    let short : length c.loop-answer.machine.held < 10485766 = short_held 10485760 c.loop-answer.machine.held t.1 in
    let same : length c.answer_held.new.machine.held ≡ length c.loop-answer.machine.held = ap (λ (v : MachineView). length v.held) t.2 in
    let grown : length c.receive.new.machine.held ≡ length c.answer_held.new.machine.held + length h.0 = ap (λ (v : MachineView). length v.held) h.2 ∙ length-append c.answer_held.new.machine.held h.0 in
    let some : 0 < length h.0 = h.1 in
    omega (arith, short, same, grown, some)

pub loop-answer-preserved : goal.loop-answer-preserved
loop-answer-preserved g c =
    let i = c.loop-answer.invariant in
    let t = rw c.in-Ok-None.field-0-is at c.in-Ok-None.ensures in
    let h = c.in-Ok.ensures.receives in
    record {
      room = omega (arith, i.room, c.receive.auto.buffer);
      most = omega (arith, i.most, c.receive.auto.buffer);
      later = let a = i.later in let b = h.4 in omega arith;
      exact = λ e. c.in-Ok.ensures.exact e ∙ i.exact e;
      steady = λ e. (let r = c.in-Ok.ensures.steady (i.steady e).0 in (r.0, r.1 ∙ (i.steady e).1));
      given = (i.given.0 ++ h.0, recv_fed c.args.machine.now c.answer_held.new.machine c.receive.new.machine i.given.0 h.0 h.2 (t.2 ∙ i.given.1), recv_told (g.L.Link.wire c.args.link.now) (g.L.Link.wire c.loop-answer.link) (g.L.Link.wire c.receive.new.link) i.given.0 h.0 i.given.2 h.3, recv_drawn c.args.machine.now c.loop-answer.machine i.given.0 h.0 i.given.1 t.1 h.5);
      serving = λ held body small d.
          let due = subst (λ (v : MachineView). IsDue held (string_written body) v.held (g.L.Link.service c.loop-answer.link)) (sym t.2) (i.serving held body small d) in
          let short : front 10485760 c.answer_held.new.machine.held ≡ Short = ap (λ (v : MachineView). front 10485760 v.held) t.2 ∙ t.1 in
          recv_due held body small c.answer_held.new.machine c.receive.new.machine (g.L.Link.service c.loop-answer.link) (g.L.Link.service c.receive.new.link) c.in-Ok.field-0 due short c.in-Ok.ensures.gives;
    }

pub returns-in-Err-receive-clause-answers : goal.returns-in-Err-receive-clause-answers
returns-in-Err-receive-clause-answers g c =
    let i = c.loop-answer.invariant in
    let t = rw c.in-Ok-None.field-0-is at c.in-Ok-None.ensures in
    let short : front 10485760 c.answer_held.new.machine.held ≡ Short = ap (λ (v : MachineView). front 10485760 v.held) t.2 ∙ t.1 in
    recv_stops g.Op.Spell.reading c.args.machine.now c.answer_held.new.machine c.receive.new.machine i.given.0 (g.L.Link.wire c.args.link.now) (g.L.Link.wire c.loop-answer.link) (g.L.Link.wire c.receive.new.link) (g.L.Link.faults c.args.link.now) (g.L.Link.faults c.loop-answer.link) (g.L.Link.faults c.receive.new.link) c.in-Err-receive.fault
    c.in-Err-receive.ensures.receives short (t.2 ∙ i.given.1) i.given.2 i.given.3 i.later

pub returns-in-Ok-Some-clause-serving : goal.returns-in-Ok-Some-clause-serving
returns-in-Ok-Some-clause-serving g c held body small d =
    let i = c.loop-answer.invariant in
    let h = rw c.in-Ok-Some.field-0-is at c.in-Ok-Some.ensures in
    answered_due held body small g.Op.Spell.reading c.args.machine.now c.loop-answer.machine c.answer_held.new.machine i.given.0 i.given.1 c.requires.live c.in-Ok-Some.answer (g.L.Link.service c.loop-answer.link) (i.serving held body small d) h

pub returns-in-Err-clause-serving : goal.returns-in-Err-clause-serving
returns-in-Err-clause-serving g c held body small d =
    let i = c.loop-answer.invariant in
    held_due held body small g.Op.Spell.reading c.args.machine.now c.loop-answer.machine c.answer_held.new.machine i.given.0 i.given.1 c.requires.live c.in-Err.fault (g.L.Link.service c.loop-answer.link) (i.serving held body small d) c.in-Err.ensures

pub returns-in-Err-receive-clause-serving : goal.returns-in-Err-receive-clause-serving
returns-in-Err-receive-clause-serving g c held body small d =
    let i = c.loop-answer.invariant in
    let t = rw c.in-Ok-None.field-0-is at c.in-Ok-None.ensures in
    let due = subst (λ (v : MachineView). IsDue held (string_written body) v.held (g.L.Link.service c.loop-answer.link)) (sym t.2) (i.serving held body small d) in
    let short : front 10485760 c.answer_held.new.machine.held ≡ Short = ap (λ (v : MachineView). front 10485760 v.held) t.2 ∙ t.1 in
    recv_may_stop held body small g.Op.Spell.reading c.args.machine.now c.answer_held.new.machine c.receive.new.machine c.in-Err-receive.fault (g.L.Link.service c.loop-answer.link) (g.L.Link.service c.receive.new.link) (g.L.Link.wire c.loop-answer.link) (g.L.Link.wire c.receive.new.link) (g.L.Link.faults c.loop-answer.link) (g.L.Link.faults c.receive.new.link) due short c.in-Err-receive.ensures.gives c.in-Err-receive.ensures.receives

use Rattle.std.proofs.Common.{◌∙◌, ◌<◌, ap, refl, arith}
use Rattle.sync_net.specs.View.{MachineView}
use Rattle.sync_fetch.proofs.Serving.{never_stray, reply_due, stops_due}
use Rattle.sync_fetch.proofs.Waiting.{waited_first, waited_stray, stray_stops, reply_came, wait_stops}
use Rattle.sync_fetch.proofs.exchange.await_reply.Goals as goal

pub loop-message-init : goal.loop-message-init
loop-message-init g c =
    record {
      room = omega arith;
      most = omega arith;
      live = c.requires.live;
      strays = omega arith;
      later = omega arith;
      exact = λ e. refl;
      steady = λ s. (s, refl);
      waited = λ p e. waited_first g.Op.Spell.reading p c.args.machine.now (g.L.Link.wire c.args.link.now) (g.L.Link.faults c.args.link.now) e;
      serving = λ held p body reply small spelled number one d. (d, one);
    }

pub returns-in-Ok-Reply-clause-awaits : goal.returns-in-Ok-Reply-clause-awaits
returns-in-Ok-Reply-clause-awaits g c p e =
    let i = c.loop-message.invariant in
    let a = rw c.in-Ok-Reply.field-0-is at c.in-Ok-Reply.ensures.answers in
    reply_came g.Op.Spell.reading p c.args.machine.now (g.L.Link.wire c.args.link.now) (g.L.Link.faults c.args.link.now) c.loop-message.machine c.next_answer.new.machine (g.L.Link.wire c.loop-message.link) (g.L.Link.wire c.next_answer.new.link) (g.L.Link.faults c.loop-message.link) (g.L.Link.faults c.next_answer.new.link) c.loop-message.strays
    c.in-Ok-Reply.field-0-0 c.in-Ok-Reply.field-0-1 c.in-Ok-Reply.message (i.waited p e) a

pub returns-in-Ok-Reply-clause-later : goal.returns-in-Ok-Reply-clause-later
returns-in-Ok-Reply-clause-later g c =
    let a = rw c.in-Ok-Reply.field-0-is at c.in-Ok-Reply.ensures.answers in
    omega (arith, c.loop-message.invariant.later, a.2)

pub returns-then-strays-ge-MAX_STRAYS-clause-awaits : goal.returns-then-strays-ge-MAX_STRAYS-clause-awaits
returns-then-strays-ge-MAX_STRAYS-clause-awaits g c p e =
    let i = c.loop-message.invariant in
    let a = rw c.in-Ok-Stray.field-0-is at c.in-Ok-Stray.ensures.answers in
    stray_stops g.Op.Spell.reading p c.args.machine.now (g.L.Link.wire c.args.link.now) (g.L.Link.faults c.args.link.now) c.loop-message.machine c.next_answer.new.machine (g.L.Link.wire c.loop-message.link) (g.L.Link.wire c.next_answer.new.link) (g.L.Link.faults c.loop-message.link) (g.L.Link.faults c.next_answer.new.link) c.loop-message.strays
    c.in-Ok-Stray.field-0-0 (i.waited p e) a c.if-strays-ge-MAX_STRAYS.true

pub loop-message-preserved : goal.loop-message-preserved
loop-message-preserved g c =
    let i = c.loop-message.invariant in
    let a = rw c.in-Ok-Stray.field-0-is at c.in-Ok-Stray.ensures.answers in
    let below : c.loop-message.strays < 1024 = c.if-strays-ge-MAX_STRAYS.false in
    record {
      room = omega (arith, i.room, c.next_answer.auto.buffer);
      most = omega (arith, i.most, c.next_answer.auto.buffer);
      live = ap (λ (v : MachineView). v.closed) a.3.7 ∙ a.3.3;
      strays = omega (arith, below);
      later = omega (arith, i.later, a.2);
      exact = λ e. c.in-Ok-Stray.ensures.exact e ∙ i.exact e;
      steady = λ e. (let r = c.in-Ok-Stray.ensures.steady (i.steady e).0 in (r.0, r.1 ∙ (i.steady e).1));
      waited = λ p e. waited_stray g.Op.Spell.reading p c.args.machine.now (g.L.Link.wire c.args.link.now) (g.L.Link.faults c.args.link.now) c.loop-message.machine c.next_answer.new.machine (g.L.Link.wire c.loop-message.link) (g.L.Link.wire c.next_answer.new.link) (g.L.Link.faults c.loop-message.link) (g.L.Link.faults c.next_answer.new.link) c.loop-message.strays
          c.in-Ok-Stray.field-0-0 (i.waited p e) a below;
      serving = λ held p body reply small spelled number one d.
          let k = i.serving held p body reply small spelled number one d in
          let s = c.in-Ok-Stray.ensures.serving held body small k.0 in
          let t = rw c.in-Ok-Stray.field-0-is at s in
          absurd (never_stray held body small g.Op.Spell.reading p reply spelled number c.loop-message.machine c.next_answer.new.machine k.1 c.in-Ok-Stray.field-0-0 (g.L.Link.service c.next_answer.new.link) t);
    }

pub returns-in-Err-clause-awaits : goal.returns-in-Err-clause-awaits
returns-in-Err-clause-awaits g c p e =
    let i = c.loop-message.invariant in
    wait_stops g.Op.Spell.reading p c.args.machine.now (g.L.Link.wire c.args.link.now) (g.L.Link.faults c.args.link.now) c.loop-message.machine c.next_answer.new.machine (g.L.Link.wire c.loop-message.link) (g.L.Link.wire c.next_answer.new.link) (g.L.Link.faults c.loop-message.link) (g.L.Link.faults c.next_answer.new.link) c.loop-message.strays
    c.in-Err.fault (i.waited p e) i.live c.in-Err.ensures.answers

pub returns-in-Ok-Reply-clause-serving : goal.returns-in-Ok-Reply-clause-serving
returns-in-Ok-Reply-clause-serving g c held p body reply small spelled number one d =
    let k = c.loop-message.invariant.serving held p body reply small spelled number one d in
    let s = c.in-Ok-Reply.ensures.serving held body small k.0 in
    let t = rw c.in-Ok-Reply.field-0-is at s in
    reply_due held body small g.Op.Spell.reading p reply spelled number c.loop-message.machine c.next_answer.new.machine k.1 c.in-Ok-Reply.field-0-0 c.in-Ok-Reply.field-0-1 c.in-Ok-Reply.message (g.L.Link.service c.next_answer.new.link) t

pub returns-then-strays-ge-MAX_STRAYS-clause-serving : goal.returns-then-strays-ge-MAX_STRAYS-clause-serving
returns-then-strays-ge-MAX_STRAYS-clause-serving g c held p body reply small spelled number one d =
    let k = c.loop-message.invariant.serving held p body reply small spelled number one d in
    let s = c.in-Ok-Stray.ensures.serving held body small k.0 in
    let t = rw c.in-Ok-Stray.field-0-is at s in
    absurd (never_stray held body small g.Op.Spell.reading p reply spelled number c.loop-message.machine c.next_answer.new.machine k.1 c.in-Ok-Stray.field-0-0 (g.L.Link.service c.next_answer.new.link) t)

pub returns-in-Err-clause-serving : goal.returns-in-Err-clause-serving
returns-in-Err-clause-serving g c held p body reply small spelled number one d =
    let i = c.loop-message.invariant in
    let k = i.serving held p body reply small spelled number one d in
    stops_due held body small g.Op.Spell.reading p reply spelled number c.loop-message.machine c.next_answer.new.machine k.1 c.in-Err.fault (g.L.Link.service c.next_answer.new.link) i.live (c.in-Err.ensures.serving held body small k.0)

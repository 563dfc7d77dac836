use Rattle.std.proofs.Common.{◌≡◌, ◌≤◌, [], ◌∷◌, false, refl, ap, arith}
use Rattle.ledger_codec.specs.Held.{Held}
use Rattle.sync_net.specs.Messages.{message_at, message_written}
use Rattle.sync_shared.specs.Replies.{Missed}
use Rattle.sync_sessions.specs.Hearing.{message_of, frame_of}
use Rattle.sync_sessions.specs.Replying.{RepliedIn}
use Rattle.sync_sessions.specs.Turns.{AnswersAll, IsSpent}
use Rattle.sync_sessions.proofs.Chaining.{answers_none, answers_then}
use Rattle.sync_sessions.proofs.Coming.{came_first, came_message, runs_out, runs_into, goes_on}
use Rattle.sync_sessions.proofs.session.run_session.Goals as goal

pub loop-init : goal.loop-init
loop-init g c = record {
  limit = ap (λ (h : Held). h.limit) c.new-frames.ensures;
  room = omega arith;
  belongs = c.requires;
  later = omega arith;
  came = came_first (message_of (message_at g.F.Op.Spell.reading)) (frame_of (message_written g.F.Op.Spell.written)) (AnswersAll g.F.Family.floor_of c.args.shared.now.opening g.F.Op.Leaf.spelling) c.args.pass.now (g.L.Link.wire c.args.link.now) c.new-frames.result.bytes (ap (λ (h : Held). h.bytes) c.new-frames.ensures) (answers_none g.F.Family.floor_of c.args.shared.now.opening g.F.Op.Leaf.spelling c.args.pass.now c.requires.1);
}

pub returns-in-Err-clause-runs : goal.returns-in-Err-clause-runs
returns-in-Err-clause-runs g c =
    let i = c.loop.invariant in
    runs_out (message_of (message_at g.F.Op.Spell.reading)) (frame_of (message_written g.F.Op.Spell.written)) (AnswersAll g.F.Family.floor_of c.args.shared.now.opening g.F.Op.Leaf.spelling) Missed IsSpent c.in-Err.end c.args.pass.now c.loop.pass (g.L.Link.wire c.args.link.now) (g.L.Link.wire c.loop.link) (g.L.Link.wire c.next_message.new.link) c.loop.frames.bytes (g.L.Link.faults c.args.link.now) (g.L.Link.faults c.loop.link) (g.L.Link.faults c.next_message.new.link) i.later i.came c.in-Err.ensures.next

pub returns-in-Err-answer-clause-runs : goal.returns-in-Err-answer-clause-runs
returns-in-Err-answer-clause-runs g c =
    let i = c.loop.invariant in
    let le : g.L.Link.faults c.args.link.now ≤ g.L.Link.faults c.next_message.new.link = (let a = i.later in let b = c.in-Ok.ensures.later in omega arith) in
    let came = came_message (message_of (message_at g.F.Op.Spell.reading)) (frame_of (message_written g.F.Op.Spell.written)) (AnswersAll g.F.Family.floor_of c.args.shared.now.opening g.F.Op.Leaf.spelling) c.args.pass.now c.loop.pass (g.L.Link.wire c.args.link.now) (g.L.Link.wire c.loop.link) (g.L.Link.wire c.next_message.new.link) c.loop.frames.bytes c.next_message.new.frames.bytes c.in-Ok.message i.came c.in-Ok.ensures.next in
    runs_into (message_of (message_at g.F.Op.Spell.reading)) (frame_of (message_written g.F.Op.Spell.written)) (AnswersAll g.F.Family.floor_of c.args.shared.now.opening g.F.Op.Leaf.spelling) Missed IsSpent (RepliedIn g.F.Family.floor_of c.args.shared.now.opening g.F.Op.Leaf.spelling) c.args.pass.now (answers_then g.F.Family.floor_of c.args.shared.now.opening g.F.Op.Leaf.spelling c.args.pass.now) c.in-Err-answer.end c.loop.pass c.answer.new.pass (g.L.Link.wire c.args.link.now) (g.L.Link.wire c.next_message.new.link) (g.L.Link.wire c.answer.new.link) c.next_message.new.frames.bytes c.in-Ok.message (g.L.Link.faults c.args.link.now) (g.L.Link.faults c.next_message.new.link) (g.L.Link.faults c.answer.new.link) le came c.in-Err-answer.ensures.turns

pub loop-preserved : goal.loop-preserved
loop-preserved g c =
    let i = c.loop.invariant in
    let came = came_message (message_of (message_at g.F.Op.Spell.reading)) (frame_of (message_written g.F.Op.Spell.written)) (AnswersAll g.F.Family.floor_of c.args.shared.now.opening g.F.Op.Leaf.spelling) c.args.pass.now c.loop.pass (g.L.Link.wire c.args.link.now) (g.L.Link.wire c.loop.link) (g.L.Link.wire c.next_message.new.link) c.loop.frames.bytes c.next_message.new.frames.bytes c.in-Ok.message i.came c.in-Ok.ensures.next in
    record {
      limit = c.in-Ok.ensures.limit;
      room = omega (arith, i.room, c.next_message.auto.buffer);
      belongs = c.in-Ok-answer.ensures.belongs;
      later = let a = i.later in let b = c.in-Ok.ensures.later in let d = c.in-Ok-answer.ensures.later in omega arith;
      came = goes_on (message_of (message_at g.F.Op.Spell.reading)) (frame_of (message_written g.F.Op.Spell.written)) (AnswersAll g.F.Family.floor_of c.args.shared.now.opening g.F.Op.Leaf.spelling) Missed IsSpent (RepliedIn g.F.Family.floor_of c.args.shared.now.opening g.F.Op.Leaf.spelling) c.args.pass.now (answers_then g.F.Family.floor_of c.args.shared.now.opening g.F.Op.Leaf.spelling c.args.pass.now) c.loop.pass c.answer.new.pass (g.L.Link.wire c.args.link.now) (g.L.Link.wire c.next_message.new.link) (g.L.Link.wire c.answer.new.link) c.next_message.new.frames.bytes c.in-Ok.message (g.L.Link.faults c.next_message.new.link) (g.L.Link.faults c.answer.new.link) came c.in-Ok-answer.ensures.turns;
    }

use Rattle.std.proofs.Common.{◌≡◌, ◌≤◌, [], ◌∷◌, false, refl, ap, arith}
use Rattle.ledger_codec.specs.Held.{Held}
use Rattle.sync_net.specs.Messages.{message_at, message_written}
use Rattle.sync_sessions.specs.Compact.{RepliesOf, IsCompactReply, KeepsAll, NeverSpent}
use Rattle.sync_sessions.specs.Hearing.{message_of, frame_of}
use Rattle.sync_sessions.proofs.Chaining.{compact_then}
use Rattle.sync_sessions.proofs.Coming.{came_first, came_message, runs_out, runs_into, goes_on}
use Rattle.sync_sessions.proofs.compact.run_compact.Goals as goal

pub loop-init : goal.loop-init
loop-init g c = record {
  limit = ap (λ (h : Held). h.limit) c.new-frames.ensures;
  room = omega arith;
  later = omega arith;
  came = came_first (message_of (message_at g.F.Op.Spell.reading)) (frame_of (message_written g.F.Op.Spell.written)) (RepliesOf (g.DB.CompactSyncable.kept c.args.served.now)) tt (g.L.Link.wire c.args.link.now) c.new-frames.result.bytes (ap (λ (h : Held). h.bytes) c.new-frames.ensures) refl;
}

pub returns-in-Err-clause-runs : goal.returns-in-Err-clause-runs
returns-in-Err-clause-runs g c =
    let i = c.loop.invariant in
    runs_out (message_of (message_at g.F.Op.Spell.reading)) (frame_of (message_written g.F.Op.Spell.written)) (RepliesOf (g.DB.CompactSyncable.kept c.args.served.now)) KeepsAll NeverSpent c.in-Err.end tt tt (g.L.Link.wire c.args.link.now) (g.L.Link.wire c.loop.link) (g.L.Link.wire c.next_message.new.link) c.loop.frames.bytes (g.L.Link.faults c.args.link.now) (g.L.Link.faults c.loop.link) (g.L.Link.faults c.next_message.new.link) i.later i.came c.in-Err.ensures.next

pub returns-in-Err-answer-clause-runs : goal.returns-in-Err-answer-clause-runs
returns-in-Err-answer-clause-runs g c =
    let i = c.loop.invariant in
    let le : g.L.Link.faults c.args.link.now ≤ g.L.Link.faults c.next_message.new.link = (let a = i.later in let b = c.in-Ok.ensures.later in omega arith) in
    let came = came_message (message_of (message_at g.F.Op.Spell.reading)) (frame_of (message_written g.F.Op.Spell.written)) (RepliesOf (g.DB.CompactSyncable.kept c.args.served.now)) tt tt (g.L.Link.wire c.args.link.now) (g.L.Link.wire c.loop.link) (g.L.Link.wire c.next_message.new.link) c.loop.frames.bytes c.next_message.new.frames.bytes c.in-Ok.message i.came c.in-Ok.ensures.next in
    runs_into (message_of (message_at g.F.Op.Spell.reading)) (frame_of (message_written g.F.Op.Spell.written)) (RepliesOf (g.DB.CompactSyncable.kept c.args.served.now)) KeepsAll NeverSpent (IsCompactReply (g.DB.CompactSyncable.kept c.args.served.now)) tt (compact_then (g.DB.CompactSyncable.kept c.args.served.now)) c.in-Err-answer.end tt tt (g.L.Link.wire c.args.link.now) (g.L.Link.wire c.next_message.new.link) (g.L.Link.wire c.answer.new.link) c.next_message.new.frames.bytes c.in-Ok.message (g.L.Link.faults c.args.link.now) (g.L.Link.faults c.next_message.new.link) (g.L.Link.faults c.answer.new.link) le came c.in-Err-answer.ensures.turns

pub loop-preserved : goal.loop-preserved
loop-preserved g c =
    let i = c.loop.invariant in
    let came = came_message (message_of (message_at g.F.Op.Spell.reading)) (frame_of (message_written g.F.Op.Spell.written)) (RepliesOf (g.DB.CompactSyncable.kept c.args.served.now)) tt tt (g.L.Link.wire c.args.link.now) (g.L.Link.wire c.loop.link) (g.L.Link.wire c.next_message.new.link) c.loop.frames.bytes c.next_message.new.frames.bytes c.in-Ok.message i.came c.in-Ok.ensures.next in
    record {
      limit = c.in-Ok.ensures.limit;
      room = omega (arith, i.room, c.next_message.auto.buffer);
      later = let a = i.later in let b = c.in-Ok.ensures.later in let d = c.in-Ok-answer.ensures.later in omega arith;
      came = goes_on (message_of (message_at g.F.Op.Spell.reading)) (frame_of (message_written g.F.Op.Spell.written)) (RepliesOf (g.DB.CompactSyncable.kept c.args.served.now)) KeepsAll NeverSpent (IsCompactReply (g.DB.CompactSyncable.kept c.args.served.now)) tt (compact_then (g.DB.CompactSyncable.kept c.args.served.now)) tt tt (g.L.Link.wire c.args.link.now) (g.L.Link.wire c.next_message.new.link) (g.L.Link.wire c.answer.new.link) c.next_message.new.frames.bytes c.in-Ok.message (g.L.Link.faults c.next_message.new.link) (g.L.Link.faults c.answer.new.link) came c.in-Ok-answer.ensures.turns;
    }

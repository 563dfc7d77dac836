use Rattle.std.proofs.Common.{[], ◌∷◌, false, arith}
use Rattle.sync_sessions.specs.Hearing.{message_of, frame_of}
use Rattle.sync_sessions.proofs.Adding.{heard_none, heard_then, stops_then}
use Rattle.sync_sessions.proofs.hearing.next_message.Goals as goal

pub step-requires-clause-limit : goal.step-requires-clause-limit
step-requires-clause-limit g c = c.loop.invariant.limit

pub loop-init : goal.loop-init
loop-init g c = record {
  limit = c.requires.limit;
  room = c.requires.room;
  later = omega arith;
  heard = heard_none (message_of g.M.Spell.reading) (frame_of g.M.Spell.written) c.args.frames.now.bytes (g.L.Link.wire c.args.link.now);
}

pub returns-in-Ok-Some-clause-next : goal.returns-in-Ok-Some-clause-next
returns-in-Ok-Some-clause-next g c =
    let t = rw c.in-Ok-Some.field-0-is at c.in-Ok-Some.ensures.stepped in
    heard_then (message_of g.M.Spell.reading) (frame_of g.M.Spell.written) c.args.frames.now.bytes c.loop.frames.bytes c.step.new.frames.bytes (g.L.Link.wire c.args.link.now) (g.L.Link.wire c.loop.link) (g.L.Link.wire c.step.new.link) false [] (c.in-Ok-Some.message ∷ []) [] [] c.loop.invariant.heard t

pub loop-preserved : goal.loop-preserved
loop-preserved g c =
    let t = rw c.in-Ok-None.field-0-is at c.in-Ok-None.ensures.stepped in
    let i = c.loop.invariant in
    record {
      limit = c.in-Ok-None.ensures.limit;
      room = omega (arith, i.room, c.step.auto.buffer);
      later = let a = i.later in let b = c.in-Ok-None.ensures.later in omega arith;
      heard = heard_then (message_of g.M.Spell.reading) (frame_of g.M.Spell.written) c.args.frames.now.bytes c.loop.frames.bytes c.step.new.frames.bytes (g.L.Link.wire c.args.link.now) (g.L.Link.wire c.loop.link) (g.L.Link.wire c.step.new.link) false [] [] [] [] i.heard t;
    }

pub returns-in-Err-clause-next : goal.returns-in-Err-clause-next
returns-in-Err-clause-next g c =
    stops_then (message_of g.M.Spell.reading) (frame_of g.M.Spell.written) c.in-Err.end c.args.frames.now.bytes c.loop.frames.bytes (g.L.Link.wire c.args.link.now) (g.L.Link.wire c.loop.link) (g.L.Link.wire c.step.new.link) (g.L.Link.faults c.args.link.now) (g.L.Link.faults c.loop.link) (g.L.Link.faults c.step.new.link) c.loop.invariant.later c.loop.invariant.heard c.in-Err.ensures.stepped

use Rattle.sync_sessions.specs.Hearing.{message_of, frame_of}
use Rattle.sync_sessions.proofs.Adding.{took_message, took_other, took_none, received_none}
use Rattle.sync_sessions.proofs.hearing.step.Goals as goal

pub returns-in-Ok-Sent-clause-stepped : goal.returns-in-Ok-Sent-clause-stepped
returns-in-Ok-Sent-clause-stepped g c =
    let t = rw c.in-Ok-Sent.field-0-is at c.in-Ok-Sent.ensures.takes in
    took_message (message_of g.M.Spell.reading) (frame_of g.M.Spell.written) c.args.frames.now c.take_first.new.frames (g.L.Link.wire c.args.link.now) c.in-Ok-Sent.message c.requires.limit t

pub returns-in-Ok-Other-clause-stepped : goal.returns-in-Ok-Other-clause-stepped
returns-in-Ok-Other-clause-stepped g c =
    let t = rw c.in-Ok-Other.field-0-is at c.in-Ok-Other.ensures.takes in
    took_other (message_of g.M.Spell.reading) (frame_of g.M.Spell.written) c.args.frames.now c.take_first.new.frames (g.L.Link.wire c.args.link.now) c.requires.limit t

pub returns-in-Err-clause-stepped : goal.returns-in-Err-clause-stepped
returns-in-Err-clause-stepped g c =
    took_none (message_of g.M.Spell.reading) (frame_of g.M.Spell.written) c.in-Err.end c.args.frames.now c.take_first.new.frames (g.L.Link.wire c.args.link.now) (g.L.Link.faults c.args.link.now) (g.L.Link.faults c.args.link.now) c.requires.limit c.in-Err.ensures.takes

pub returns-in-Err-receive-clause-stepped : goal.returns-in-Err-receive-clause-stepped
returns-in-Err-receive-clause-stepped g c =
    let t = rw c.in-Ok-Part.field-0-is at c.in-Ok-Part.ensures.takes in
    received_none (message_of g.M.Spell.reading) (frame_of g.M.Spell.written) c.in-Err-receive.end c.args.frames.now c.take_first.new.frames c.receive.new.frames.bytes (g.L.Link.wire c.args.link.now) (g.L.Link.wire c.receive.new.link) (g.L.Link.faults c.args.link.now) (g.L.Link.faults c.receive.new.link) c.requires.limit t c.in-Err-receive.ensures.receives

use Rattle.std.proofs.Common.{◌≡◌, ◌<◌, ◌≤◌, ℕ, false, [], length}
use Rattle.sync_net.specs.Messages.{message_at, message_written}
use Rattle.sync_shared.specs.Replies.{Belongs}
use Rattle.sync_sessions.specs.Hearing.{message_of, frame_of}
use Rattle.sync_sessions.specs.Sessions.{Came}
use Rattle.sync_sessions.specs.Turns.{AnswersAll}
use Rattle.sync_sessions.proofs.session.run_session.Given as goal

abbrev pub invariant-loop : goal.invariant-loop
invariant-loop g l =
    record {
      limit : l.frames.limit ≡ 10485760;
      room : 0 < length l.buffer;
      belongs : Belongs l.fn.shared.from l.pass;
      later : g.L.Link.faults l.fn.link ≤ g.L.Link.faults l.link;
      came : Came (message_of (message_at g.F.Op.Spell.reading)) (frame_of (message_written g.F.Op.Spell.written)) (AnswersAll g.F.Family.floor_of l.fn.shared.opening g.F.Op.Leaf.spelling) l.fn.pass l.pass (g.L.Link.wire l.fn.link) (g.L.Link.wire l.link) false l.frames.bytes [] [];
    }

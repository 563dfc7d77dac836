use Rattle.std.proofs.Common.{◌≡◌, ◌<◌, ◌≤◌, ℕ, false, [], length}
use Rattle.sync_sessions.specs.Hearing.{message_of, frame_of, Heard}
use Rattle.sync_sessions.proofs.hearing.next_message.Given as goal

abbrev pub invariant-loop : goal.invariant-loop
invariant-loop g l =
    record {
      limit : l.frames.limit ≡ 10485760;
      room : 0 < length l.buffer;
      later : g.L.Link.faults l.fn.link ≤ g.L.Link.faults l.link;
      heard : Heard (message_of g.M.Spell.reading) (frame_of g.M.Spell.written) l.fn.frames.bytes l.frames.bytes (g.L.Link.wire l.fn.link) (g.L.Link.wire l.link) false [] [];
    }

use Rattle.std.proofs.Common.{◌≡◌, ◌<◌, ◌≤◌, ℕ, false, [], length}
use Rattle.sync_net.specs.Messages.{message_at, message_written}
use Rattle.sync_sessions.specs.Compact.{RepliesOf}
use Rattle.sync_sessions.specs.Hearing.{message_of, frame_of}
use Rattle.sync_sessions.specs.Sessions.{Came}
use Rattle.sync_sessions.proofs.compact.run_compact.Given as goal

abbrev pub invariant-loop : goal.invariant-loop
invariant-loop g l =
    record {
      limit : l.frames.limit ≡ 10485760;
      room : 0 < length l.buffer;
      later : g.L.Link.faults l.fn.link ≤ g.L.Link.faults l.link;
      came : Came (message_of (message_at g.F.Op.Spell.reading)) (frame_of (message_written g.F.Op.Spell.written)) (RepliesOf (g.DB.CompactSyncable.kept l.fn.served)) tt tt (g.L.Link.wire l.fn.link) (g.L.Link.wire l.link) false l.frames.bytes [] [];
    }

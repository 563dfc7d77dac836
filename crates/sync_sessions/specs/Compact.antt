-- What a session does with a log that never changes.
use Rattle.std.specs.Prelude.{◌≡◌, ℕ, List, map, Option}
use Rattle.sha2.specs.Sha256.{sha256}
use Rattle.ledger_codec.specs.Parsing.{Parsed}
use Rattle.ledger_compact.specs.View.{CompactView}
use Rattle.sync_net.specs.declared.message.Message.{Message}
use Rattle.sync_net.specs.Messages.{message_at, message_written}
use Rattle.sync_net.specs.Wire.{Wire}
use Rattle.sync_compact.specs.Core.{compact_core}
use Rattle.sync_sessions.specs.declared.ending.SessionEnd.{SessionEnd}
use Rattle.sync_sessions.specs.Hearing.{message_of, frame_of}
use Rattle.sync_sessions.specs.Sessions.{RunsTo}

-- each reply is the core's over what is kept of the log
abbrev pub RepliesOf : {Op : Type 0} → Option (CompactView Op) → Unit {0} → List (Message Op) → List (Message Op) → Unit {0} → Type 0
RepliesOf kept p messages replies q = replies ≡ map (compact_core sha256 kept) messages

-- one such reply
abbrev pub IsCompactReply : {Op : Type 0} → Option (CompactView Op) → Unit {0} → Message Op → Message Op → Unit {0} → Type 0
IsCompactReply kept p m reply q = reply ≡ compact_core sha256 kept m

-- nothing changes where memory is wanting
abbrev pub KeepsAll : Unit {0} → Unit {0} → Type 0
KeepsAll p q = Unit {0}

-- there is no end of turns
abbrev pub NeverSpent : Unit {0} → Type 0
NeverSpent p = ⊥

-- what a session does with a link
abbrev pub CompactRun : {Op : Type 0} → (List ℕ → Parsed Op) → (Op → List ℕ) → Option (CompactView Op) → SessionEnd → Option Wire → Option Wire → ℕ → ℕ → Type 0
CompactRun read written kept end before now count risen = RunsTo (message_of (message_at read)) (frame_of (message_written written)) (RepliesOf kept) KeepsAll NeverSpent end tt tt before now count risen

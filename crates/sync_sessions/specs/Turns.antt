-- What a session does with a shared log and its pass.
use Rattle.std.specs.Prelude.{◌≡◌, ℕ, ◌+◌, List, [], ◌∷◌, ◌++◌, length, map, Option}
use Rattle.sha2.specs.Sha256.{sha256}
use Rattle.ledger_log.specs.View.{LogView, log_size, log_floor}
use Rattle.ledger_codec.specs.Parsing.{Parsed}
use Rattle.sync_net.specs.Core.{core}
use Rattle.sync_net.specs.declared.message.Message.{Message}
use Rattle.sync_net.specs.Messages.{message_at, message_written}
use Rattle.sync_net.specs.Wire.{Wire}
use Rattle.turn_lock.specs.declared.entry.Entry.{Entry}
use Rattle.turn_lock.specs.History.{Legal, calls, entry, IsBeginning}
use Rattle.turn_lock.specs.Passes.{PassValue}
use Rattle.sync_shared.specs.Calls.{after_call, Answers}
use Rattle.sync_shared.specs.declared.event.Event.{Event}
use Rattle.sync_shared.specs.declared.event.Event.TheVariants.{Request}
use Rattle.sync_shared.specs.declared.event.EventOutcome.{EventOutcome}
use Rattle.sync_shared.specs.declared.event.EventOutcome.TheVariants.{Replied}
use Rattle.sync_shared.specs.Replies.{log_after, later, Missed}
use Rattle.sync_sessions.specs.declared.ending.SessionEnd.{SessionEnd}
use Rattle.sync_sessions.specs.Hearing.{message_of, frame_of}
use Rattle.sync_sessions.specs.Sessions.{RunsTo}

-- of a log that was shared as the opening one
module _ {Op : Type 0} (floor_of : Op → Option ℕ) (opening : LogView Op) (spelling : Op → List ℕ) where
  -- The replies to these messages of a caller, one after the other: each is the core's over the log after the entries
  -- before its own, which are those that were seen before and maybe others behind them. Behind the last entry nothing
  -- was seen.
  abbrev pub Replies : ℕ → List (Entry (Event Op) EventOutcome) → List (Message Op) → List (Message Op) → List (Entry (Event Op) EventOutcome) → Type 0
  Replies caller seen [] [] last = last ≡ seen
  Replies caller seen [] (r ∷ rs) last = ⊥
  Replies caller seen (m ∷ ms) [] last = ⊥
  Replies caller seen (m ∷ ms) (r ∷ rs) last =
      (before : List (Entry (Event Op) EventOutcome)) × IsBeginning seen before
      × (r ≡ core sha256 spelling (log_floor floor_of (log_after opening before)) (log_after opening before) m)
      × Replies caller (before ++ entry caller (Request m) (Replied (log_size (log_after opening before))) ∷ []) ms rs last

  -- A pass got these replies to these messages: a turn and a call of its own for each, in order.
  pub record AnswersAll (p : PassValue (LogView Op) (Event Op) EventOutcome) (messages replies : List (Message Op)) (q : PassValue (LogView Op) (Event Op) EventOutcome) : Type 0 where
    pub pass : q ≡ later p (p.used + length messages) q.seen
    pub own : calls p.caller q.seen ≡ calls p.caller p.seen ++ map Request messages
    pub legal : Legal after_call (Answers floor_of) opening p.seen → Legal after_call (Answers floor_of) opening q.seen
    pub each : Replies p.caller p.seen messages replies q.seen

-- every turn of the pass was taken
abbrev pub IsSpent : {Op : Type 0} → PassValue (LogView Op) (Event Op) EventOutcome → Type 0
IsSpent p = p.used ≡ p.turns

-- what a session does with a pass and a link, whose tellings and count of faults these are before and behind it
abbrev pub Session : {Op : Type 0} → (List ℕ → Parsed Op) → (Op → List ℕ) → (Op → Option ℕ) → LogView Op → (Op → List ℕ) → SessionEnd → PassValue (LogView Op) (Event Op) EventOutcome → PassValue (LogView Op) (Event Op) EventOutcome → Option Wire → Option Wire → ℕ → ℕ → Type 0
Session read written floor_of opening spelling = RunsTo (message_of (message_at read)) (frame_of (message_written written)) (AnswersAll floor_of opening spelling) Missed IsSpent

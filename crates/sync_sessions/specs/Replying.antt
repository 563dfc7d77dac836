-- What becomes of one message.
use Rattle.std.specs.Prelude.{◌≡◌, ◌⊎◌, ℕ, List, Option, Result, Ok, Err, option_map}
use Rattle.ledger_codec.specs.Causes.{Rose}
use Rattle.ledger_log.specs.View.{LogView}
use Rattle.sync_net.specs.declared.message.Message.{Message}
use Rattle.sync_net.specs.Wire.{Wire, with_sent}
use Rattle.turn_lock.specs.Passes.{PassValue}
use Rattle.sync_shared.specs.declared.event.Event.{Event}
use Rattle.sync_shared.specs.declared.event.EventOutcome.{EventOutcome}
use Rattle.sync_shared.specs.Replies.{Served}
use Rattle.sync_sessions.specs.declared.ending.SessionEnd.{SessionEnd}
use Rattle.sync_sessions.specs.declared.ending.SessionEnd.TheVariants.{Done, Network, BrokenFrame, PassSpent, OutOfMemory}

module _ {M : Type 0} (framed : M → List ℕ) where
  -- its frame was sent
  abbrev pub IsSent : M → Option Wire → Option Wire → Type 0
  IsSent m before now = now ≡ option_map (with_sent (framed m)) before

  -- a message is sent, or the link stays as it was, for a fault of its own or want of memory
  abbrev pub Sends : Result (Unit {0}) SessionEnd → M → Option Wire → Option Wire → ℕ → ℕ → Type 0
  Sends (Ok x) m before now count risen = IsSent m before now
  Sends (Err Network) m before now count risen = (now ≡ before) × Rose count risen
  Sends (Err OutOfMemory) m before now count risen = now ≡ before
  Sends (Err Done) m before now count risen = ⊥
  Sends (Err BrokenFrame) m before now count risen = ⊥
  Sends (Err PassSpent) m before now count risen = ⊥

-- of a server in states of type S, of which `Replied p m reply q` says that from p on m got this reply, which led to q
module _ {M S : Type 0} (framed : M → List ℕ) (Replied : S → M → M → S → Type 0) (Missed : S → S → Type 0) (Spent : S → Type 0) where
  -- a message gets a reply, which is sent or not; or it gets none, for want of turns or memory
  abbrev pub Turns : Result (Unit {0}) SessionEnd → S → M → S → Option Wire → Option Wire → ℕ → ℕ → Type 0
  Turns (Ok x) p m q before now count risen = (reply : M) × Replied p m reply q × IsSent framed reply before now
  Turns (Err Network) p m q before now count risen = (reply : M) × Replied p m reply q × (now ≡ before) × Rose count risen
  Turns (Err PassSpent) p m q before now count risen = (now ≡ before) × (q ≡ p) × Spent p
  Turns (Err OutOfMemory) p m q before now count risen = (now ≡ before) × (Missed p q ⊎ ((reply : M) × Replied p m reply q))
  Turns (Err Done) p m q before now count risen = ⊥
  Turns (Err BrokenFrame) p m q before now count risen = ⊥

-- a shared log's reply to a message of the pass p, which is q then
abbrev pub RepliedIn : {Op : Type 0} → (Op → Option ℕ) → LogView Op → (Op → List ℕ) → PassValue (LogView Op) (Event Op) EventOutcome → Message Op → Message Op → PassValue (LogView Op) (Event Op) EventOutcome → Type 0
RepliedIn floor_of opening spelling p m reply q = Served floor_of opening spelling p m q (Ok reply)

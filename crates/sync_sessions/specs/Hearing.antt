-- What comes over a link: frames, and the messages among them.
use Rattle.std.specs.Prelude.{◌≡◌, ◌≢◌, ◌⊎◌, ℕ, Bool, ◌||◌, true, false, List, [], ◌∷◌, ◌++◌, Option, Some, None, Result, Ok, Err, option_map, filter_map, flat_map}
use Rattle.ledger_codec.specs.Causes.{Rose}
use Rattle.ledger_codec.specs.declared.fault.CodecError.{CodecError}
use Rattle.ledger_codec.specs.declared.framing.FrameError.{FrameError}
use Rattle.ledger_codec.specs.Frames.{Short, Bad, front, Leads}
use Rattle.ledger_codec.specs.Parsing.{Parsed}
use Rattle.ledger_codec.specs.Sequences.{all_of, string_written}
use Rattle.sync_net.specs.Wire.{Wire}
use Rattle.sync_sessions.specs.declared.ending.SessionEnd.{SessionEnd}
use Rattle.sync_sessions.specs.declared.ending.SessionEnd.TheVariants.{Done, Network, BrokenFrame, PassSpent, OutOfMemory}

-- of messages of type M
module _ {M : Type 0} where
  -- the message that was read, None where none was
  abbrev pub message_read : Result M CodecError → Option M
  message_read (Ok m) = Some m
  message_read (Err e) = None

  -- the message that all of a frame's body spells, None of another body
  abbrev pub message_of : (List ℕ → Parsed M) → List ℕ → Option M
  message_of read body = message_read (all_of read body)

  -- the frame of a message
  abbrev pub frame_of : (M → List ℕ) → M → List ℕ
  frame_of written m = string_written (written m)

-- what a link tells after it was given and sent these bytes, and maybe the end
abbrev pub wire_after : List ℕ → Bool → List ℕ → Wire → Wire
wire_after given ended sent w = record { given = w.given ++ given; ended = w.ended || ended; sent = w.sent ++ sent }

-- where it tells, it tells that these bytes were given and sent since, and whether the end was given in between
abbrev pub Since : Option Wire → Option Wire → List ℕ → Bool → List ℕ → Type 0
Since before now given ended sent = now ≡ option_map (wire_after given ended sent) before

-- no frame will follow: the rest begins with a bad length, or the end came inside a frame
abbrev pub IsBroken : List ℕ → Bool → Type 0
IsBroken rest ended = ((ended ≡ false) × (fault : FrameError) × (front 10485760 rest ≡ Bad fault)) ⊎ ((ended ≡ true) × (rest ≢ []) × (front 10485760 rest ≡ Short))

-- of messages that bodies of frames spell, and that are framed
module _ {M : Type 0} (spelled : List ℕ → Option M) (framed : M → List ℕ) where
  -- Between two tellings of a link: behind the held bytes others were given; of all these some whole frames were
  -- taken, among which were these messages, and the rest is held; and the frames of the sent messages were sent.
  pub record Heard (held rest : List ℕ) (before now : Option Wire) (ended : Bool) (messages sent : List M) : Type 0 where
    pub given : List ℕ
    pub bodies : List (List ℕ)
    pub led : Leads 10485760 (held ++ given) bodies rest
    pub found : filter_map spelled bodies ≡ messages
    pub told : Since before now given ended (flat_map framed sent)

  -- Why no message came: none of the frames that were taken is one.
  abbrev pub Stops : SessionEnd → List ℕ → Option Wire → Option Wire → ℕ → ℕ → Type 0
  Stops Done held before now count risen = Heard held [] before now true [] []
  Stops Network held before now count risen = Rose count risen × (rest : List ℕ) × Heard held rest before now false [] [] × (front 10485760 rest ≡ Short)
  Stops BrokenFrame held before now count risen = (rest : List ℕ) × (ended : Bool) × Heard held rest before now ended [] [] × IsBroken rest ended
  Stops PassSpent held before now count risen = ⊥
  Stops OutOfMemory held before now count risen = (rest : List ℕ) × Heard held rest before now false [] []

  -- the next message, or why none came
  abbrev pub Next : Result M SessionEnd → List ℕ → List ℕ → Option Wire → Option Wire → ℕ → ℕ → Type 0
  Next (Ok m) held left before now count risen = Heard held left before now false (m ∷ []) []
  Next (Err end) held left before now count risen = Stops end held before now count risen

  -- after one step, which takes a frame or receives bytes: the next message, none yet, or why none came
  abbrev pub Stepped : Result (Option M) SessionEnd → List ℕ → List ℕ → Option Wire → Option Wire → ℕ → ℕ → Type 0
  Stepped (Ok (Some m)) held left before now count risen = Heard held left before now false (m ∷ []) []
  Stepped (Ok None) held left before now count risen = Heard held left before now false [] []
  Stepped (Err end) held left before now count risen = Stops end held before now count risen

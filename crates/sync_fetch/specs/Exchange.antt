-- One request: what each frame does, and how the waiting for its answer ends.
use Rattle.std.specs.Prelude.{◌≡◌, ◌≤◌, ◌⊎◌, ℕ, ◌+◌, Bool, true, false, List, [], ◌∷◌, ◌++◌, length, Option, Some, None, Result, Ok, Err, nat_lt, ◌==◌, if◌then◌else◌}
use Rattle.ledger_codec.specs.declared.fault.CodecError.{CodecError}
use Rattle.ledger_codec.specs.declared.framing.FrameError.{FrameError}
use Rattle.ledger_codec.specs.Parsing.{Parsed}
use Rattle.ledger_codec.specs.Sequences.{all_of}
use Rattle.ledger_codec.specs.Frames.{Whole, Short, Bad, front, Leads}
use Rattle.sync_net.specs.declared.ask.Pending.{Pending}
use Rattle.sync_net.specs.declared.message.Message.{Message}
use Rattle.sync_net.specs.Numbered.{number_of}
use Rattle.sync_net.specs.Messages.{message_at}
use Rattle.sync_net.specs.Asks.{is_response_to, refusal_in}
use Rattle.sync_client.specs.Session.{Offence, InvalidResponse, TooManyStrays, offence_of}

-- a message under the request's number is its answer where it is of its response kind; under another number it is a stray
abbrev pub exchanged : {Op : Type 0} → Pending → ℕ → Message Op → Result (Option (Message Op)) Offence
exchanged p strays m = if p.number == number_of m then (if is_response_to p.ask m then Ok (Some m) else Err (offence_of (number_of m) (refusal_in m))) else (if nat_lt strays 1024 then Ok None else Err TooManyStrays)

-- a frame that was read as a message, or as none
abbrev pub exchange_read : {Op : Type 0} → Pending → ℕ → Result (Message Op) CodecError → Result (Option (Message Op)) Offence
exchange_read p strays (Ok m) = exchanged p strays m
exchange_read p strays (Err e) = Err InvalidResponse

-- what a frame does after so many strays: it holds the answer, is one stray more, or offends
unfoldable pub exchange_frame : {Op : Type 0} → (List ℕ → Parsed Op) → Pending → ℕ → List ℕ → Result (Option (Message Op)) Offence
exchange_frame read p strays body = exchange_read p strays (all_of (message_at read) body)

-- these frames are strays
abbrev pub Strays : {Op : Type 0} → (List ℕ → Parsed Op) → Pending → ℕ → List (List ℕ) → ℕ → Type 0
Strays read p before [] after = before ≡ after
Strays read p before (body ∷ bodies) after = (exchange_frame read p before body ≡ Ok None) × Strays read p (before + 1) bodies after

-- how the waiting over bytes ends: with the answer, by a frame that offends, by bad or ended bytes, or not yet
pub data Reply (Op : Type 0) : Type 0 where
  Answered : Message Op → Reply Op
  Refused : Offence → Reply Op
  Closed : Reply Op
  Pends : Reply Op

-- so it ends after so many strays, where these bytes are left
abbrev pub RepliesSo : {Op : Type 0} → (List ℕ → Parsed Op) → Pending → ℕ → List ℕ → Bool → Reply Op → Type 0
RepliesSo read p strays rest ended (Answered m) = (body : List ℕ) × (after : List ℕ) × (front 10485760 rest ≡ Whole body after) × (exchange_frame read p strays body ≡ Ok (Some m))
RepliesSo read p strays rest ended (Refused offence) = (body : List ℕ) × (after : List ℕ) × (front 10485760 rest ≡ Whole body after) × (exchange_frame read p strays body ≡ Err offence)
RepliesSo read p strays rest ended Closed = ((bad : FrameError) × (front 10485760 rest ≡ Bad bad)) ⊎ ((front 10485760 rest ≡ Short) × (ended ≡ true))
RepliesSo read p strays rest ended Pends = (front 10485760 rest ≡ Short) × (ended ≡ false)

-- the waiting for the answer to a request over these bytes, whose end was given or wasn't
pub record Exchange {Op : Type 0} (read : List ℕ → Parsed Op) (p : Pending) (bytes : List ℕ) (ended : Bool) (reply : Reply Op) : Type 0 where
  pub bodies : List (List ℕ)
  pub rest : List ℕ
  pub strays : ℕ
  pub led : Leads 10485760 bytes bodies rest
  pub passed : Strays read p 0 bodies strays
  pub ends : RepliesSo read p strays rest ended reply

-- What was given over held bytes was read while the exchange waited: it is nothing, or else its last piece, which no buffer exceeds, came over bytes over which the exchange waits.
abbrev pub IsRead : {Op : Type 0} → (List ℕ → Parsed Op) → Pending → List ℕ → List ℕ → Type 0
IsRead read p held given = (given ≡ []) ⊎ ((first : List ℕ) × (piece : List ℕ) × (given ≡ first ++ piece) × (length piece ≤ 4096) × Exchange read p (held ++ first) false Pends)

-- over the same bytes, whose end was given or wasn't, the waiting ends in one way
abbrev pub OneWay : {Op : Type 0} → (List ℕ → Parsed Op) → Type 0
OneWay {Op} read = (p : Pending) (bytes : List ℕ) (ended : Bool) (one other : Reply Op) → Exchange read p bytes ended one → Exchange read p bytes ended other → one ≡ other

-- A stream of frames: a length of at most the limit, and so many bytes.
use Rattle.std.specs.Prelude.{◌≡◌, ℕ, List, [], ◌∷◌, length, take, drop, Result, Ok, Err, Option, Some, None, nat_lt, if◌then◌else◌}
use Rattle.ledger_codec.specs.declared.fault.CodecError.TheVariants as faults
use Rattle.ledger_codec.specs.declared.framing.FrameError.{FrameError}
use Rattle.ledger_codec.specs.declared.framing.FrameError.TheVariants as bad
use Rattle.ledger_codec.specs.Parsing.{Parsed}
use Rattle.ledger_codec.specs.Numbers.{varint32_at}

-- what stands at the front: a whole frame's body and the bytes after it, the beginning of a frame, or a bad length
pub data Front : Type 0 where
  Whole : (body rest : List ℕ) → Front
  Short : Front
  Bad : FrameError → Front

-- the frame of this length
abbrev pub sized : ℕ → ℕ → List ℕ → Front
sized limit n rest = if nat_lt limit n then Bad (bad.TooLong n) else (if nat_lt (length rest) n then Short else Whole (take n rest) (drop n rest))

-- what stands behind a length that was read; a length cut short is the beginning of a frame
abbrev pub front_of : ℕ → Parsed ℕ → Front
front_of limit (Ok n) = sized limit n.0 n.1
front_of limit (Err faults.EndOfBuffer) = Short
front_of limit (Err e) = Bad bad.BadLength

-- what stands at the front of bytes
abbrev pub front : ℕ → List ℕ → Front
front limit bytes = front_of limit (varint32_at bytes)

-- the bytes are the frames of these bodies, and then the rest
abbrev pub Leads : ℕ → List ℕ → List (List ℕ) → List ℕ → Type 0
Leads limit bytes [] rest = bytes ≡ rest
Leads limit bytes (body ∷ bodies) rest = (after : List ℕ) × (front limit bytes ≡ Whole body after) × Leads limit after bodies rest

-- what a function answers of the front
abbrev pub FrontIs : {S : Type 0} → (S → List ℕ) → Result (Option (S × S)) FrameError → Front → Type 0
FrontIs seen (Ok (Some x)) found = found ≡ Whole (seen x.0) (seen x.1)
FrontIs seen (Ok None) found = found ≡ Short
FrontIs seen (Err e) found = found ≡ Bad e

-- the same, with the place behind the frame
abbrev pub FrontAt : {S : Type 0} → (S → List ℕ) → Result (Option (S × ℕ)) FrameError → List ℕ → Front → Type 0
FrontAt seen (Ok (Some x)) bytes found = found ≡ Whole (seen x.0) (drop x.1 bytes)
FrontAt seen (Ok None) bytes found = found ≡ Short
FrontAt seen (Err e) bytes found = found ≡ Bad e

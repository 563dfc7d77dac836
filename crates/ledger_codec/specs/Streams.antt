-- What a framer answers.
use Rattle.std.specs.Prelude.{◌≡◌, ℕ, List, ◌++◌, Result, Ok, Err, Option, Some, None}
use Rattle.std.specs.declared.vec.Vec.{Vec}
use Rattle.std.specs.declared.alloc.Global.{Global}
use Rattle.ledger_codec.specs.declared.framing.FrameError.{FrameError}
use Rattle.ledger_codec.specs.declared.framing.FrameError.TheVariants as bad
use Rattle.ledger_codec.specs.Frames.{Whole, Short, Bad, front, Leads}
use Rattle.ledger_codec.specs.Held.{Held}

-- the next frame is taken; a beginning and a bad length stay, and so does a frame that found no memory
abbrev pub NextFrame : Result (Option (Vec ℕ Global)) FrameError → Held → Held → Type 0
NextFrame (Ok (Some body)) old now = (front old.limit old.bytes ≡ Whole body.items now.bytes) × (now.limit ≡ old.limit)
NextFrame (Ok None) old now = (front old.limit old.bytes ≡ Short) × (now ≡ old)
NextFrame (Err bad.OutOfMemory) old now = now ≡ old
NextFrame (Err bad.BadLength) old now = (front old.limit old.bytes ≡ Bad bad.BadLength) × (now ≡ old)
NextFrame (Err (bad.TooLong found)) old now = (front old.limit old.bytes ≡ Bad (bad.TooLong found)) × (now ≡ old)

-- bytes that come later leave the frames and the bad length that stood before them
pub record FramesStay (limit : ℕ) (bytes piece : List ℕ) : Type 0 where
  pub frames : (bodies : List (List ℕ)) (rest : List ℕ) → Leads limit bytes bodies rest → Leads limit (bytes ++ piece) bodies (rest ++ piece)
  pub bad_length : (fault : FrameError) → front limit bytes ≡ Bad fault → front limit (bytes ++ piece) ≡ Bad fault

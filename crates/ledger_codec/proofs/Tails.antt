-- What is left after a reading is the bytes from some place on.
use Rattle.std.proofs.Common.{◌≡◌, ℕ, ◌+◌, ◌-◌, ◌≤◌, List, length, drop, Ok, Err, refl, sym, ap, ◌∙◌, arith, length-append, length-drop}
use Rattle.std.proofs.Math.Seq.{drop-append_seam}
use Rattle.std.proofs.lemmas.List.{drop-drop}
use Rattle.ledger_codec.specs.declared.fault.CodecError.{CodecError}
use Rattle.ledger_codec.specs.declared.fault.CodecError.TheVariants as faults
use Rattle.ledger_codec.specs.declared.framing.FrameError.TheVariants as bad
use Rattle.ledger_codec.specs.Parsing.{Parsed}
use Rattle.ledger_codec.specs.Spelling.{IsLocal}
use Rattle.ledger_codec.specs.Frames.{Bad, front_of}
use Rattle.ledger_codec.specs.Tail.{IsTail}

pub reading_tail : {T : Type 0} (reading : List ℕ → Parsed T) (bytes : List ℕ) (value : T) (rest : List ℕ) → IsLocal reading → reading bytes ≡ Ok (value, rest) → IsTail rest bytes
reading_tail reading bytes value rest L e =
    let u = L.used bytes value rest e in
    let long : length bytes ≡ length u.used + length rest = ap length u.parts ∙ length-append u.used rest in
    (length u.used, omega arith, sym (ap (λ (x : List ℕ). drop (length u.used) x) u.parts ∙ drop-append_seam u.used rest))

-- and so is what is left after more of it
pub tail_more : (bytes rest after : List ℕ) (n : ℕ) → IsTail rest bytes → n ≤ length rest → after ≡ drop n rest → IsTail after bytes
tail_more bytes rest after n t le e = (t.0 + n, omega (arith, ap length t.2, length-drop t.0 bytes), e ∙ ap (λ (x : List ℕ). drop n x) t.2 ∙ drop-drop n t.0 bytes)

-- a tail by its length
pub tail_at : (bytes held rest : List ℕ) (at : ℕ) → at ≤ length bytes → held ≡ drop at bytes → IsTail rest held → (length rest ≤ length bytes) × (rest ≡ drop (length bytes - length rest) bytes)
tail_at bytes held rest at le e t =
    let all : rest ≡ drop (at + t.0) bytes = t.2 ∙ ap (λ (x : List ℕ). drop t.0 x) e ∙ drop-drop t.0 at bytes in
    let long : length rest ≡ length bytes - (at + t.0) = ap length all ∙ length-drop (at + t.0) bytes in
    let h : length held ≡ length bytes - at = ap length e ∙ length-drop at bytes in
    let place : at + t.0 ≡ length bytes - length rest = omega (arith, t.1) in
    (omega arith, all ∙ ap (λ (k : ℕ). drop k bytes) place)

-- a refusal other than the end is a bad length
pub bad_front : (limit : ℕ) (e : CodecError) → (e ≡ faults.EndOfBuffer → ⊥) → front_of limit (Err e) ≡ Bad bad.BadLength
bad_front limit faults.EndOfBuffer n = absurd (n refl)
bad_front limit faults.InvalidVarint n = refl
bad_front limit (faults.InvalidLength f l) n = refl
bad_front limit (faults.InvalidEnum t) n = refl
bad_front limit faults.Invalid n = refl
bad_front limit (faults.ExtraData d) n = refl
bad_front limit faults.OutOfMemory n = refl

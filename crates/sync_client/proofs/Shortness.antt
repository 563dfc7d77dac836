-- The beginning of a frame is shorter than the longest frame.
use Rattle.std.proofs.Common.{◌≡◌, ℕ, zero, suc, ◌+◌, ◌-◌, ◌*◌, ◌<◌, ◌≤◌, ◌^◌, Bool, true, false, not, cond, ltb, leb, List, [], ◌∷◌, length, take, drop, Ok, Err, refl, ap, arith}
use Rattle.std.specs.Prelude.{◌&&◌, ◌==◌}
use Rattle.std.proofs.lemmas.Bool.{ltb-false, ltb-true}
use Rattle.ledger_codec.specs.declared.fault.CodecError.TheVariants as faults
use Rattle.ledger_codec.specs.declared.framing.FrameError.{FrameError}
use Rattle.ledger_codec.specs.declared.framing.FrameError.TheVariants as bad
use Rattle.ledger_codec.specs.Parsing.{Parsed, ◌>>=◌}
use Rattle.ledger_codec.specs.Numbers.{at_most, varint_from, varint32_at}
use Rattle.ledger_codec.specs.Frames.{Front, Whole, Short, Bad, front_of, front}

abbrev if_ok : Bool → Parsed ℕ → Parsed ℕ → Parsed ℕ
if_ok b x y = cond b x y

abbrev rest_in : List ℕ → Parsed ℕ → List ℕ
rest_in d (Ok x) = x.1
rest_in d (Err e) = d

most_rest : (ok : Bool) (m n : ℕ) (xs rest : List ℕ) → if_ok ok (Ok (m, xs)) (Err faults.InvalidVarint) ≡ Ok (n, rest) → xs ≡ rest
most_rest true m n xs rest e = ap (rest_in xs) e
most_rest false m n xs rest e = absurd cc

most_end : (ok : Bool) (m : ℕ) (xs : List ℕ) → if_ok ok (Ok (m, xs)) (Err faults.InvalidVarint) ≡ Err faults.EndOfBuffer → ⊥
most_end true m xs e = cc
most_end false m xs e = cc

byte_whole : (low wrong : Bool) (max b left : ℕ) (bs : List ℕ) (r : Parsed ℕ) (n : ℕ) (rest : List ℕ)
    → ((x : ℕ) (more : List ℕ) → r ≡ Ok (x, more) → length bs ≤ left + length more)
    → if_ok low (if_ok wrong (Err faults.InvalidVarint) (Ok (b, bs))) (r >>= λ high after. at_most max (b - 128 + 128 * high) after) ≡ Ok (n, rest)
    → suc (length bs) ≤ suc left + length rest
byte_whole true true max b left bs r n rest h e = absurd cc
byte_whole true false max b left bs r n rest h e = let q : length bs ≡ length rest = ap (λ (p : Parsed ℕ). length (rest_in bs p)) e in omega arith
byte_whole false wrong max b left bs (Ok x) n rest h e =
    let q : length x.1 ≡ length rest = ap length (most_rest (leb (b - 128 + 128 * x.0) max) (b - 128 + 128 * x.0) n x.1 rest e) in
    let k : length bs ≤ left + length x.1 = h x.0 x.1 refl in
    omega arith
byte_whole false wrong max b left bs (Err f) n rest h e = absurd cc

-- a varint has at most so many bytes
varint_whole : (max left : ℕ) (first : Bool) (bytes : List ℕ) (n : ℕ) (rest : List ℕ) → varint_from max left first bytes ≡ Ok (n, rest) → length bytes ≤ left + length rest
unfolding varint_from
varint_whole max zero first bytes n rest e = absurd cc
varint_whole max (suc left) first [] n rest e = absurd cc
varint_whole max (suc left) first (b ∷ bs) n rest e =
    byte_whole (ltb b 128) (b == 0 && not first) max b left bs (varint_from max left false bs) n rest (λ x more q. varint_whole max left false bs x more q) e

byte_end : (low wrong : Bool) (max b left : ℕ) (bs : List ℕ) (r : Parsed ℕ) → (r ≡ Err faults.EndOfBuffer → length bs < left)
    → if_ok low (if_ok wrong (Err faults.InvalidVarint) (Ok (b, bs))) (r >>= λ high after. at_most max (b - 128 + 128 * high) after) ≡ Err faults.EndOfBuffer
    → suc (length bs) < suc left
byte_end true true max b left bs r h e = absurd cc
byte_end true false max b left bs r h e = absurd cc
byte_end false wrong max b left bs (Ok x) h e = absurd (most_end (leb (b - 128 + 128 * x.0) max) (b - 128 + 128 * x.0) x.1 e)
byte_end false wrong max b left bs (Err f) h e = let k : length bs < left = h e in omega arith

-- and the beginning of one has fewer
varint_end : (max left : ℕ) (first : Bool) (bytes : List ℕ) → varint_from max left first bytes ≡ Err faults.EndOfBuffer → length bytes < left
unfolding varint_from
varint_end max zero first bytes e = absurd cc
varint_end max (suc left) first [] e = omega arith
varint_end max (suc left) first (b ∷ bs) e =
    byte_end (ltb b 128) (b == 0 && not first) max b left bs (varint_from max left false bs) (λ q. varint_end max left false bs q) e

abbrev either : Bool → Front → Front → Front
either b x y = cond b x y

sized_short : (a b : Bool) (fault : FrameError) (x y : List ℕ) → either a (Bad fault) (either b Short (Whole x y)) ≡ Short → (a ≡ false) × (b ≡ true)
sized_short true b fault x y e = absurd cc
sized_short false true fault x y e = (refl, refl)
sized_short false false fault x y e = absurd cc

short_of : (limit : ℕ) (r : Parsed ℕ) (bytes : List ℕ) → varint32_at bytes ≡ r → front_of limit r ≡ Short → length bytes < limit + 6
short_of limit (Ok x) bytes e h =
    let w : length bytes ≤ 5 + length x.1 = varint_whole (2 ^ 32 - 1) 5 true bytes x.0 x.1 e in
    let s = sized_short (ltb limit x.0) (ltb (length x.1) x.0) (bad.TooLong x.0) (take x.0 x.1) (drop x.0 x.1) h in
    let a : x.0 ≤ limit = ltb-false limit x.0 s.0 in
    let b : length x.1 < x.0 = ltb-true (length x.1) x.0 s.1 in
    omega arith
short_of limit (Err faults.EndOfBuffer) bytes e h = let w : length bytes < 5 = varint_end (2 ^ 32 - 1) 5 true bytes e in omega arith
short_of limit (Err faults.InvalidVarint) bytes e h = absurd cc
short_of limit (Err (faults.InvalidLength f l)) bytes e h = absurd cc
short_of limit (Err (faults.InvalidEnum t)) bytes e h = absurd cc
short_of limit (Err faults.Invalid) bytes e h = absurd cc
short_of limit (Err (faults.ExtraData d)) bytes e h = absurd cc
short_of limit (Err faults.OutOfMemory) bytes e h = absurd cc

pub short_held : (limit : ℕ) (bytes : List ℕ) → front limit bytes ≡ Short → length bytes < limit + 6
short_held limit bytes h = short_of limit (varint32_at bytes) bytes refl h

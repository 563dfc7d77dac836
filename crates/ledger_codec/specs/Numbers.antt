-- Numbers, and lists of 32 bytes: how they are read at the front of bytes, and how they are written.
use Rattle.std.specs.Prelude.{ℕ, zero, suc, ◌+◌, ◌-◌, ◌*◌, ◌/◌, ◌%◌, ◌^◌, Bool, true, false, not, ◌&&◌, List, [], ◌∷◌, length, take, drop, Ok, Err, nat_lt, nat_le, ◌==◌, if◌then◌else◌}
use Rattle.std.specs.Int.{w64, from_be_bytes}
use Rattle.ledger_codec.specs.declared.fault.CodecError.TheVariants as faults
use Rattle.ledger_codec.specs.Parsing.{Parsed, ◌>>=◌}

-- one byte
abbrev pub byte_at : List ℕ → Parsed ℕ
byte_at [] = Err faults.EndOfBuffer
byte_at (b ∷ rest) = Ok (b, rest)

-- so many bytes
abbrev pub bytes_at : ℕ → List ℕ → Parsed (List ℕ)
bytes_at n bytes = if nat_lt (length bytes) n then Err faults.EndOfBuffer else Ok (take n bytes, drop n bytes)

-- eight bytes, the greatest first
abbrev pub number_at : List ℕ → Parsed ℕ
number_at bytes = if nat_lt (length bytes) 8 then Err faults.EndOfBuffer else Ok (from_be_bytes w64 (take 8 bytes), drop 8 bytes)

-- 32 bytes
abbrev pub digest_at : List ℕ → Parsed (List ℕ)
digest_at bytes = bytes_at 32 bytes

-- a number that may not pass max
abbrev pub at_most : ℕ → ℕ → List ℕ → Parsed ℕ
at_most max n rest = if nat_le n max then Ok (n, rest) else Err faults.InvalidVarint

-- seven bits a byte, the low ones first, the top bit set on all bytes but the last; so many bytes may still come
unfoldable pub varint_from : ℕ → ℕ → Bool → List ℕ → Parsed ℕ
varint_from max zero first bytes = Err faults.InvalidVarint
varint_from max (suc left) first [] = Err faults.EndOfBuffer
varint_from max (suc left) first (b ∷ rest) = if nat_lt b 128 then (if b == 0 && not first then Err faults.InvalidVarint else Ok (b, rest)) else (varint_from max left false rest >>= λ high after. at_most max (b - 128 + 128 * high) after)

-- a varint of 32 bits, in at most 5 bytes
abbrev pub varint32_at : List ℕ → Parsed ℕ
varint32_at bytes = varint_from (2 ^ 32 - 1) 5 true bytes

-- a varint of 64 bits, in at most 10 bytes
abbrev pub varint64_at : List ℕ → Parsed ℕ
varint64_at bytes = varint_from (2 ^ 64 - 1) 10 true bytes

-- the spelling of a number in at most so many bytes
abbrev pub varint_within : ℕ → ℕ → List ℕ
varint_within zero n = []
varint_within (suc k) n = if nat_lt n 128 then n ∷ [] else ((n % 128 + 128) ∷ varint_within k (n / 128))

-- the spelling of a number of at most 64 bits
unfoldable pub varint : ℕ → List ℕ
varint n = varint_within 10 n

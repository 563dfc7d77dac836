-- Lists and texts: a count, and what is counted.
use Rattle.std.specs.Prelude.{◌≡◌, ◌≤◌, ◌^◌, ◌-◌, ℕ, zero, suc, List, [], ◌∷◌, ◌++◌, length, All, Result, Ok, Err, nat_lt, ◌==◌, if◌then◌else◌, min, false}
use Rattle.std.specs.List.{flat_map}
use Rattle.std.specs.Str.{is_utf8}
use Rattle.ledger_codec.specs.declared.fault.CodecError.{CodecError}
use Rattle.ledger_codec.specs.declared.fault.CodecError.TheVariants as faults
use Rattle.ledger_codec.specs.Parsing.{Parsed, ◌>>=◌}
use Rattle.ledger_codec.specs.Numbers.{varint32_at, varint, bytes_at}

-- so many values, one after another
unfoldable pub items_at : {T : Type 0} → (List ℕ → Parsed T) → ℕ → List ℕ → Parsed (List T)
items_at item zero bytes = Ok ([], bytes)
items_at item (suc n) bytes = item bytes >>= λ first rest. items_at item n rest >>= λ others after. Ok (first ∷ others, after)

-- the count where it is within the limit
abbrev pub limited : ℕ → ℕ → List ℕ → Parsed ℕ
limited limit n rest = if nat_lt limit n then Err (faults.InvalidLength n limit) else Ok (n, rest)

-- a count of at most the limit
abbrev pub count_at : ℕ → List ℕ → Parsed ℕ
count_at limit bytes = varint32_at bytes >>= limited limit

-- a count of at most the limit, and so many values
unfoldable pub list_at : {T : Type 0} → ℕ → (List ℕ → Parsed T) → List ℕ → Parsed (List T)
list_at limit item bytes = count_at limit bytes >>= items_at item

-- a length of at most the limit, and so many bytes
unfoldable pub string_at : ℕ → List ℕ → Parsed (List ℕ)
string_at limit bytes = count_at limit bytes >>= bytes_at

-- bytes that are UTF-8
abbrev pub text_of : List ℕ → List ℕ → Parsed (List ℕ)
text_of bytes rest = if is_utf8 bytes then Ok (bytes, rest) else Err faults.Invalid

-- a length of at most the limit, and so many bytes that are UTF-8
unfoldable pub text_at : ℕ → List ℕ → Parsed (List ℕ)
text_at limit bytes = string_at limit bytes >>= text_of

-- a value that is all of the bytes
unfoldable pub all_of : {T : Type 0} → (List ℕ → Parsed T) → List ℕ → Result T CodecError
all_of item bytes = item bytes >>= λ value rest. if length rest == 0 then Ok value else Err (faults.ExtraData (length rest))

-- a count and its values, written
abbrev pub list_written : {T : Type 0} → (T → List ℕ) → List T → List ℕ
list_written item values = varint (length values) ++ flat_map item values

-- a length and its bytes, written
abbrev pub string_written : List ℕ → List ℕ
string_written bytes = varint (length bytes) ++ bytes

-- a list within its limit, of items within theirs
abbrev pub ListFits : {T : Type 0} → ℕ → (T → Type 0) → List T → Type 0
ListFits limit fits values = (length values ≤ limit) × All fits values

-- the number of bytes as a number of 64 bits
abbrev pub size_of : List ℕ → ℕ
size_of bytes = min (length bytes) (2 ^ 64 - 1)

-- why bytes are refused as a text
abbrev pub MayBeNoText : CodecError → List ℕ → Type 0
MayBeNoText faults.Invalid bytes = is_utf8 bytes ≡ false
MayBeNoText faults.OutOfMemory bytes = Unit {0}
MayBeNoText fault bytes = ⊥

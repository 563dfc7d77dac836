-- Keys, as a job spells them.
use Rattle.std.specs.Prelude.{ℕ, ◌-◌, ◌&&◌, ◌||◌, ◌==◌, ◌++◌, Bool, List, ◌∷◌, Some, None, length, nat_le, nat_lt, replicate, if◌then◌else◌}
use Rattle.std.specs.declared.option.Option.{Option}
use Rattle.std.specs.List.{list_all}
use Rattle.std.specs.Result.{result_ok}
use Rattle.hex.specs.Hex.{decode_sized}

-- `a` to `z`, `0` to `9`, `-` and `_`
abbrev pub is_name_byte : ℕ → Bool
is_name_byte b = nat_le 97 b && nat_le b 122 || (nat_le 48 b && nat_le b 57 || (b == 45 || b == 95))

-- from 1 to 32 bytes
abbrev pub has_name_length : List ℕ → Bool
has_name_length text = nat_lt 0 (length text) && nat_le (length text) 32

-- a name of 1 to 32 of these
unfoldable pub is_name : List ℕ → Bool
is_name text = has_name_length text && list_all is_name_byte text

-- a name, filled with zero bytes to 32
unfoldable pub filled : List ℕ → List ℕ
filled name = name ++ replicate (32 - length name) 0

-- the 32 bytes that 64 hexadecimal digits spell
unfoldable pub digest_of : List ℕ → Option (List ℕ)
digest_of digits = result_ok (decode_sized digits 32)

-- the key that `0x` and 64 hexadecimal digits spell
abbrev pub hex_key : List ℕ → Option (List ℕ)
hex_key (a ∷ b ∷ digits) = if a == 48 && b == 120 then digest_of digits else None
hex_key _ = None

-- the key that a field spells
unfoldable pub key_of : List ℕ → Option (List ℕ)
key_of text = if is_name text then Some (filled text) else hex_key text

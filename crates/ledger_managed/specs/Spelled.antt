-- The value of a sequenced account.
use Rattle.std.specs.Prelude.{ℕ, ◌^◌, ◌<◌, ◌++◌, List, take, drop, replicate, Option, Some, None, if◌then◌else◌, bytes_eq}
use Rattle.std.specs.Int.{w64, to_be_bytes, from_be_bytes}
use Rattle.ledger_managed.specs.Values.{Values}
use Rattle.ledger_transfers.specs.declared.sequenced.Sequenced.{Sequenced}

-- 16 bytes of 0
abbrev pub padding : List ℕ
padding = replicate 16 0

-- the balance, the nonce, and 16 bytes of 0
unfoldable pub sequenced_value : Sequenced → List ℕ
sequenced_value a = to_be_bytes w64 a.balance ++ to_be_bytes w64 a.nonce ++ padding

-- a value whose last 16 bytes are 0 is an account
unfoldable pub read_sequenced : List ℕ → Option Sequenced
read_sequenced v =
    if bytes_eq (drop 16 v) padding then Some (record { balance = from_be_bytes w64 (take 8 v); nonce = from_be_bytes w64 (take 8 (drop 8 v)) }) else None

abbrev pub sequenced_values : Values Sequenced
sequenced_values = record {
  value_of = sequenced_value;
  read = read_sequenced;
}

-- balance and nonce are numbers of 64 bits
abbrev pub IsSoundSequenced : Sequenced → Type 0
IsSoundSequenced a = (a.balance < 2 ^ 64) × (a.nonce < 2 ^ 64)

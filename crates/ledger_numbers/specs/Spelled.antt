-- Four numbers as the bytes of a value, and accounts that are made of them.
use Rattle.std.specs.Prelude.{ℕ, ◌^◌, ◌<◌, ◌==◌, ◌&&◌, ◌++◌, Bool, List, take, drop, Some, None, if◌then◌else◌}
use Rattle.std.specs.Int.{w64, to_be_bytes, from_be_bytes}
use Rattle.ledger_managed.specs.Values.{Values}
use Rattle.ledger_numbers.specs.declared.numbers.Numbers.{Numbers}

-- each number in 8 bytes, the highest first
unfoldable pub value_of : Numbers → List ℕ
value_of n = to_be_bytes w64 n.first ++ to_be_bytes w64 n.second ++ to_be_bytes w64 n.third ++ to_be_bytes w64 n.fourth

-- the numbers that each 8 of 32 bytes spell
unfoldable pub numbers_of : List ℕ → Numbers
numbers_of v = record {
  first = from_be_bytes w64 (take 8 v);
  second = from_be_bytes w64 (take 8 (drop 8 v));
  third = from_be_bytes w64 (take 8 (drop 16 v));
  fourth = from_be_bytes w64 (take 8 (drop 24 v));
}

-- each has 64 bits
pub record AreWords (n : Numbers) : Type 0 where
  pub first : n.first < 2 ^ 64
  pub second : n.second < 2 ^ 64
  pub third : n.third < 2 ^ 64
  pub fourth : n.fourth < 2 ^ 64

-- the last two are 0
abbrev pub has_two : Numbers → Bool
has_two n = (n.third == 0) && (n.fourth == 0)

-- an account's value spells its numbers; numbers that pass the test are those of an account
abbrev pub numbers_values : {A : Type 0} → (A → Numbers) → (Numbers → Bool) → (Numbers → A) → Values A
numbers_values to fits made = record {
  value_of = λ a. value_of (to a);
  read = λ v. if fits (numbers_of v) then Some (made (numbers_of v)) else None;
}

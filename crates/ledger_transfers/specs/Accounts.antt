-- What the two accounts of the crate mean.
use Rattle.std.specs.Prelude.{ℕ, ◌+◌, ◌-◌, ◌^◌, ◌==◌, ◌&&◌, nat_lt, Option, None, Some, if◌then◌else◌}
use Rattle.ledger_transfers.specs.declared.balance.NoEffect.{NoEffect}
use Rattle.ledger_transfers.specs.Rules.{Rules}
use Rattle.ledger_transfers.specs.declared.balance.Balance.{Balance}
use Rattle.ledger_transfers.specs.declared.sequenced.Sequenced.{Sequenced}

-- a balance alone, which refuses every effect
abbrev pub balance_rules : Rules Balance NoEffect
balance_rules = record {
  initial = record { 0 = 0 };
  balance_of = λ a. a.0;
  with_balance = λ a n. record { 0 = n };
  applied = λ a e. None;
}

-- an account takes its own nonce below 2 ^ 64 - 1 as effect, and has the next one then
abbrev pub after_nonce : Sequenced → ℕ → Option Sequenced
after_nonce a nonce = if (a.nonce == nonce) && nat_lt nonce (2 ^ 64 - 1) then Some (record a { nonce = a.nonce + 1 }) else None

abbrev pub sequenced_rules : Rules Sequenced ℕ
sequenced_rules = record {
  initial = record { balance = 0; nonce = 0 };
  balance_of = λ a. a.balance;
  with_balance = λ a n. record a { balance = n };
  applied = after_nonce;
}

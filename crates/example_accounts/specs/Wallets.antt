-- What a wallet means.
use Rattle.std.specs.Prelude.{◌+◌, ◌-◌, ◌^◌, ◌<◌, nat_le, Option, None, Some, if◌then◌else◌}
use Rattle.ledger_transfers.specs.Rules.{Rules}
use Rattle.ledger_transfers.specs.Touches.{max_amount}
use Rattle.ledger_managed.specs.Values.{Values}
use Rattle.ledger_numbers.specs.Spelled.{has_two, numbers_values}
use Rattle.ledger_numbers.specs.declared.numbers.Numbers.{Numbers}
use Rattle.example_accounts.specs.declared.wallet.Wallet.{Wallet}
use Rattle.example_accounts.specs.declared.wallet.Points.{Points}
use Rattle.example_accounts.specs.declared.wallet.Points.TheVariants.{Earn, Spend}

-- points are earned up to 2 ^ 64 - 1, and spent where the wallet has them
abbrev pub after_points : Wallet → Points → Option Wallet
after_points w (Earn n) = if nat_le (w.points + n) max_amount then Some (record w { points = w.points + n }) else None
after_points w (Spend n) = if nat_le n w.points then Some (record w { points = w.points - n }) else None

-- a new wallet is empty, and its balance is its coins
abbrev pub wallet_rules : Rules Wallet Points
wallet_rules = record {
  initial = record { coins = 0; points = 0 };
  balance_of = λ w. w.coins;
  with_balance = λ w n. record w { coins = n };
  applied = after_points;
}

-- its numbers are its coins and its points
abbrev pub numbers_of_wallet : Wallet → Numbers
numbers_of_wallet w = record { first = w.coins; second = w.points; third = 0; fourth = 0 }

abbrev pub wallet_of : Numbers → Wallet
wallet_of n = record { coins = n.first; points = n.second }

abbrev pub wallet_values : Values Wallet
wallet_values = numbers_values numbers_of_wallet has_two wallet_of

-- coins and points are numbers of 64 bits
abbrev pub IsSoundWallet : Wallet → Type 0
IsSoundWallet w = (w.coins < 2 ^ 64) × (w.points < 2 ^ 64)

-- What orders and wallets mean to the calls that settle them.
use Rattle.ledger_settling.specs.Blocks.{Meaning, meaning}
use Rattle.example_accounts.specs.Orders.{order_changes}
use Rattle.example_accounts.specs.Wallets.{wallet_rules, wallet_values}
use Rattle.example_accounts.specs.WalletProofs.{wallet_same}
use Rattle.example_accounts.specs.declared.order.Order.{Order}
use Rattle.example_accounts.specs.declared.wallet.Points.{Points}
use Rattle.example_accounts.specs.declared.wallet.Wallet.{Wallet}

abbrev pub orders : Meaning Order Wallet Points
orders = meaning order_changes wallet_same wallet_rules wallet_values

-- What an order does to wallets.
use Rattle.std.specs.Prelude.{ℕ, ◌/◌, List, [], ◌∷◌, Some, None}
use Rattle.ledger_transfers.specs.declared.change.Change.{Change}
use Rattle.example_accounts.specs.declared.order.Order.{Order}
use Rattle.example_accounts.specs.declared.order.Order.TheVariants.{Buy, Redeem}
use Rattle.example_accounts.specs.declared.wallet.Points.{Points}
use Rattle.example_accounts.specs.declared.wallet.Points.TheVariants.{Earn, Spend}

-- the buyer pays the shop and earns a point for each ten coins; the holder spends points, for which the shop pays a coin each
abbrev pub order_changes : Order → List (List ℕ × Change Points)
order_changes (Buy buyer shop price) =
    (buyer, record { debit = price; credit = 0; effect = Some (Earn (price / 10)) })
    ∷ (shop, record { debit = 0; credit = price; effect = None }) ∷ []
order_changes (Redeem holder shop points) =
    (holder, record { debit = 0; credit = points; effect = Some (Spend points) })
    ∷ (shop, record { debit = points; credit = 0; effect = None }) ∷ []

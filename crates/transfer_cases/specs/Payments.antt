-- What payments do, and when two accounts that number theirs are one.
use Rattle.std.specs.Prelude.{ℕ, Bool, ◌&&◌, nat_eq, List, [], ◌∷◌, None, Some}
use Rattle.ledger_transfers.specs.declared.change.Change.{Change}
use Rattle.ledger_transfers.specs.declared.sequenced.Sequenced.{Sequenced}
use Rattle.transfer_cases.specs.declared.payment.Payment.{Payment}

-- a payment takes its amount from one account, whose nonce it brings, and gives it to another
abbrev pub payment_changes : Payment → List (ℕ × Change ℕ)
payment_changes p = (p.from, record { debit = p.amount; credit = 0; effect = Some p.nonce }) ∷ (p.to, record { debit = 0; credit = p.amount; effect = None }) ∷ []

-- whether two accounts are the same
abbrev pub same_account : Sequenced → Sequenced → Bool
same_account a b = nat_eq a.balance b.balance && nat_eq a.nonce b.nonce

-- What a payment does to accounts.
use Rattle.std.specs.Prelude.{ℕ, List, [], ◌∷◌, Some, None}
use Rattle.ledger_job.specs.declared.payment.Payment.{Payment}
use Rattle.ledger_transfers.specs.declared.change.Change.{Change}

-- the payer is debited, at its nonce, and then the payee is credited
abbrev pub payment_changes : Payment → List (List ℕ × Change ℕ)
payment_changes p =
    (p.from, record { debit = p.amount; credit = 0; effect = Some p.nonce })
    ∷ (p.to, record { debit = 0; credit = p.amount; effect = None }) ∷ []

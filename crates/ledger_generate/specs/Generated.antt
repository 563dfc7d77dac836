-- The job that is made from sizes.
use Rattle.std.specs.Prelude.{ℕ, ◌+◌, ◌-◌, ◌/◌, ◌%◌, ◌++◌, List, [], ◌∷◌, None, map, codes}
use Rattle.std.specs.Fmt.{decimal}
use Rattle.std.specs.List.{range_with_len}
use Rattle.ledger_job.specs.Jobs.{default_limits}
use Rattle.ledger_job.specs.Keys.{filled}
use Rattle.ledger_job.specs.declared.block.Block.TheVariants.{Body}
use Rattle.ledger_job.specs.declared.job.Job.{Job}
use Rattle.ledger_job.specs.declared.line.Open.{Open}
use Rattle.ledger_job.specs.declared.payment.Payment.{Payment}
use Rattle.ledger_generate.specs.Sizes.{SizesView, opening_balance}

-- the key of an account: `g` and its number
unfoldable pub key_at : ℕ → List ℕ
key_at number = filled (codes "g" ++ decimal number)

module _ (sizes : SizesView) where
  -- an account, as it opens
  abbrev pub open_at : ℕ → Open
  open_at number = record { key = key_at number; balance = opening_balance sizes; nonce = 0 }

  -- a payment's number, moved on by the seed
  abbrev pub moved : ℕ → ℕ
  moved place = sizes.seed + place

  -- who makes a payment: the accounts in turn
  abbrev pub payer : ℕ → ℕ
  payer place = place % sizes.accounts

  -- who gets it: another account
  abbrev pub payee : ℕ → ℕ
  payee place = (payer place + 1 + moved place % (sizes.accounts - 1)) % sizes.accounts

  -- a payment: of 1 to 10, at the payer's next nonce
  abbrev pub payment_at : ℕ → Payment
  payment_at place = record { from = key_at (payer place); to = key_at (payee place); amount = 1 + moved place % 10; nonce = place / sizes.accounts }

  -- all accounts
  unfoldable pub opens : List Open
  opens = map open_at (range_with_len 0 sizes.accounts)

  -- all payments
  unfoldable pub all_payments : List Payment
  all_payments = map payment_at (range_with_len 0 sizes.transfers)

  -- the job: these accounts, and these payments as one body
  abbrev pub generated : Job
  generated = record { opens = opens; target = None; updates = []; limits = default_limits; blocks = Body all_payments ∷ [] }

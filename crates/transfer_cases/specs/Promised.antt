-- The batches by which promises of settling are tried.
use Rattle.std.specs.Prelude.{◌≡◌, ℕ, Bool, nat_eq, List, [], ◌∷◌, None, Some}
use Rattle.std.specs.Map.{keys_of}
use Rattle.ledger_transfers.specs.Accounts.{sequenced_rules}
use Rattle.ledger_transfers.specs.Batches.{BatchFails}
use Rattle.ledger_transfers.specs.Greedy.{AreGreedy, taken}
use Rattle.ledger_transfers.specs.Registering.{AreSettled, fresh}
use Rattle.ledger_transfers.specs.Selecting.{AreVerdicts, SettledBy, StandsFor, opened_at, taken_after}
use Rattle.ledger_transfers.specs.Touches.{IsPlanOf, touches}
use Rattle.ledger_transfers.specs.declared.change.Change.{Change}
use Rattle.ledger_transfers.specs.declared.fault.PlanFault.{PlanFault}
use Rattle.ledger_transfers.specs.declared.held.Held.{Held}
use Rattle.ledger_transfers.specs.declared.sequenced.Sequenced.{Sequenced}
use Rattle.ledger_transfers.specs.declared.slot.Slot.{Slot}
use Rattle.ledger_transfers.specs.declared.totals.Totals.{Totals}
use Rattle.transfer_cases.specs.Payments.{payment_changes, same_account}
use Rattle.transfer_cases.specs.declared.payment.Payment.{Payment}

-- the touches of a payment without an effect
abbrev pub paid : {E : Type 0} → ℕ → ℕ → ℕ → List (ℕ × Change E)
paid from to amount = (from, record { debit = amount; credit = 0; effect = None }) ∷ (to, record { debit = 0; credit = amount; effect = None }) ∷ []

-- an account of 10, and one that isn't held
abbrev pub opening : List (ℕ × Held Sequenced)
opening = (1, fresh (Some (record { balance = 10; nonce = 0 }))) ∷ (2, fresh None) ∷ []

-- their keys
abbrev pub two_keys : List ℕ
two_keys = 1 ∷ 2 ∷ []

-- a payment that the account of 10 affords
abbrev pub first : Payment
first = record { from = 1; to = 2; amount = 6; nonce = 0 }

-- one that it doesn't afford behind the first
abbrev pub second : Payment
second = record { from = 1; to = 2; amount = 5; nonce = 1 }

-- both
abbrev pub candidates : List Payment
candidates = first ∷ second ∷ []

-- the touches settle against these accounts
abbrev pub SettlesThere : List (ℕ × Change ℕ) → Type 0
SettlesThere ts = SettledBy nat_eq same_account sequenced_rules opening ts

-- the selection stands for the touches
abbrev pub StandsOver : List (ℕ × Held Sequenced) → List (ℕ × Change ℕ) → Type 0
StandsOver entries ts = StandsFor nat_eq same_account sequenced_rules entries ts

-- Over these accounts each payment was taken exactly where it settles with those taken before it, and the selection stands for the taken ones: both as touches and as payments.
pub record AreRight (entries : List (ℕ × Held Sequenced)) (payments : List Payment) (verdicts : List Bool) : Type 0 where
  pub verdicts_are : AreVerdicts SettlesThere payment_changes [] payments verdicts
  pub stands : StandsOver entries (taken_after SettlesThere payment_changes [] payments verdicts)
  pub greedy : AreGreedy (λ batch. SettlesThere (touches payment_changes batch)) [] payments verdicts
  pub stands_taken : StandsOver entries (touches payment_changes (taken payments verdicts))

-- the slots settle the first payment over the two accounts
abbrev pub SettlesFirst : List (Slot Sequenced) → Type 0
SettlesFirst slots = AreSettled nat_eq same_account sequenced_rules two_keys (opened_at nat_eq same_account sequenced_rules opening) (touches payment_changes (first ∷ [])) slots

-- the slots are those of a plan of the first payment, over the two accounts
pub record ArePlanned (slots : List (Slot Sequenced)) : Type 0 where
  pub plan : List (ℕ × Totals ℕ)
  pub is_plan : IsPlanOf nat_eq (touches payment_changes (first ∷ [])) plan
  pub keys_are : keys_of plan ≡ two_keys
  pub slots_are : AreSettled nat_eq same_account sequenced_rules two_keys (opened_at nat_eq same_account sequenced_rules opening) (touches payment_changes (first ∷ [])) slots

-- both payments aren't settled over the two accounts, by the first offence of some key, or memory was wanting
abbrev pub FailsBoth : PlanFault ℕ → Type 0
FailsBoth fault = BatchFails nat_eq sequenced_rules (opened_at nat_eq same_account sequenced_rules opening) (touches payment_changes candidates) fault

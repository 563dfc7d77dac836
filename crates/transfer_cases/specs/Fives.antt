-- The account whose default has a balance of 5.
use Rattle.std.specs.Prelude.{ℕ, Bool, nat_eq, None, refl}
use Rattle.std.proofs.Common.{ap}
use Rattle.std.proofs.lemmas.Bool.{eqb-true, eq-eqb}
use Rattle.ledger_transfers.specs.declared.balance.NoEffect.{NoEffect}
use Rattle.ledger_transfers.specs.Rules.{Rules, AccountLaws}
use Rattle.ledger_transfers.specs.AccountProofs.{laws_of_exact}
use Rattle.transfer_cases.specs.declared.five.Five.{Five}

-- the account of a balance
abbrev five_from : ℕ → Five
five_from n = record { 0 = n }

-- its rules
abbrev pub five_rules : Rules Five NoEffect
five_rules = record {
  initial = record { 0 = 5 };
  balance_of = λ a. a.0;
  with_balance = λ a n. record { 0 = n };
  applied = λ a e. None;
}

-- its Eq
abbrev five_same : Five → Five → Bool
five_same a b = nat_eq a.0 b.0

-- that it keeps the laws
pub five_laws : AccountLaws five_same five_rules
five_laws = laws_of_exact five_same five_rules (λ a. eq-eqb a.0 a.0 refl) (λ a b s. ap five_from (eqb-true a.0 b.0 s)) (λ a n. refl) (λ a m n. refl) (λ a. refl)

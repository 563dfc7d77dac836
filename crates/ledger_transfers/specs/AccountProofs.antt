-- That the two accounts keep the laws.
use Rattle.std.specs.Prelude.{◌≡◌, ℕ, ◌&&◌, Bool, true, false, nat_eq, Option, None, Some, refl}
use Rattle.std.proofs.Common.{ap, subst, sym, ◌∙◌, true≢false}
use Rattle.std.proofs.lemmas.Bool.{eqb-true, eq-eqb}
use Rattle.ledger_transfers.specs.Rules.{Rules, AccountLaws, SameOutcome}
use Rattle.ledger_transfers.specs.Accounts.{balance_rules, sequenced_rules}
use Rattle.ledger_transfers.specs.declared.balance.Balance.{Balance}
use Rattle.ledger_transfers.specs.declared.sequenced.Sequenced.{Sequenced}

-- where `same` tells accounts apart, what is left of the laws speaks of the balance alone
module _ {A E : Type 0} (same : A → A → Bool) (rules : Rules A E) (alike : (a : A) → same a a ≡ true) (exact : (a b : A) → same a b ≡ true → a ≡ b) where
  same_outcome : (r : Option A) → SameOutcome same r r
  same_outcome None = tt
  same_outcome (Some a) = alike a

  pub laws_of_exact : ((a : A) (n : ℕ) → rules.balance_of (rules.with_balance a n) ≡ n)
      → ((a : A) (m n : ℕ) → rules.with_balance (rules.with_balance a m) n ≡ rules.with_balance a n)
      → ((a : A) → rules.with_balance a (rules.balance_of a) ≡ a) → AccountLaws same rules
  laws_of_exact given nothing_else unchanged = record {
    one_balance = λ a b s. ap rules.balance_of (exact a b s);
    one_with_balance = λ a b n s. subst (λ c. same (rules.with_balance a n) (rules.with_balance c n) ≡ true) (exact a b s) (alike (rules.with_balance a n));
    one_applied = λ a b e s. subst (λ c. SameOutcome same (rules.applied a e) (rules.applied c e)) (exact a b s) (same_outcome (rules.applied a e));
    given = given;
    nothing_else = λ a m n. subst (λ c. same c (rules.with_balance a n) ≡ true) (sym (nothing_else a m n)) (alike (rules.with_balance a n));
    unchanged = λ a. subst (λ c. same c a ≡ true) (sym (unchanged a)) (alike a);
  }

both : (x y : Bool) → (x && y) ≡ true → (x ≡ true) × (y ≡ true)
both true y h = (refl, h)
both false y h = absurd (true≢false (sym h))

and_of : (x y : Bool) → x ≡ true → y ≡ true → (x && y) ≡ true
and_of true y h k = k
and_of false y h k = h

abbrev balance_same : Balance → Balance → Bool
balance_same a b = nat_eq a.0 b.0

abbrev balance_from : ℕ → Balance
balance_from n = record { 0 = n }

pub balance_laws : AccountLaws balance_same balance_rules
balance_laws = laws_of_exact balance_same balance_rules (λ a. eq-eqb a.0 a.0 refl) (λ a b s. ap balance_from (eqb-true a.0 b.0 s)) (λ a n. refl) (λ a m n. refl) (λ a. refl)

abbrev sequenced_same : Sequenced → Sequenced → Bool
sequenced_same a b = nat_eq a.balance b.balance && nat_eq a.nonce b.nonce

abbrev sequenced_from : ℕ → ℕ → Sequenced
sequenced_from b n = record { balance = b; nonce = n }

sequenced_exact : (a b : Sequenced) → sequenced_same a b ≡ true → a ≡ b
sequenced_exact a b s =
    let p = both (nat_eq a.balance b.balance) (nat_eq a.nonce b.nonce) s in
    ap (λ m. sequenced_from m a.nonce) (eqb-true a.balance b.balance p.0) ∙ ap (sequenced_from b.balance) (eqb-true a.nonce b.nonce p.1)

pub sequenced_laws : AccountLaws sequenced_same sequenced_rules
sequenced_laws = laws_of_exact sequenced_same sequenced_rules
    (λ a. and_of (nat_eq a.balance a.balance) (nat_eq a.nonce a.nonce) (eq-eqb a.balance a.balance refl) (eq-eqb a.nonce a.nonce refl))
    sequenced_exact (λ a n. refl) (λ a m n. refl) (λ a. refl)

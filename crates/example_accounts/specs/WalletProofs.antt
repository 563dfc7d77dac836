-- That wallets keep the laws of accounts, and their values the laws of values.
use Rattle.std.specs.Prelude.{◌≡◌, ℕ, ◌≤◌, ◌<◌, ◌^◌, ◌&&◌, Bool, true, false, nat_eq, refl}
use Rattle.std.proofs.Common.{ap, ◌∙◌, arith, lit<}
use Rattle.std.proofs.lemmas.Bool.{eqb-true, eq-eqb}
use Rattle.ledger_transfers.specs.Rules.{AccountLaws}
use Rattle.ledger_transfers.specs.AccountProofs.{laws_of_exact}
use Rattle.ledger_transfers.specs.Touches.{max_amount}
use Rattle.ledger_managed.specs.Values.{ValueLaws}
use Rattle.ledger_numbers.specs.Spelled.{has_two}
use Rattle.ledger_numbers.specs.Laws.{AreMade, laws_of_numbers, made_of_two}
use Rattle.example_accounts.specs.Wallets.{wallet_rules, wallet_values, numbers_of_wallet, wallet_of, IsSoundWallet}
use Rattle.example_accounts.specs.declared.wallet.Wallet.{Wallet}

-- wallets with equal numbers
abbrev pub wallet_same : Wallet → Wallet → Bool
wallet_same a b = nat_eq a.coins b.coins && nat_eq a.points b.points

both : (x y : Bool) → (x && y) ≡ true → (x ≡ true) × (y ≡ true)
both true y h = (refl, h)
both false y h = absurd cc

wallet_exact : (a b : Wallet) → wallet_same a b ≡ true → a ≡ b
wallet_exact a b s =
    let p = both (nat_eq a.coins b.coins) (nat_eq a.points b.points) s in
    λ i. record { coins = eqb-true a.coins b.coins p.0 i; points = eqb-true a.points b.points p.1 i }

wallet_alike : (a : Wallet) → wallet_same a a ≡ true
wallet_alike a = ap (λ b. b && nat_eq a.points a.points) (eq-eqb a.coins a.coins refl) ∙ eq-eqb a.points a.points refl

-- the laws of accounts
pub wallet_laws : AccountLaws wallet_same wallet_rules
wallet_laws = laws_of_exact wallet_same wallet_rules wallet_alike wallet_exact (λ a n. refl) (λ a m n. refl) (λ a. refl)

within : (n : ℕ) → n < 2 ^ 64 → n ≤ max_amount
within n h = omega (arith, h)

wallet_made : AreMade wallet_same IsSoundWallet wallet_rules numbers_of_wallet has_two wallet_of
wallet_made = record {
  alike = wallet_alike;
  exact = wallet_exact;
  words = λ a s. record { first = s.0; second = s.1; third = lit< tt; fourth = lit< tt };
  again = λ a. refl;
  passes = λ a. refl;
  spelled = made_of_two;
  amount = λ a w. within a.coins w.first;
  first_amount = omega arith;
}

-- the laws of values
pub wallet_value_laws : ValueLaws wallet_same IsSoundWallet wallet_rules wallet_values
wallet_value_laws = laws_of_numbers wallet_same IsSoundWallet wallet_rules numbers_of_wallet has_two wallet_of wallet_made

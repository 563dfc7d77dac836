-- What an account means.
use Rattle.std.specs.Prelude.{◌≡◌, ℕ, Bool, true, Option, None, Some, ⊤}

-- an account's default, its balance, what a new balance makes of it, and what an effect makes of it where it isn't refused
pub record Rules (A E : Type 0) : Type 0 where
  pub initial : A
  pub balance_of : A → ℕ
  pub with_balance : A → ℕ → A
  pub applied : A → E → Option A

-- both are refused, or both are accounts that are the same
abbrev pub SameOutcome : {A : Type 0} → (A → A → Bool) → Option A → Option A → Type 0
SameOutcome same None None = ⊤
SameOutcome same (Some a) (Some b) = same a b ≡ true
SameOutcome same None (Some b) = ⊥
SameOutcome same (Some a) None = ⊥

-- accounts that are the same have one balance and stay the same under each rule; a new balance changes the balance alone
pub record AccountLaws {A E : Type 0} (same : A → A → Bool) (rules : Rules A E) : Type 0 where
  pub one_balance : (a b : A) → same a b ≡ true → rules.balance_of a ≡ rules.balance_of b
  pub one_with_balance : (a b : A) (n : ℕ) → same a b ≡ true → same (rules.with_balance a n) (rules.with_balance b n) ≡ true
  pub one_applied : (a b : A) (e : E) → same a b ≡ true → SameOutcome same (rules.applied a e) (rules.applied b e)
  pub given : (a : A) (n : ℕ) → rules.balance_of (rules.with_balance a n) ≡ n
  pub nothing_else : (a : A) (m n : ℕ) → same (rules.with_balance (rules.with_balance a m) n) (rules.with_balance a n) ≡ true
  pub unchanged : (a : A) → same (rules.with_balance a (rules.balance_of a)) a ≡ true

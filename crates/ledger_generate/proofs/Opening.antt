-- The accounts of the log that a generated job serves.
use Rattle.std.proofs.Common.{◌≡◌, ℕ, zero, suc, ◌+◌, ◌*◌, ◌/◌, ◌^◌, ◌<◌, ◌≤◌, ◌⊎◌, inl, inr, ◌&&◌, nat_eq, Bool, true, false, cond, List, [], ◌∷◌, ◌++◌, map, Option, Some, None, refl, sym, ap, ◌∙◌, arith, true≢false, bytes_eq, zero-add, add-one}
use Rattle.std.specs.List.{range_with_len}
use Rattle.std.specs.Cmp.Lexicographic.{bytes_decides}
use Rattle.std.proofs.Math.Nat.{div-le_self}
use Rattle.std.proofs.lemmas.Bool.{eqb-true, cases_order}
use Rattle.std.proofs.lemmas.List.{map-append}
use Rattle.std.proofs.lemmas.List.FromFn.{map-range_with_len_more}
use Rattle.ledger_log.specs.declared.any.AnyOp.{AnyOp}
use Rattle.ledger_log.specs.declared.any.AnyOp.TheVariants.{Update, CommitFloor}
use Rattle.ledger_managed.specs.Spelled.{sequenced_value, sequenced_values, read_sequenced}
use Rattle.ledger_managed.specs.SpelledProofs.{sequenced_same, sequenced_value_laws}
use Rattle.ledger_program.specs.Served.{served, update_of}
use Rattle.ledger_settling.proofs.ReplayLemmas.{account_at-update, account_at-commit}
use Rattle.ledger_settling.specs.Blocks.{account_at}
use Rattle.ledger_transfers.specs.Rules.{SameOutcome}
use Rattle.ledger_transfers.specs.declared.sequenced.Sequenced.{Sequenced}
use Rattle.ledger_generate.specs.Generated.{key_at, open_at, opens}
use Rattle.ledger_generate.specs.Sizes.{SizesView, IsWithin, opening_balance}

both : (x y : Bool) → (x && y) ≡ true → (x ≡ true) × (y ≡ true)
both true y h = (refl, h)
both false y h = absurd (true≢false (sym h))

-- a value reads as the account that it was made of
exact : (a : Sequenced) (r : Option Sequenced) → SameOutcome sequenced_same (Some a) r → r ≡ Some a
exact a None h = absurd h
exact a (Some b) h =
    let p = both (nat_eq a.balance b.balance) (nat_eq a.nonce b.nonce) h in
    λ i. Some (record { balance = sym (eqb-true a.balance b.balance p.0) i; nonce = sym (eqb-true a.nonce b.nonce p.1) i })

module _ (sizes : SizesView) (w : IsWithin sizes) where
  -- an account, as it opens
  abbrev pub opening_account : Sequenced
  opening_account = record { balance = opening_balance sizes; nonce = 0 }

  value_is : read_sequenced (sequenced_value opening_account) ≡ Some opening_account
  value_is =
      let low : sizes.transfers / sizes.accounts ≤ sizes.transfers = div-le_self sizes.transfers sizes.accounts in
      exact opening_account (read_sequenced (sequenced_value opening_account)) (sequenced_value_laws.reads_back opening_account (small (sizes.transfers / sizes.accounts) sizes.transfers low w.few, omega arith))
    where
      small : (q n : ℕ) → q ≤ n → n ≤ 100000 → 10 * (q + 1) < 2 ^ 64
      small q n l f = omega (arith, l, f)

  -- the log with its first accounts
  abbrev so_far : ℕ → List AnyOp
  so_far n = CommitFloor None 0 ∷ map update_of (map (open_at sizes) (range_with_len 0 n))

  one_open : (n : ℕ) → so_far (n + 1) ≡ so_far n ++ Update (key_at n) (sequenced_value opening_account) ∷ []
  one_open n =
      ap (λ us. CommitFloor None 0 ∷ map update_of us) (map-range_with_len_more (open_at sizes) 0 n n (zero-add n))
      ∙ ap (λ us. CommitFloor None 0 ∷ us) (map-append update_of (map (open_at sizes) (range_with_len 0 n)) (open_at sizes n ∷ []))

  opened_by : (m n : ℕ) → m < n → account_at sequenced_values (so_far n) (key_at m) ≡ Some opening_account
  opened_by m zero l = absurd (omega (arith, l))
  opened_by m (suc n) l =
      ap (λ i. account_at sequenced_values (so_far i) (key_at m)) (sym (add-one n)) ∙ ap (λ us. account_at sequenced_values us (key_at m)) (one_open n)
      ∙ account_at-update sequenced_values (so_far n) (key_at n) (sequenced_value opening_account) (key_at m) ∙ by (bytes_eq (key_at n) (key_at m)) refl (opened_by m n)
    where
      earlier : (m ≡ n → ⊥) → m < n
      earlier other = at (cases_order m n)
        where
          at : (m ≡ n) ⊎ ((m < n) ⊎ (n < m)) → m < n
          at (inl e) = absurd (other e)
          at (inr (inl k)) = k
          at (inr (inr k)) = absurd (omega (arith, k, l))

      by : (b : Bool) → bytes_eq (key_at n) (key_at m) ≡ b → (m < n → account_at sequenced_values (so_far n) (key_at m) ≡ Some opening_account)
          → cond b (read_sequenced (sequenced_value opening_account)) (account_at sequenced_values (so_far n) (key_at m)) ≡ Some opening_account
      by true e rest = value_is
      by false e rest = rest (earlier (λ q. true≢false (sym ((bytes_decides (key_at n) (key_at m)).1 (ap key_at (sym q))) ∙ e)))

  -- each account opens with the same balance
  pub opens_with : (m : ℕ) → m < sizes.accounts → account_at sequenced_values (served (opens sizes)) (key_at m) ≡ Some opening_account
  unfolding served opens
  opens_with m l = account_at-commit sequenced_values (so_far sizes.accounts) None 0 (key_at m) ∙ opened_by m sizes.accounts l

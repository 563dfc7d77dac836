-- A candidate on top of a batch that is kept by its sums.
use Rattle.std.proofs.Common.{◌≡◌, Bool, true, List, [], ◌∷◌, ◌++◌, Option, None, Some, refl, sym, subst}
use Rattle.std.specs.Prelude.{option_and_then}
use Rattle.std.specs.Cmp.{IsEquivalence}
use Rattle.ledger_transfers.specs.Rules.{Rules, AccountLaws, SameOutcome}
use Rattle.ledger_transfers.specs.Settling.{folded, opened}
use Rattle.ledger_transfers.specs.Taking.{IsHeld, merged, kept}
use Rattle.ledger_transfers.specs.declared.held.Sums.{Sums}
use Rattle.ledger_transfers.specs.declared.totals.Totals.{Totals}
use Rattle.ledger_transfers.proofs.AccountLemmas.{outcome_trans, folded_alike, bind_alike}

module _ {A E : Type 0} (rules : Rules A E) where
  -- the effects of two batches in a row
  pub folded_append : (es fs : List E) (a : A) → folded rules a (es ++ fs) ≡ option_and_then (λ b. folded rules b fs) (folded rules a es)
  folded_append [] fs a = refl
  folded_append (e ∷ es) fs a = by (rules.applied a e) (folded_append es fs)
    where
      by : (r : Option A) → ((b : A) → folded rules b (es ++ fs) ≡ option_and_then (λ b. folded rules b fs) (folded rules b es))
          → option_and_then (λ b. folded rules b (es ++ fs)) r ≡ option_and_then (λ b. folded rules b fs) (option_and_then (λ b. folded rules b es) r)
      by None rest = refl
      by (Some b) rest = rest b

module _ {A E : Type 0} (same : A → A → Bool) (equiv : IsEquivalence same) (rules : Rules A E) (laws : AccountLaws same rules) where
  -- effects on a copy of the kept account come to those of both batches on the opening account
  pub folded_merged : (read : Option A) (sums : Sums A) (taken total : Totals E) (copy : A) (r : Option A) → IsHeld same rules read sums taken → same copy (kept rules read sums) ≡ true
      → SameOutcome same r (folded rules copy total.effects) → SameOutcome same r (folded rules (opened rules read) (merged taken total).effects)
  folded_merged read sums taken total copy r held s f =
      subst (SameOutcome same r) (sym (folded_append rules taken.effects total.effects (opened rules read)))
      (outcome_trans same equiv rules laws r (folded rules (kept rules read sums) total.effects) _
      (outcome_trans same equiv rules laws r (folded rules copy total.effects) (folded rules (kept rules read sums) total.effects) f (folded_alike same equiv rules laws total.effects copy (kept rules read sums) s))
      (bind_alike same equiv rules laws total.effects (Some (kept rules read sums)) (folded rules (opened rules read) taken.effects) held.account))

-- One change more on top of a batch that is kept by its sums.
use Rattle.std.proofs.Common.{◌≡◌, ℕ, ◌+◌, Bool, true, false, Option, None, Some, refl, sym, ap, subst, ◌∙◌, true≢false}
use Rattle.std.specs.Prelude.{IsSome, option_and_then}
use Rattle.std.specs.Option.{option_to_list}
use Rattle.std.specs.Cmp.{IsEquivalence}
use Rattle.ledger_transfers.specs.Rules.{Rules, AccountLaws, SameOutcome}
use Rattle.ledger_transfers.specs.Touches.{with_change}
use Rattle.ledger_transfers.specs.Settling.{folded, opened, Settles}
use Rattle.ledger_transfers.specs.Taking.{IsHeld, merged, kept}
use Rattle.ledger_transfers.specs.declared.change.Change.{Change}
use Rattle.ledger_transfers.specs.declared.held.Held.{Held}
use Rattle.ledger_transfers.specs.declared.totals.Totals.{Totals}
use Rattle.ledger_transfers.proofs.SettleLemmas.{outcome_none}
use Rattle.ledger_transfers.proofs.TakingLemmas.{folded_append, folded_merged}

-- what a change does to its key
abbrev once : {E : Type 0} → Change E → Totals E
once change = record { debits = change.debit; credits = change.credit; effects = option_to_list change.effect }

module _ {A : Type 0} where
  bind_some : (o : Option A) → option_and_then (λ b. Some b) o ≡ o
  bind_some None = refl
  bind_some (Some a) = refl

  bind_none : {B : Type 0} (f : A → Option B) (o : Option A) → o ≡ None → IsSome (option_and_then f o) → ⊥
  bind_none f None e h = true≢false (sym h)
  bind_none f (Some a) e h = true≢false (ap is_some e)
    where
      is_some : Option A → Bool
      is_some None = false
      is_some (Some x) = true

module _ {A E : Type 0} (same : A → A → Bool) (equiv : IsEquivalence same) (rules : Rules A E) (laws : AccountLaws same rules) where
  -- an effect on a copy of the kept account comes to all effects on the opening one
  effect_outcome : (h : Held A) (change : Change E) (e : E) (taken : Totals E) (copy : A) (r : Option A) → IsHeld same rules h.read h.sums taken → same copy (kept rules h.read h.sums) ≡ true
      → change.effect ≡ Some e → SameOutcome same r (rules.applied copy e) → SameOutcome same r (folded rules (opened rules h.read) (with_change taken change).effects)
  effect_outcome h change e taken copy r held s is f =
      folded_merged same equiv rules laws h.read h.sums taken (once change) copy r held s
      (subst (λ o. SameOutcome same r (folded rules copy (option_to_list o))) (sym is) (subst (SameOutcome same r) (sym (bind_some (rules.applied copy e))) f))

  -- a refused effect stays refused
  pub effect_never : (h : Held A) (change : Change E) (e : E) (taken more : Totals E) (copy : A) → IsHeld same rules h.read h.sums taken → same copy (kept rules h.read h.sums) ≡ true
      → change.effect ≡ Some e → SameOutcome same None (rules.applied copy e) → Settles rules (opened rules h.read) (merged (with_change taken change) more) → ⊥
  effect_never h change e taken more copy held s is f settles =
      let none = outcome_none same equiv rules laws _ (effect_outcome h change e taken copy None held s is f) in
      bind_none (λ b. folded rules b more.effects) (folded rules (opened rules h.read) (with_change taken change).effects) none
      (subst IsSome (folded_append rules (with_change taken change).effects more.effects (opened rules h.read)) settles.accepted)

  -- with an effect the account is what the effect leaves
  pub effect_change : (h : Held A) (change : Change E) (e : E) (taken : Totals E) (copy done : A) (debits credits : ℕ) → IsHeld same rules h.read h.sums taken → same copy (kept rules h.read h.sums) ≡ true
      → change.effect ≡ Some e → SameOutcome same (Some done) (rules.applied copy e) → debits ≡ h.sums.debits + change.debit → credits ≡ h.sums.credits + change.credit
      → IsHeld same rules h.read (record { debits = debits; credits = credits; account = Some done }) (with_change taken change)
  effect_change h change e taken copy done debits credits held s is f d c = record {
    debits = d ∙ ap (λ n. n + change.debit) held.debits;
    credits = c ∙ ap (λ n. n + change.credit) held.credits;
    account = effect_outcome h change e taken copy (Some done) held s is f;
  }

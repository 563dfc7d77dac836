-- Accounts that are the same stay the same under effects.
use Rattle.std.proofs.Common.{◌≡◌, ℕ, ◌+◌, ◌<◌, Bool, true, List, [], ◌∷◌, length, get_or, drop, Option, None, Some, sym, ap, subst, ◌∙◌, add-one, suc}
use Rattle.std.specs.Prelude.{option_and_then}
use Rattle.std.specs.Cmp.{IsEquivalence}
use Rattle.std.proofs.Math.Seq.{drop-cons}
use Rattle.ledger_transfers.specs.Rules.{Rules, AccountLaws, SameOutcome}
use Rattle.ledger_transfers.specs.Settling.{folded}

module _ {A E : Type 0} (same : A → A → Bool) (equiv : IsEquivalence same) (rules : Rules A E) (laws : AccountLaws same rules) where
  pub outcome_refl : (r : Option A) → SameOutcome same r r
  outcome_refl None = tt
  outcome_refl (Some a) = equiv.refl a

  pub same_trans : (a b c : A) → same a b ≡ true → same b c ≡ true → same a c ≡ true
  same_trans a b c h k = equiv.congr a b c h ∙ k

  pub outcome_trans : (r s t : Option A) → SameOutcome same r s → SameOutcome same s t → SameOutcome same r t
  outcome_trans None None None h k = tt
  outcome_trans None None (Some c) h k = k
  outcome_trans None (Some b) t h k = absurd h
  outcome_trans (Some a) None t h k = absurd h
  outcome_trans (Some a) (Some b) None h k = k
  outcome_trans (Some a) (Some b) (Some c) h k = same_trans a b c h k

  pub folded_alike : (es : List E) (a b : A) → same a b ≡ true → SameOutcome same (folded rules a es) (folded rules b es)
  folded_alike [] a b h = h
  folded_alike (e ∷ es) a b h = by (rules.applied a e) (rules.applied b e) (laws.one_applied a b e h) (folded_alike es)
    where
      by : (x y : Option A) → SameOutcome same x y → ((a b : A) → same a b ≡ true → SameOutcome same (folded rules a es) (folded rules b es))
          → SameOutcome same (option_and_then (λ b. folded rules b es) x) (option_and_then (λ b. folded rules b es) y)
      by None None h rest = tt
      by None (Some b) h rest = absurd h
      by (Some a) None h rest = absurd h
      by (Some a) (Some b) h rest = rest a b h

  -- the effects that are left, after one is taken or refused
  pub bind_alike : (es : List E) (x y : Option A) → SameOutcome same x y → SameOutcome same (option_and_then (λ b. folded rules b es) x) (option_and_then (λ b. folded rules b es) y)
  bind_alike es None None h = tt
  bind_alike es None (Some b) h = absurd h
  bind_alike es (Some a) None h = absurd h
  bind_alike es (Some a) (Some b) h = folded_alike es a b h

  rest_is : (es : List E) (i : ℕ) (e : E) → i < length es → e ≡ get_or es i e → drop i es ≡ e ∷ drop (i + 1) es
  rest_is es i e l at = drop-cons es i e l ∙ ap (λ x. x ∷ drop (suc i) es) (sym at) ∙ ap (λ n. e ∷ drop n es) (sym (add-one i))

  -- the account after one more effect, with those that are left, comes to what all effects come to
  pub one_applied_more : (es : List E) (i : ℕ) (e : E) (start old : A) (new : Option A) → i < length es → e ≡ get_or es i e
      → SameOutcome same (folded rules old (drop i es)) (folded rules start es) → SameOutcome same new (rules.applied old e)
      → SameOutcome same (option_and_then (λ b. folded rules b (drop (i + 1) es)) new) (folded rules start es)
  one_applied_more es i e start old new l at inv h =
      outcome_trans _ (option_and_then (λ b. folded rules b (drop (i + 1) es)) (rules.applied old e)) _
      (bind_alike (drop (i + 1) es) new (rules.applied old e) h)
      (subst (λ us. SameOutcome same (folded rules old us) (folded rules start es)) (rest_is es i e l at) inv)

-- New sums, key by key.
use Rattle.std.proofs.Common.{◌≡◌, Bool, true, List, [], ◌∷◌, ◌++◌, length, slice_get, unwrap_or, Some, sym, ap, subst, ◌∙◌}
use mathlib.Core.Logic.{inl, inr}
use Rattle.std.specs.Cmp.{IsEquivalence}
use Rattle.std.specs.Map.{lookup}
use Rattle.ledger_strategy.proofs.PartsLemmas.{slice_get_push_cases}
use Rattle.ledger_transfers.specs.Selecting.{StandTogether}

pub Some_injective : {X : Type 0} (x y : X) → Some x ≡ Some y → x ≡ y
Some_injective x y h = ap (λ o. unwrap_or o x) h

pub StandTogether-push : {X Y : Type 0} (R : X → Y → Type 0) (xs : List X) (ys : List Y) (x : X) (y : Y) → StandTogether R xs ys → slice_get xs (length ys) ≡ Some x → R x y → StandTogether R xs (ys ++ y ∷ [])
StandTogether-push R xs ys x y h at r i a b p q =
    elim (slice_get_push_cases ys y b i q) [
      | inl old ↦ h i a b p old
      | inr new ↦ subst (R a) new.1 (subst (λ z. R z y) (Some_injective x a (sym at ∙ ap (slice_get xs) (sym new.0) ∙ p)) r)
    ]

module _ {K : Type 0} (eq : K → K → Bool) (laws : IsEquivalence eq) where
  pub lookup_equal : {X : Type 0} (es : List (K × X)) (k q : K) → eq k q ≡ true → lookup (eq k) es ≡ lookup (eq q) es
  lookup_equal es k q h = ap (λ (p : K → Bool). lookup p es) (λ i x. laws.congr k q x h i)

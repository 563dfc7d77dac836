-- Lists of views, of which one changes.
use Rattle.std.proofs.Common.{◌≡◌, ◌≢◌, ◌⊎◌, ℕ, zero, suc, ◌+◌, List, [], ◌∷◌, ◌++◌, length, set, refl, sym, ap, ◌∙◌, subst, ⊎_elim, inl, inr, arith}
use mathlib.Core.Option.{some, some-ne-none, some-injective}
use lib.ListN.{get_elem?}
use Rattle.atomic_table.proofs.Lists.{at_set}
use Rattle.turn_lock.specs.declared.rule.View.{View}
use Rattle.turn_lock.specs.Rule.{total}

-- the new last one has the number that the list was long
pub at_snoc_at : {A : Type 0} (l : List A) (a b : A) (j : ℕ) → get_elem? (l ++ a ∷ []) j ≡ some b → (get_elem? l j ≡ some b) ⊎ ((j ≡ length l) × (a ≡ b))
at_snoc_at [] a b zero e = inr (refl, some-injective a b e)
at_snoc_at [] a b (suc j) e = absurd (some-ne-none b (sym e))
at_snoc_at (x ∷ xs) a b zero e = inl e
at_snoc_at (x ∷ xs) a b (suc j) e = ⊎_elim (λ h. inl h) (λ h. inr (ap suc h.0, h.1)) (at_snoc_at xs a b j e)

pub at_below : {A : Type 0} (l : List A) (j : ℕ) (a : A) → get_elem? l j ≡ some a → j ≡ length l → ⊥
at_below [] j a e h = some-ne-none a (sym e)
at_below (x ∷ xs) zero a e h = omega arith
at_below (x ∷ xs) (suc j) a e h = at_below xs j a e (omega arith)

pub set_swap : {A : Type 0} (l : List A) (i j : ℕ) (a b : A) → i ≢ j → set (set l i a) j b ≡ set (set l j b) i a
set_swap [] i j a b ne = refl
set_swap (x ∷ xs) zero zero a b ne = absurd (ne refl)
set_swap (x ∷ xs) zero (suc j) a b ne = refl
set_swap (x ∷ xs) (suc i) zero a b ne = refl
set_swap (x ∷ xs) (suc i) (suc j) a b ne = ap (λ l. x ∷ l) (set_swap xs i j a b (λ e. ne (ap suc e)))

module _ {V E A : Type 0} where
  pub total_set : (f : (View V E A) → ℕ) (views : List (View V E A)) (port : ℕ) (v w : (View V E A)) → get_elem? views port ≡ some v → total f (set views port w) + f v ≡ total f views + f w
  total_set f [] port v w e = absurd (some-ne-none v (sym e))
  total_set f (x ∷ xs) zero v w e = let h : f x ≡ f v = ap f (some-injective x v e) in omega arith
  total_set f (x ∷ xs) (suc port) v w e = let h = total_set f xs port v w e in omega (arith, h)

  pub total_snoc : (f : (View V E A) → ℕ) (views : List (View V E A)) (w : (View V E A)) → total f (views ++ w ∷ []) ≡ total f views + f w
  total_snoc f [] w = omega arith
  total_snoc f (x ∷ xs) w = omega (arith, total_snoc f xs w)

  pub each_set : (K : (View V E A) → Type 0) (vs : List (View V E A)) (id : ℕ) (w : (View V E A)) → K w → ((j : ℕ) (u : (View V E A)) → j ≢ id → get_elem? vs j ≡ some u → K u)
      → (j : ℕ) (u : (View V E A)) → get_elem? (set vs id w) j ≡ some u → K u
  each_set K vs id w mine others j u e = ⊎_elim (λ (t : (j ≡ id) × (w ≡ u)). subst K t.1 mine) (λ (t : (j ≢ id) × (get_elem? vs j ≡ some u)). others j u t.0 t.1) (at_set vs id j w u e)

  pub each_snoc : (K : (View V E A) → Type 0) (vs : List (View V E A)) (w : (View V E A)) → K w → ((j : ℕ) (u : (View V E A)) → get_elem? vs j ≡ some u → K u)
      → (j : ℕ) (u : (View V E A)) → get_elem? (vs ++ w ∷ []) j ≡ some u → K u
  each_snoc K vs w mine others j u e = ⊎_elim (λ (t : get_elem? vs j ≡ some u). others j u t) (λ (t : (j ≡ length vs) × (w ≡ u)). subst K t.1 mine) (at_snoc_at vs w u j e)

  module _ (R : (View V E A) → (View V E A) → Type 0) (turned : (v w : (View V E A)) → R v w → R w v) where
    abbrev pub Pairs : List (View V E A) → Type 0
    Pairs vs = (i j : ℕ) (v w : (View V E A)) → i ≢ j → get_elem? vs i ≡ some v → get_elem? vs j ≡ some w → R v w

    pub pairs_set : (vs : List (View V E A)) (id : ℕ) (w : (View V E A)) → Pairs vs → ((j : ℕ) (u : (View V E A)) → j ≢ id → get_elem? vs j ≡ some u → R w u) → Pairs (set vs id w)
    pairs_set vs id w pairs new i j u v apart at at' =
        ⊎_elim
        (λ (t : (i ≡ id) × (w ≡ u)).
        ⊎_elim (λ (t' : (j ≡ id) × (w ≡ v)). absurd (apart (t.0 ∙ sym t'.0))) (λ (t' : (j ≢ id) × (get_elem? vs j ≡ some v)). subst (λ x. R x v) t.1 (new j v t'.0 t'.1)) (at_set vs id j w v at'))
        (λ (t : (i ≢ id) × (get_elem? vs i ≡ some u)).
        ⊎_elim (λ (t' : (j ≡ id) × (w ≡ v)). subst (λ x. R u x) t'.1 (turned w u (new i u t.0 t.1))) (λ (t' : (j ≢ id) × (get_elem? vs j ≡ some v)). pairs i j u v apart t.1 t'.1) (at_set vs id j w v at'))
        (at_set vs id i w u at)

    pub pairs_snoc : (vs : List (View V E A)) (w : (View V E A)) → Pairs vs → ((j : ℕ) (u : (View V E A)) → get_elem? vs j ≡ some u → R w u) → Pairs (vs ++ w ∷ [])
    pairs_snoc vs w pairs new i j u v apart at at' =
        ⊎_elim
        (λ (t : get_elem? vs i ≡ some u).
        ⊎_elim (λ (t' : get_elem? vs j ≡ some v). pairs i j u v apart t t') (λ (t' : (j ≡ length vs) × (w ≡ v)). subst (λ x. R u x) t'.1 (turned w u (new i u t))) (at_snoc_at vs w v j at'))
        (λ (t : (i ≡ length vs) × (w ≡ u)).
        ⊎_elim (λ (t' : get_elem? vs j ≡ some v). subst (λ x. R x v) t.1 (new j v t')) (λ (t' : (j ≡ length vs) × (w ≡ v)). absurd (apart (t.0 ∙ sym t'.0))) (at_snoc_at vs w v j at'))
        (at_snoc_at vs w u i at)

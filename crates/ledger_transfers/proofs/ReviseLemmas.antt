-- Sums that are replaced at a place, and put back.
use Rattle.std.proofs.Common.{◌≡◌, ℕ, zero, suc, List, [], ◌∷◌, ◌++◌, slice_get, None, Some, refl, sym, ap, ◌∙◌, true≢false}
use Rattle.std.specs.Prelude.{is_some}
use Rattle.std.specs.Map.{keys_of, values_of}
use Rattle.indexmap.specs.IndexMap.{set_value_at}
use Rattle.ledger_transfers.specs.declared.held.Held.{Held}
use Rattle.ledger_transfers.specs.declared.revise.Revision.{Revision}
use Rattle.ledger_transfers.specs.Revising.{revised, revised_at, undone}
use Rattle.ledger_transfers.proofs.SelectLemmas.{Some_injective}

module _ {A K : Type 0} where
  -- new sums that are written at a place
  pub revised_written : (es : List (K × Held A)) (i : ℕ) (h : Held A) (r : Revision A) → slice_get (values_of es) i ≡ Some h → set_value_at es i (revised r h) ≡ revised_at es i r
  revised_written [] i h r at = refl
  revised_written (e ∷ es) zero h r at = ap (λ x. (e.0, revised r x) ∷ es) (sym (Some_injective e.1 h at))
  revised_written (e ∷ es) (suc i) h r at = ap (λ us. e ∷ us) (revised_written es i h r at)

  -- past the last place nothing changes
  pub revised_past : (es : List (K × Held A)) (i : ℕ) (r : Revision A) → slice_get (values_of es) i ≡ None → revised_at es i r ≡ es
  revised_past [] i r at = refl
  revised_past (e ∷ es) zero r at = absurd (true≢false (ap is_some at))
  revised_past (e ∷ es) (suc i) r at = ap (λ us. e ∷ us) (revised_past es i r at)

  -- old sums that are put back at a place
  pub revised_back : (es : List (K × Held A)) (i : ℕ) (h g : Held A) (r : Revision A) → slice_get (values_of es) i ≡ Some h → revised r g ≡ h → revised_at (set_value_at es i g) i r ≡ es
  revised_back [] i h g r at back = refl
  revised_back (e ∷ es) zero h g r at back = ap (λ x. (e.0, x) ∷ es) (back ∙ sym (Some_injective e.1 h at))
  revised_back (e ∷ es) (suc i) h g r at back = ap (λ us. e ∷ us) (revised_back es i h g r at back)

  -- the keys stay
  pub keys_revised : (es : List (K × Held A)) (i : ℕ) (r : Revision A) → keys_of (revised_at es i r) ≡ keys_of es
  keys_revised [] i r = refl
  keys_revised (e ∷ es) zero r = refl
  keys_revised (e ∷ es) (suc i) r = ap (λ ks. e.0 ∷ ks) (keys_revised es i r)

  -- the last entry of a log is undone first
  pub undone_push : (bs : List (ℕ × Revision A)) (b : ℕ × Revision A) (es : List (K × Held A)) → undone (bs ++ b ∷ []) es ≡ undone bs (revised_at es b.0 b.1)
  undone_push [] b es = refl
  undone_push (c ∷ bs) b es = ap (λ us. revised_at us c.0 c.1) (undone_push bs b es)

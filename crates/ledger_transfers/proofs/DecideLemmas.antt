-- A candidate on top of what was taken.
use Rattle.std.proofs.Common.{◌≡◌, ℕ, ◌<◌, Bool, true, false, ◌||◌, List, [], ◌∷◌, ◌++◌, length, get_or, filter, sum_by, refl, sym, ap, subst, ◌∙◌, arith, true≢false, suc, zero}
use Rattle.std.specs.Prelude.{IsSome, option_and_then}
use Rattle.std.specs.List.{list_any, filter_map, All}
use Rattle.std.specs.Cmp.{IsEquivalence}
use Rattle.std.specs.Map.{lookup}
use Rattle.std.proofs.lemmas.List.Elements.{filter-append, filter_map-append}
use Rattle.std.proofs.lemmas.List.Sums.{sum_by-append}
use Rattle.std.proofs.lemmas.List.Folds.{list_any-append}
use Rattle.ledger_transfers.specs.declared.change.Change.{Change}
use Rattle.ledger_transfers.specs.declared.held.Held.{Held}
use Rattle.ledger_transfers.specs.Rules.{Rules}
use Rattle.ledger_transfers.specs.Touches.{total_of}
use Rattle.ledger_transfers.specs.Settling.{Settles, opened}
use Rattle.ledger_transfers.specs.Taking.{merged}
use Rattle.ledger_transfers.specs.Selecting.{SettledBy, opened_at}
use Rattle.ledger_transfers.proofs.TotalLemmas.{total_by}
use Rattle.ledger_transfers.proofs.PlanLemmas.{total_at_equal}
use Rattle.ledger_transfers.proofs.SelectLemmas.{lookup_equal}

module _ {K E : Type 0} (p : K × Change E → Bool) where
  -- what two batches in a row do
  pub total_by-append : (ts cs : List (K × Change E)) → total_by p (ts ++ cs) ≡ merged (total_by p ts) (total_by p cs)
  total_by-append ts cs =
      ap (λ us. record { debits = sum_by (λ t. t.1.debit) us; credits = sum_by (λ t. t.1.credit) us; effects = filter_map (λ t. t.1.effect) us }) (filter-append p ts cs)
      ∙ (λ i. record {
        debits = sum_by-append (λ (t : K × Change E). t.1.debit) (filter p ts) (filter p cs) i;
        credits = sum_by-append (λ (t : K × Change E). t.1.credit) (filter p ts) (filter p cs) i;
        effects = filter_map-append (λ (t : K × Change E). t.1.effect) (filter p ts) (filter p cs) i;
      })

  -- a place at which a touch passes
  pub found_at : (ts : List (K × Change E)) → list_any p ts ≡ true → (i : ℕ) × (t : K × Change E) × (i < length ts) × ((d : K × Change E) → get_or ts i d ≡ t) × (p t ≡ true)
  found_at [] h = absurd (true≢false (sym h))
  found_at (t ∷ ts) h = by (p t) refl h (found_at ts)
    where
      by : (b : Bool) → p t ≡ b → (b || list_any p ts) ≡ true → (list_any p ts ≡ true → (i : ℕ) × (s : K × Change E) × (i < length ts) × ((d : K × Change E) → get_or ts i d ≡ s) × (p s ≡ true))
          → (i : ℕ) × (s : K × Change E) × (i < suc (length ts)) × ((d : K × Change E) → get_or (t ∷ ts) i d ≡ s) × (p s ≡ true)
      by true e h rest = (zero, t, omega arith, (λ d. refl), e)
      by false e h rest = let r = rest h in (suc r.0, r.1, omega (arith, r.2), r.3, r.4)

module _ {A E K : Type 0} (eq : K → K → Bool) (laws : IsEquivalence eq) (same : A → A → Bool) (rules : Rules A E) (entries : List (K × Held A)) where
  pub opened_equal : (k q : K) → eq k q ≡ true → opened_at eq same rules entries k ≡ opened_at eq same rules entries q
  opened_equal k q h = ap (λ (p : K → Bool). opened rules (option_and_then (λ (h : Held A). h.read) (lookup p entries))) (λ i x. laws.congr k q x h i)

  -- a touched key of a settled batch settles
  pub settles_at : (us : List (K × Change E)) (k : K) → SettledBy eq same rules entries us → list_any (λ t. eq k t.0) us ≡ true → Settles rules (opened_at eq same rules entries k) (total_of eq us k)
  settles_at us k s touched =
      let f = found_at (λ t. eq k t.0) us touched in
      let there = subst (λ (t : K × Change E). Settles rules (opened_at eq same rules entries t.0) (total_of eq us t.0)) (f.3 f.1) (s f.0 f.1 f.2) in
      subst (λ a. Settles rules a (total_of eq us k)) (sym (opened_equal k f.1.0 f.4))
      (subst (Settles rules (opened_at eq same rules entries f.1.0)) (sym (total_at_equal eq laws us k f.1.0 f.4)) there)

  or_right : (a b : Bool) → b ≡ true → (a || b) ≡ true
  or_right true b h = refl
  or_right false b h = h

  pub any_right : (p : K × Change E → Bool) (ts cs : List (K × Change E)) → list_any p cs ≡ true → list_any p (ts ++ cs) ≡ true
  any_right p ts cs h = list_any-append p ts cs ∙ or_right (list_any p ts) (list_any p cs) h

  pub registered_at : (cs : List (K × Change E)) (k : K) → All (λ t. IsSome (lookup (eq t.0) entries)) cs → list_any (λ t. eq k t.0) cs ≡ true → IsSome (lookup (eq k) entries)
  registered_at cs k all touched =
      let f = found_at (λ t. eq k t.0) cs touched in
      subst IsSome (sym (lookup_equal eq laws entries k f.1.0 f.4)) (subst (λ (t : K × Change E). IsSome (lookup (eq t.0) entries)) (f.3 f.1) (all f.0 f.1 f.2))

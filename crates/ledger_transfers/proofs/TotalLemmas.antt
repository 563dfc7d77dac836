-- How a batch's sums, effects and keys grow by one change.
use Rattle.std.proofs.Common.{◌≡◌, ℕ, ◌≤◌, Bool, true, false, cond, ◌||◌, List, [], ◌∷◌, ◌++◌, Option, None, Some, filter, sum_by, refl, ap, ◌∙◌, arith, true≢false}
use Rattle.std.specs.List.{filter_map, list_any, cons_option}
use Rattle.std.specs.Option.{option_to_list}
use Rattle.std.proofs.lemmas.List.{append-nil}
use Rattle.std.proofs.lemmas.List.Elements.{filter-append, filter_map-append}
use Rattle.std.proofs.lemmas.List.Folds.{list_any-append}
use Rattle.std.proofs.lemmas.List.Sums.{sum_by-append, sum_by_push}
use Rattle.ledger_transfers.specs.declared.change.Change.{Change}
use Rattle.ledger_transfers.specs.declared.totals.Totals.{Totals}
use Rattle.ledger_transfers.specs.Touches.{with_change, no_total}

module _ {X : Type 0} where
  cons_option_is : (o : Option X) → cons_option o [] ≡ option_to_list o
  cons_option_is None = refl
  cons_option_is (Some x) = refl

module _ {K E : Type 0} (p : K × Change E → Bool) where
  -- the sums and effects of the touches that pass
  abbrev pub total_by : List (K × Change E) → Totals E
  total_by ts = record { debits = sum_by (λ t. t.1.debit) (filter p ts); credits = sum_by (λ t. t.1.credit) (filter p ts); effects = filter_map (λ t. t.1.effect) (filter p ts) }

  filter_push_yes : (ts : List (K × Change E)) (t : K × Change E) → p t ≡ true → filter p (ts ++ t ∷ []) ≡ filter p ts ++ t ∷ []
  filter_push_yes ts t y = filter-append p ts (t ∷ []) ∙ ap (λ b. filter p ts ++ cond b (t ∷ []) []) y

  filter_push_no : (ts : List (K × Change E)) (t : K × Change E) → p t ≡ false → filter p (ts ++ t ∷ []) ≡ filter p ts
  filter_push_no ts t n = filter-append p ts (t ∷ []) ∙ ap (λ b. filter p ts ++ cond b (t ∷ []) []) n ∙ append-nil (filter p ts)

  -- a change that passes is added
  pub total_by-yes : (ts : List (K × Change E)) (t : K × Change E) → p t ≡ true → total_by (ts ++ t ∷ []) ≡ with_change (total_by ts) t.1
  total_by-yes ts t y =
      let e = filter_push_yes ts t y in
      let fs = filter p ts in
      ap (λ us. record { debits = sum_by (λ t. t.1.debit) us; credits = sum_by (λ t. t.1.credit) us; effects = filter_map (λ t. t.1.effect) us }) e
      ∙ (λ i. record {
        debits = sum_by_push (λ (t : K × Change E). t.1.debit) fs t i;
        credits = sum_by_push (λ (t : K × Change E). t.1.credit) fs t i;
        effects = (filter_map-append (λ (t : K × Change E). t.1.effect) fs (t ∷ []) ∙ ap (λ es. filter_map (λ (t : K × Change E). t.1.effect) fs ++ es) (cons_option_is t.1.effect)) i;
      })

  -- another leaves them
  pub total_by-no : (ts : List (K × Change E)) (t : K × Change E) → p t ≡ false → total_by (ts ++ t ∷ []) ≡ total_by ts
  total_by-no ts t n = ap (λ us. record { debits = sum_by (λ t. t.1.debit) us; credits = sum_by (λ t. t.1.credit) us; effects = filter_map (λ t. t.1.effect) us }) (filter_push_no ts t n)

  filter_none : (ts : List (K × Change E)) → list_any p ts ≡ false → filter p ts ≡ []
  filter_none [] h = refl
  filter_none (t ∷ ts) h = by (p t) h (filter_none ts)
    where
      by : (b : Bool) → (b || list_any p ts) ≡ false → (list_any p ts ≡ false → filter p ts ≡ []) → cond b (t ∷ filter p ts) (filter p ts) ≡ []
      by true h rest = absurd (true≢false h)
      by false h rest = rest h

  -- where none passes, there is nothing
  pub total_by-none : (ts : List (K × Change E)) → list_any p ts ≡ false → total_by ts ≡ no_total
  total_by-none ts h = ap (λ us. record { debits = sum_by (λ t. t.1.debit) us; credits = sum_by (λ t. t.1.credit) us; effects = filter_map (λ t. t.1.effect) us }) (filter_none ts h)

  pub any_push : (ts : List (K × Change E)) (t : K × Change E) → list_any p (ts ++ t ∷ []) ≡ (list_any p ts || (p t || false))
  any_push ts t = list_any-append p ts (t ∷ [])

  -- a sum over a part is at most the sum over all
  pub sum_part : (f : K × Change E → ℕ) (ts us : List (K × Change E)) → sum_by f (filter p ts) ≤ sum_by f (filter p (ts ++ us))
  sum_part f ts us = omega (arith, ap (sum_by f) (filter-append p ts us), sum_by-append f (filter p ts) (filter p us))

-- Sums don't depend on the order of a batch, and debits only grow.
use Rattle.std.proofs.Common.{◌≡◌, ℕ, ◌+◌, ◌<◌, ◌≤◌, Bool, true, false, cond, ◌||◌, List, [], ◌∷◌, ◌++◌, length, get_or, take, drop, filter, sum_by, Option, None, Some, refl, sym, ap, subst, ◌∙◌, arith, suc, zero}
use Rattle.std.specs.Prelude.{IsNone, IsPermutation}
use Rattle.std.specs.List.{list_any, filter_map, cons_option, All}
use Rattle.std.specs.Cmp.{IsEquivalence}
use Rattle.std.proofs.lemmas.List.{take-append-drop, take_more}
use Rattle.std.proofs.lemmas.List.Elements.{filter-append, All-nil, All-head, All-tail, All-append}
use Rattle.std.proofs.lemmas.List.Folds.{list_any-append}
use Rattle.std.proofs.lemmas.List.Sums.{sum_by-append, sum_by-cons}
use Rattle.std.proofs.lemmas.List.Sorted.{All-permutation, IsPermutation-sym, list_any-IsPermutation, sum_by-IsPermutation}
use Rattle.ledger_transfers.specs.declared.change.Change.{Change}
use Rattle.ledger_transfers.specs.Rules.{Rules}
use Rattle.ledger_transfers.specs.Touches.{touches, deb, total_of}
use Rattle.ledger_transfers.specs.Settling.{Settles, Settled, after}
use Rattle.ledger_transfers.specs.Orders.{HasNoEffects, OpensByKey, EndsAlike}
use Rattle.ledger_transfers.proofs.TotalLemmas.{sum_part, total_by-none, total_by-yes, total_by-no}
use Rattle.ledger_transfers.proofs.TouchesLemmas.{touches_cons, touches_append}
use Rattle.ledger_transfers.proofs.TakenLemmas.{all_touched}
use Rattle.ledger_transfers.proofs.VerdictLemmas.{all_left, all_right}
use Rattle.ledger_transfers.proofs.BatchLemmas.{settles_key}

module _ {T K E : Type 0} (changes_of : T → List (K × Change E)) where
  -- a sum over the touches that pass is a sum over the transfers
  by_transfer : (f : K × Change E → ℕ) (p : K × Change E → Bool) (cs : List T) → sum_by f (filter p (touches changes_of cs)) ≡ sum_by (λ c. sum_by f (filter p (touches changes_of (c ∷ [])))) cs
  by_transfer f p [] = refl
  by_transfer f p (c ∷ cs) = ap (λ us. sum_by f (filter p us)) (touches_cons changes_of c cs) ∙ ap (sum_by f) (filter-append p (touches changes_of (c ∷ [])) (touches changes_of cs))
      ∙ sum_by-append f (filter p (touches changes_of (c ∷ []))) (filter p (touches changes_of cs)) ∙ ap (λ n. sum_by f (filter p (touches changes_of (c ∷ []))) + n) (by_transfer f p cs)
      ∙ sym (sum_by-cons (λ d. sum_by f (filter p (touches changes_of (d ∷ [])))) c cs)

  sum_in_any_order : (f : K × Change E → ℕ) (p : K × Change E → Bool) (cs ds : List T) → IsPermutation cs ds → sum_by f (filter p (touches changes_of cs)) ≡ sum_by f (filter p (touches changes_of ds))
  sum_in_any_order f p cs ds s = by_transfer f p cs ∙ sym (sum_by-IsPermutation (λ c. sum_by f (filter p (touches changes_of (c ∷ [])))) cs ds s) ∙ sym (by_transfer f p ds)

  any_by_transfer : (p : K × Change E → Bool) (cs : List T) → list_any p (touches changes_of cs) ≡ list_any (λ c. list_any p (touches changes_of (c ∷ []))) cs
  any_by_transfer p [] = refl
  any_by_transfer p (c ∷ cs) = ap (list_any p) (touches_cons changes_of c cs) ∙ list_any-append p (touches changes_of (c ∷ [])) (touches changes_of cs)
      ∙ ap (λ b. list_any p (touches changes_of (c ∷ [])) || b) (any_by_transfer p cs)

  any_in_any_order : (p : K × Change E → Bool) (cs ds : List T) → IsPermutation cs ds → list_any p (touches changes_of cs) ≡ list_any p (touches changes_of ds)
  any_in_any_order p cs ds s = any_by_transfer p cs ∙ list_any-IsPermutation (λ c. list_any p (touches changes_of (c ∷ []))) cs ds s ∙ sym (any_by_transfer p ds)

  module _ (P : K × Change E → Type 0) where
    each_transfer : (cs : List T) → All P (touches changes_of cs) → All (λ c. All P (touches changes_of (c ∷ []))) cs
    each_transfer [] h = All-nil (λ c. All P (touches changes_of (c ∷ [])))
    each_transfer (c ∷ cs) h =
        let here = subst (All P) (touches_cons changes_of c cs) h in
        All-append (λ c. All P (touches changes_of (c ∷ []))) (c ∷ []) cs (λ i d l. one i d l (all_left P (touches changes_of (c ∷ [])) (touches changes_of cs) here)) (each_transfer cs (all_right P (touches changes_of (c ∷ [])) (touches changes_of cs) here))
      where
        one : (i : ℕ) (d : T) → i < 1 → All P (touches changes_of (c ∷ [])) → All P (touches changes_of (get_or (c ∷ []) i d ∷ []))
        one zero d l h = h
        one (suc i) d l h = absurd (omega (arith, l))

    all_transfers : (cs : List T) → All (λ c. All P (touches changes_of (c ∷ []))) cs → All P (touches changes_of cs)
    all_transfers [] h = All-nil P
    all_transfers (c ∷ cs) h =
        subst (All P) (sym (touches_cons changes_of c cs))
        (All-append P (touches changes_of (c ∷ [])) (touches changes_of cs) (All-head (λ c. All P (touches changes_of (c ∷ []))) c cs h) (all_transfers cs (All-tail (λ c. All P (touches changes_of (c ∷ []))) c cs h)))

    all_in_any_order : (cs ds : List T) → IsPermutation cs ds → All P (touches changes_of cs) → All P (touches changes_of ds)
    all_in_any_order cs ds s h = all_transfers ds (All-permutation (λ c. All P (touches changes_of (c ∷ []))) cs ds s (each_transfer cs h))

module _ {K E : Type 0} where
  -- touches without effects come to no effects
  no_effects : (p : K × Change E → Bool) (ts : List (K × Change E)) → HasNoEffects ts → filter_map (λ t. t.1.effect) (filter p ts) ≡ []
  no_effects p [] h = refl
  no_effects p (t ∷ ts) h = by (p t) t.1.effect refl (All-head (λ (u : K × Change E). IsNone u.1.effect) t ts h) (no_effects p ts (All-tail (λ (u : K × Change E). IsNone u.1.effect) t ts h))
    where
      by : (b : Bool) (o : Option E) → t.1.effect ≡ o → IsNone o → filter_map (λ u. u.1.effect) (filter p ts) ≡ [] → filter_map (λ (u : K × Change E). u.1.effect) (cond b (t ∷ filter p ts) (filter p ts)) ≡ []
      by true None e n rest = ap (λ x. cons_option x (filter_map (λ (u : K × Change E). u.1.effect) (filter p ts))) e ∙ rest
      by true (Some x) e n rest = absurd cc
      by false o e n rest = rest

module _ {A E K : Type 0} (eq : K → K → Bool) (laws : IsEquivalence eq) (same : A → A → Bool) (rules : Rules A E) where
  module _ {T : Type 0} (changes_of : T → List (K × Change E)) where
    total_in_any_order : (cs ds : List T) (k : K) → HasNoEffects (touches changes_of cs) → IsPermutation cs ds → total_of eq (touches changes_of cs) k ≡ total_of eq (touches changes_of ds) k
    total_in_any_order cs ds k none s = λ i. record {
      debits = sum_in_any_order changes_of (λ t. t.1.debit) (λ t. eq k t.0) cs ds s i;
      credits = sum_in_any_order changes_of (λ t. t.1.credit) (λ t. eq k t.0) cs ds s i;
      effects = (no_effects (λ t. eq k t.0) (touches changes_of cs) none
          ∙ sym (no_effects (λ t. eq k t.0) (touches changes_of ds) (all_in_any_order changes_of (λ t. IsNone t.1.effect) cs ds s none))) i;
    }

    settled_in_any_order : (at : K → A) (cs ds : List T) → OpensByKey eq at → HasNoEffects (touches changes_of cs) → IsPermutation cs ds → Settled eq rules at (touches changes_of cs) → Settled eq rules at (touches changes_of ds)
    settled_in_any_order at cs ds congr none s h =
        all_touched eq laws (λ k. Settles rules (at k) (total_of eq (touches changes_of ds) k)) (touches changes_of ds) (λ k touched.
        subst (Settles rules (at k)) (total_in_any_order cs ds k none s) (settles_key eq laws same rules at congr (touches changes_of cs) k h (any_in_any_order changes_of (λ t. eq k t.0) cs ds s ∙ touched)))

    -- without effects a batch ends alike in every order
    pub ends_alike : (at : K → A) (cs ds : List T) → OpensByKey eq at → HasNoEffects (touches changes_of cs) → IsPermutation cs ds → EndsAlike eq rules at (touches changes_of cs) (touches changes_of ds)
    ends_alike at cs ds congr none s = record {
      settled = (
        settled_in_any_order at cs ds congr none s,
        settled_in_any_order at ds cs congr (all_in_any_order changes_of (λ t. IsNone t.1.effect) cs ds s none) (IsPermutation-sym cs ds s),
      );
      ends = λ k. ap (after rules (at k)) (total_in_any_order cs ds k none s);
    }

    -- a batch with debits above a key's opening balance isn't settled, whatever is added
    pub never_settled : (at : K → A) (cs more : List T) (k : K) (balance : ℕ) → OpensByKey eq at → balance < deb eq (touches changes_of cs) k → rules.balance_of (at k) ≤ balance → Settled eq rules at (touches changes_of (cs ++ more)) → ⊥
    never_settled at cs more k balance congr over opens h = by (list_any (λ t. eq k t.0) all) refl
      where
        all : List (K × Change E)
        all = touches changes_of (cs ++ more)

        grown : deb eq (touches changes_of cs) k ≤ deb eq all k
        grown = subst (λ us. deb eq (touches changes_of cs) k ≤ deb eq us k) (sym (touches_append changes_of cs more)) (sum_part (λ t. eq k t.0) (λ t. t.1.debit) (touches changes_of cs) (touches changes_of more))

        by : (b : Bool) → list_any (λ t. eq k t.0) all ≡ b → ⊥
        by true e = let s = settles_key eq laws same rules at congr all k h e in omega (arith, s.funded, grown, over, opens)
        by false e = let none = ap (λ t. t.debits) (total_by-none (λ t. eq k t.0) all e) in omega (arith, none, grown, over)

module _ {K E : Type 0} (eq : K → K → Bool) where
  -- one touch more
  pub deb_more : (ts : List (K × Change E)) (i : ℕ) (t : K × Change E) (k : K) → i < length ts → t ≡ get_or ts i t → deb eq (take (i + 1) ts) k ≡ deb eq (take i ts) k + cond (eq k t.0) t.1.debit 0
  deb_more ts i t k l at = ap (λ us. deb eq us k) (take_more ts i t l ∙ ap (λ x. take i ts ++ x ∷ []) (sym at)) ∙ by (eq k t.0) refl
    where
      by : (b : Bool) → eq k t.0 ≡ b → deb eq (take i ts ++ t ∷ []) k ≡ deb eq (take i ts) k + cond b t.1.debit 0
      by true e = ap (λ u. u.debits) (total_by-yes (λ s. eq k s.0) (take i ts) t e)
      by false e = let same = ap (λ u. u.debits) (total_by-no (λ s. eq k s.0) (take i ts) t e) in omega (arith, same)

  -- the debits of the first touches are at most all debits
  pub deb_part : (ts : List (K × Change E)) (i : ℕ) (k : K) → deb eq (take i ts) k ≤ deb eq ts k
  deb_part ts i k = subst (λ us. deb eq (take i ts) k ≤ deb eq us k) (take-append-drop i ts) (sum_part (λ t. eq k t.0) (λ t. t.1.debit) (take i ts) (drop i ts))

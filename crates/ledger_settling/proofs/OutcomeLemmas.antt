-- Accounts that are the same.
use Rattle.std.proofs.Common.{◌≡◌, ℕ, Bool, true, false, not, cond, ◌||◌, List, [], ◌∷◌, ◌++◌, length, slice_get, Option, None, Some, refl, sym, ap, subst, ◌∙◌, inl, inr, filter, map, bytes_eq, append_assoc}
use Rattle.std.specs.Cmp.{IsEquivalence}
use Rattle.std.specs.List.{list_any}
use Rattle.std.specs.BTreeMap.{BTreeMap}
use Rattle.std.proofs.lemmas.List.Elements.{filter-append}
use Rattle.std.proofs.lemmas.List.{append-nil}
use Rattle.ledger_strategy.proofs.PartsLemmas.{slice_get_push_cases}
use Rattle.indexmap.specs.IndexSet.{insert_key, insert_all}
use Rattle.std.specs.Cmp.Lexicographic.{nat_list_eq_equiv}
use Rattle.ledger_transfers.specs.declared.change.Change.{Change}
use Rattle.ledger_transfers.specs.Registering.{touched}
use Rattle.ledger_transfers.specs.Rules.{SameOutcome}
use Rattle.ledger_settling.specs.Blocks.{firsts}
use Rattle.ledger_settling.specs.Slots.{AreReads, touched_first}
use Rattle.ledger_settling.specs.Reports.{held}

module _ {A : Type 0} (same : A → A → Bool) (equiv : IsEquivalence same) where
  pub outcome_refl : (r : Option A) → SameOutcome same r r
  outcome_refl None = tt
  outcome_refl (Some a) = equiv.refl a

  pub outcome_sym : (r s : Option A) → SameOutcome same r s → SameOutcome same s r
  outcome_sym None None h = tt
  outcome_sym None (Some b) h = absurd h
  outcome_sym (Some a) None h = absurd h
  outcome_sym (Some a) (Some b) h = equiv.symm b a ∙ h

  pub outcome_trans : (r s t : Option A) → SameOutcome same r s → SameOutcome same s t → SameOutcome same r t
  outcome_trans None None None h k = tt
  outcome_trans None None (Some c) h k = k
  outcome_trans None (Some b) t h k = absurd h
  outcome_trans (Some a) None t h k = absurd h
  outcome_trans (Some a) (Some b) None h k = k
  outcome_trans (Some a) (Some b) (Some c) h k = equiv.congr a b c h ∙ k

module _ {K : Type 0} (eq : K → K → Bool) (laws : IsEquivalence eq) where
  any_filter : (q k : K) (xs : List K) → eq k q ≡ false → list_any (eq k) (filter (λ x. not (eq q x)) xs) ≡ list_any (eq k) xs
  any_filter q k [] h = refl
  any_filter q k (x ∷ xs) h = by (eq q x) refl (any_filter q k xs h)
    where
      by : (b : Bool) → eq q x ≡ b → list_any (eq k) (filter (λ y. not (eq q y)) xs) ≡ list_any (eq k) xs
          → list_any (eq k) (cond (not b) (x ∷ filter (λ y. not (eq q y)) xs) (filter (λ y. not (eq q y)) xs)) ≡ (eq k x || list_any (eq k) xs)
      by true e rest =
          let no : eq k x ≡ false = laws.symm k x ∙ sym (laws.congr q x k e) ∙ laws.symm q k ∙ h in
          rest ∙ sym (ap (λ b. b || list_any (eq k) xs) no)
      by false e rest = ap (λ b. eq k x || b) rest

  dropped : (q k : K) (xs : List K) (b : Bool) → eq q k ≡ true → filter (λ x. not (eq q x)) (cond b xs (xs ++ k ∷ [])) ≡ filter (λ x. not (eq q x)) xs
  dropped q k xs true h = refl
  dropped q k xs false h = filter-append (λ x. not (eq q x)) xs (k ∷ []) ∙ ap (λ b. filter (λ x. not (eq q x)) xs ++ cond (not b) (k ∷ []) []) h ∙ append-nil (filter (λ x. not (eq q x)) xs)

  kept : (q k : K) (xs : List K) (b : Bool) → eq q k ≡ false
      → (q ∷ filter (λ x. not (eq q x)) (cond b xs (xs ++ k ∷ []))) ≡ cond b (q ∷ filter (λ x. not (eq q x)) xs) ((q ∷ filter (λ x. not (eq q x)) xs) ++ k ∷ [])
  kept q k xs true h = refl
  kept q k xs false h = ap (λ ys. q ∷ ys) (filter-append (λ x. not (eq q x)) xs (k ∷ []) ∙ ap (λ b. filter (λ x. not (eq q x)) xs ++ cond (not b) (k ∷ []) []) h)

  -- one item more
  pub firsts_push : (ks : List K) (k : K) → firsts eq (ks ++ k ∷ []) ≡ insert_key eq (firsts eq ks) k
  firsts_push [] k = refl
  firsts_push (q ∷ qs) k = ap (λ xs. q ∷ filter (λ x. not (eq q x)) xs) (firsts_push qs k) ∙ by (eq k q) refl
    where
      by : (b : Bool) → eq k q ≡ b
          → (q ∷ filter (λ x. not (eq q x)) (cond (list_any (eq k) (firsts eq qs)) (firsts eq qs) (firsts eq qs ++ k ∷ [])))
          ≡ cond (b || list_any (eq k) (filter (λ x. not (eq q x)) (firsts eq qs))) (q ∷ filter (λ x. not (eq q x)) (firsts eq qs)) ((q ∷ filter (λ x. not (eq q x)) (firsts eq qs)) ++ k ∷ [])
      by true e = ap (λ xs. q ∷ xs) (dropped q k (firsts eq qs) (list_any (eq k) (firsts eq qs)) (laws.symm q k ∙ e))
      by false e =
          kept q k (firsts eq qs) (list_any (eq k) (firsts eq qs)) (laws.symm q k ∙ e)
          ∙ ap (λ b. cond b (q ∷ filter (λ x. not (eq q x)) (firsts eq qs)) ((q ∷ filter (λ x. not (eq q x)) (firsts eq qs)) ++ k ∷ [])) (sym (any_filter q k (firsts eq qs) e))

-- keys that are taken up one by one, each where it is new
inserted_is : (ks qs : List (List ℕ)) → insert_all bytes_eq (firsts bytes_eq ks) qs ≡ firsts bytes_eq (ks ++ qs)
inserted_is ks [] = ap (firsts bytes_eq) (sym (append-nil ks))
inserted_is ks (q ∷ qs) = ap (λ us. insert_all bytes_eq us qs) (sym (firsts_push bytes_eq nat_list_eq_equiv ks q)) ∙ inserted_is (ks ++ q ∷ []) qs ∙ ap (firsts bytes_eq) (append_assoc ks (q ∷ []) qs)

pub touched_is : {E : Type 0} (ts : List (List ℕ × Change E)) → touched bytes_eq [] ts ≡ touched_first ts
touched_is ts = inserted_is [] (map (λ t. t.0) ts)

Some_injective : {X : Type 0} (x y : X) → Some x ≡ Some y → x ≡ y
Some_injective x y h = cc

pub AreReads-push : {A : Type 0} (same : A → A → Bool) (accounts : BTreeMap (List ℕ) A) (keys : List (List ℕ)) (reads : List (Option A)) (key : List ℕ) (read : Option A)
    → AreReads same accounts keys reads → slice_get keys (length reads) ≡ Some key → SameOutcome same read (held accounts key) → AreReads same accounts keys (reads ++ read ∷ [])
AreReads-push same accounts keys reads key read h at s i k r p q =
    elim (slice_get_push_cases reads read r i q) [
      | inl old ↦ h i k r p old
      | inr new ↦ subst (λ x. SameOutcome same x (held accounts k)) new.1 (subst (λ x. SameOutcome same read (held accounts x)) (Some_injective key k (sym at ∙ ap (slice_get keys) (sym new.0) ∙ p)) s)
    ]

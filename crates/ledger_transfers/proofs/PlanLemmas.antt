-- That a table which takes the touches one by one is the plan of them all.
use Rattle.std.proofs.Common.{◌≡◌, ℕ, ◌+◌, ◌<◌, ◌≤◌, Bool, true, false, cond, ◌||◌, List, [], ◌∷◌, ◌++◌, length, get_or, take, drop, None, Some, unwrap_or, refl, sym, ap, subst, ◌∙◌, arith}
use Rattle.std.specs.Cmp.{IsEquivalence}
use Rattle.std.specs.List.{list_any, IsDistinct}
use Rattle.std.specs.Map.{lookup, keys_of}
use Rattle.std.proofs.lemmas.List.{append_assoc, take_more, take-append-drop}
use Rattle.ledger_transfers.specs.declared.change.Change.{Change}
use Rattle.ledger_transfers.specs.declared.fault.PlanFault.{PlanFault}
use Rattle.ledger_transfers.specs.declared.fault.PlanFault.TheVariants.{Rejected, OutOfMemory}
use Rattle.ledger_transfers.specs.declared.fault.Rejection.TheVariants.{Refused, Insufficient, Overflow}
use Rattle.ledger_transfers.specs.declared.totals.Totals.{Totals}
use Rattle.ledger_transfers.specs.Touches.{touches, with_change, no_total, total_of, found_total, deb, cred, max_amount, FitsWith, IsPlanOf, IsWithinSums}
use Rattle.ledger_transfers.specs.Adds.{AddFails, GatherFails}
use Rattle.ledger_transfers.proofs.TouchesLemmas.{touches_append}
use Rattle.ledger_transfers.proofs.TotalLemmas.{total_by, total_by-yes, total_by-no, total_by-none, any_push, sum_part}

or_yes : (a b : Bool) → b ≡ true → (a || (b || false)) ≡ true
or_yes true b h = refl
or_yes false true h = refl
or_yes false false h = h

or_no : (a b : Bool) → b ≡ false → (a || (b || false)) ≡ a
or_no true b h = refl
or_no false true h = h
or_no false false h = refl

-- one touch more behind those before
pub next_touches : {X : Type 0} (before all : List X) (i : ℕ) (t : X) → i < length all → t ≡ get_or all i t → (before ++ take i all) ++ t ∷ [] ≡ before ++ take (i + 1) all
next_touches before all i t l at =
    append_assoc before (take i all) (t ∷ []) ∙ ap (λ us. before ++ us) (sym (take_more all i t l ∙ ap (λ x. take i all ++ x ∷ []) (sym at)))

-- the touches of one transfer more, and of all
module _ {T K E : Type 0} (changes_of : T → List (K × Change E)) (ts : List T) (i : ℕ) (t : T) (here : List (K × Change E)) (l : i < length ts) (at : t ≡ get_or ts i t)
    (is : here ≡ touches changes_of (t ∷ [])) where
  pub batch_step : touches changes_of (take i ts) ++ here ≡ touches changes_of (take (i + 1) ts)
  batch_step =
      ap (λ us. touches changes_of (take i ts) ++ us) is ∙ sym (touches_append changes_of (take i ts) (t ∷ []))
      ∙ ap (touches changes_of) (sym (take_more ts i t l ∙ ap (λ x. take i ts ++ x ∷ []) (sym at)))

  pub batch_whole : (touches changes_of (take i ts) ++ here) ++ touches changes_of (drop (i + 1) ts) ≡ touches changes_of ts
  batch_whole =
      ap (λ us. us ++ touches changes_of (drop (i + 1) ts)) batch_step ∙ sym (touches_append changes_of (take (i + 1) ts) (drop (i + 1) ts))
      ∙ ap (touches changes_of) (take-append-drop (i + 1) ts)

module _ {K E : Type 0} (eq : K → K → Bool) (laws : IsEquivalence eq) where
  -- equal keys have one total
  pub total_at_equal : (ts : List (K × Change E)) (k q : K) → eq k q ≡ true → total_of eq ts k ≡ total_of eq ts q
  total_at_equal ts k q h = ap (λ (p : K × Change E → Bool). total_by p ts) (λ i t. laws.congr k q t.0 h i)

  pub found_is : (ts : List (K × Change E)) (k : K) → unwrap_or (found_total eq ts k) no_total ≡ total_of eq ts k
  found_is ts k = by (list_any (λ t. eq k t.0) ts) refl
    where
      by : (b : Bool) → list_any (λ t. eq k t.0) ts ≡ b → unwrap_or (cond b (Some (total_of eq ts k)) None) no_total ≡ total_of eq ts k
      by true e = refl
      by false e = sym (total_by-none (λ t. eq k t.0) ts e)

  -- what a batch with one change more does to a key
  pub found_push : (ts : List (K × Change E)) (t : K × Change E) (q : K) → found_total eq (ts ++ t ∷ []) q ≡ cond (eq t.0 q) (Some (with_change (unwrap_or (found_total eq ts t.0) no_total) t.1)) (found_total eq ts q)
  found_push ts t q = by (eq t.0 q) refl
    where
      p : K × Change E → Bool
      p s = eq q s.0

      more : List (K × Change E)
      more = ts ++ t ∷ []

      by : (b : Bool) → eq t.0 q ≡ b → found_total eq (ts ++ t ∷ []) q ≡ cond b (Some (with_change (unwrap_or (found_total eq ts t.0) no_total) t.1)) (found_total eq ts q)
      by true e =
          ap (λ a. cond a (Some (total_of eq (ts ++ t ∷ []) q)) None) (any_push (λ s. eq q s.0) ts t ∙ or_yes (list_any (λ s. eq q s.0) ts) (eq q t.0) (laws.symm q t.0 ∙ e))
          ∙ ap Some (total_by-yes (λ s. eq q s.0) ts t (laws.symm q t.0 ∙ e) ∙ ap (λ u. with_change u t.1) (sym (total_at_equal ts t.0 q e) ∙ sym (found_is ts t.0)))
      by false e =
          ap (λ a. cond a (Some (total_of eq (ts ++ t ∷ []) q)) None) (any_push (λ s. eq q s.0) ts t ∙ or_no (list_any (λ s. eq q s.0) ts) (eq q t.0) (laws.symm q t.0 ∙ e))
          ∙ ap (λ u. cond (list_any (λ s. eq q s.0) ts) (Some u) None) (total_by-no (λ s. eq q s.0) ts t (laws.symm q t.0 ∙ e))

  -- a table that takes one touch more
  pub IsPlanOf-push : (ts : List (K × Change E)) (t : K × Change E) (es fs : List (K × Totals E)) → IsPlanOf eq ts es → IsDistinct eq (keys_of fs)
      → ((q : K) → lookup (eq q) fs ≡ cond (eq t.0 q) (Some (with_change (unwrap_or (lookup (eq t.0) es) no_total) t.1)) (lookup (eq q) es)) → IsPlanOf eq (ts ++ t ∷ []) fs
  IsPlanOf-push ts t es fs h d u = record {
    distinct = d;
    each = λ q. u q ∙ (λ i. cond (eq t.0 q) (Some (with_change (unwrap_or (h.each t.0 i) no_total) t.1)) (h.each q i)) ∙ sym (found_push ts t q);
  }

  pub IsWithinSums-push : (ts : List (K × Change E)) (t : K × Change E) (es : List (K × Totals E)) → IsPlanOf eq ts es → FitsWith (unwrap_or (lookup (eq t.0) es) no_total) t.1 → IsWithinSums eq ts → IsWithinSums eq (ts ++ t ∷ [])
  IsWithinSums-push ts t es h f w k = by (eq k t.0) refl
    where
      before : unwrap_or (lookup (eq t.0) es) no_total ≡ total_of eq ts t.0
      before = ap (λ o. unwrap_or o no_total) (h.each t.0) ∙ found_is ts t.0

      by : (b : Bool) → eq k t.0 ≡ b → (deb eq (ts ++ t ∷ []) k ≤ max_amount) × (cred eq (ts ++ t ∷ []) k ≤ max_amount)
      by true e =
          let same = total_by-yes (λ s. eq k s.0) ts t e ∙ ap (λ u. with_change u t.1) (total_at_equal ts k t.0 e ∙ sym before) in
          subst (λ (u : Totals E). (u.debits ≤ max_amount) × (u.credits ≤ max_amount)) (sym same) f
      by false e = subst (λ (u : Totals E). (u.debits ≤ max_amount) × (u.credits ≤ max_amount)) (sym (total_by-no (λ s. eq k s.0) ts t e)) (w k)

  -- a sum that is too great so far is too great in the whole batch
  pub gather_fails : (before : List (K × Change E)) (t : K × Change E) (more : List (K × Change E)) (es : List (K × Totals E)) (fault : PlanFault K)
      → IsPlanOf eq before es → AddFails (unwrap_or (lookup (eq t.0) es) no_total) t.0 t.1 fault → GatherFails eq ((before ++ t ∷ []) ++ more) fault
  gather_fails before t more es fault h f = by fault f
    where
      was : unwrap_or (lookup (eq t.0) es) no_total ≡ total_of eq before t.0
      was = ap (λ o. unwrap_or o no_total) (h.each t.0) ∙ found_is before t.0

      is : total_of eq (before ++ t ∷ []) t.0 ≡ with_change (unwrap_or (lookup (eq t.0) es) no_total) t.1
      is = total_by-yes (λ s. eq t.0 s.0) before t (laws.refl t.0) ∙ ap (λ u. with_change u t.1) (sym was)

      by : (fault : PlanFault K) → AddFails (unwrap_or (lookup (eq t.0) es) no_total) t.0 t.1 fault → GatherFails eq ((before ++ t ∷ []) ++ more) fault
      by (Rejected (Refused k)) f = f
      by (Rejected (Insufficient k)) f =
          subst (λ q. max_amount < deb eq ((before ++ t ∷ []) ++ more) q) (sym f.0) (omega (arith, f.1, ap (λ (u : Totals E). u.debits) is, sum_part (λ s. eq t.0 s.0) (λ s. s.1.debit) (before ++ t ∷ []) more))
      by (Rejected (Overflow k)) f =
          subst (λ q. max_amount < cred eq ((before ++ t ∷ []) ++ more) q) (sym f.0) (omega (arith, f.1, ap (λ (u : Totals E). u.credits) is, sum_part (λ s. eq t.0 s.0) (λ s. s.1.credit) (before ++ t ∷ []) more))
      by OutOfMemory f = f

  -- the same at a place of the touches behind those before
  pub gather_fails_at : (before all more : List (K × Change E)) (i : ℕ) (t : K × Change E) (es : List (K × Totals E)) (fault : PlanFault K) → i < length all → t ≡ get_or all i t
      → IsPlanOf eq (before ++ take i all) es → AddFails (unwrap_or (lookup (eq t.0) es) no_total) t.0 t.1 fault → GatherFails eq ((before ++ all) ++ more) fault
  gather_fails_at before all more i t es fault l at h f = subst (λ us. GatherFails eq us fault) whole (gather_fails (before ++ take i all) t (drop (i + 1) all ++ more) es fault h f)
    where
      next : take i all ++ t ∷ [] ≡ take (i + 1) all
      next = sym (take_more all i t l ∙ ap (λ x. take i all ++ x ∷ []) (sym at))

      whole : ((before ++ take i all) ++ t ∷ []) ++ (drop (i + 1) all ++ more) ≡ (before ++ all) ++ more
      whole =
          sym (append_assoc ((before ++ take i all) ++ t ∷ []) (drop (i + 1) all) more)
          ∙ ap (λ us. us ++ more) (ap (λ us. us ++ drop (i + 1) all) (append_assoc before (take i all) (t ∷ []) ∙ ap (λ us. before ++ us) next)
          ∙ append_assoc before (take (i + 1) all) (drop (i + 1) all) ∙ ap (λ us. before ++ us) (take-append-drop (i + 1) all))

-- A key that is settled on a copy of its account settles.
use Rattle.std.proofs.Common.{◌≡◌, ℕ, ◌+◌, ◌-◌, ◌≤◌, Bool, true, false, cond, List, slice_get, unwrap_or, Option, None, Some, refl, sym, ap, subst, ◌∙◌, true≢false}
use Rattle.std.specs.Prelude.{IsSome, MatchOption}
use Rattle.std.specs.Option.{option_map}
use Rattle.std.specs.Cmp.{IsEquivalence}
use Rattle.ledger_transfers.specs.Rules.{Rules, AccountLaws, SameOutcome}
use Rattle.ledger_transfers.specs.Touches.{max_amount}
use Rattle.ledger_transfers.specs.Settling.{folded, final_balance, Settles, SettlesTo, SameSlot, slot_of, opened, KeyFails, PlanFails}
use Rattle.ledger_transfers.specs.declared.fault.PlanFault.{PlanFault}
use Rattle.ledger_transfers.specs.declared.fault.PlanFault.TheVariants.{Rejected, OutOfMemory}
use Rattle.ledger_transfers.specs.declared.slot.Slot.{Slot}
use Rattle.ledger_transfers.specs.declared.slot.Slot.TheVariants.{Keep, Delete, Put}
use Rattle.ledger_transfers.specs.declared.totals.Totals.{Totals}
use Rattle.ledger_transfers.proofs.AccountLemmas.{outcome_trans, same_trans, folded_alike}

Some_injective : {X : Type 0} (x y : X) → Some x ≡ Some y → x ≡ y
Some_injective x y h = ap (λ o. unwrap_or o x) h

module _ {A E : Type 0} (same : A → A → Bool) (equiv : IsEquivalence same) (rules : Rules A E) (laws : AccountLaws same rules) where
  pub outcome_some : (r : Option A) (a : A) → SameOutcome same (Some a) r → (e : A) × (r ≡ Some e) × (same a e ≡ true)
  outcome_some None a h = absurd h
  outcome_some (Some e) a h = (e, refl, h)

  pub outcome_none : (r : Option A) → SameOutcome same None r → r ≡ None
  outcome_none None h = refl
  outcome_none (Some e) h = absurd h

  -- effects on a copy come to what they come to on the account
  pub folded_copy : (o copy : A) (es : List E) (r : Option A) → same copy o ≡ true → SameOutcome same r (folded rules copy es) → SameOutcome same r (folded rules o es)
  folded_copy o copy es r h k = outcome_trans same equiv rules laws r (folded rules copy es) (folded rules o es) k (folded_alike same equiv rules laws es copy o h)

  slot_put : (s : Slot A) (e f : A) → same e f ≡ true → SameSlot same s (Put e) → SameSlot same s (Put f)
  slot_put Keep e f h k = k
  slot_put Delete e f h k = k
  slot_put (Put a) e f h k = same_trans same equiv rules laws a e f k h

  same_both : (a b c d : A) → same a b ≡ true → same c d ≡ true → same a c ≡ same b d
  same_both a b c d h k = equiv.congr a b c h ∙ equiv.symm b c ∙ equiv.congr c d b k ∙ equiv.symm d b

  -- the slot of accounts that are the same
  pub slot_alike : (a b e f : A) (s : Slot A) → same a b ≡ true → same e f ≡ true → SameSlot same s (slot_of same rules a e) → SameSlot same s (slot_of same rules b f)
  slot_alike a b e f s h k t =
      let first = same_both e f a b k h in
      let second = equiv.congr e f rules.initial k in
      by (same e a) (same e rules.initial) (subst (λ x. SameSlot same s (cond x Keep (cond (same e rules.initial) Delete (Put e)))) refl t) first second
    where
      by : (x y : Bool) → SameSlot same s (cond x Keep (cond y Delete (Put e))) → x ≡ same f b → y ≡ same f rules.initial → SameSlot same s (slot_of same rules b f)
      by true y t p q = subst (λ z. SameSlot same s (cond z Keep (cond (same f rules.initial) Delete (Put f)))) p t
      by false true t p q = subst (λ z. SameSlot same s (cond z Keep (cond (same f rules.initial) Delete (Put f)))) p (subst (λ z. SameSlot same s (cond z Delete (Put f))) q t)
      by false false t p q = subst (λ z. SameSlot same s (cond z Keep (cond (same f rules.initial) Delete (Put f)))) p (subst (λ z. SameSlot same s (cond z Delete (Put f))) q (slot_put s e f k t))

  -- a copy that takes the effects and the final balance gives the key's slot
  pub settles_to : (o copy done final : A) (total : Totals E) (balance : ℕ) (slot : Slot A) → same copy o ≡ true → SameOutcome same (Some done) (folded rules copy total.effects)
      → total.debits ≤ rules.balance_of o → balance ≡ final_balance rules o total → balance ≤ max_amount
      → same final (rules.with_balance done balance) ≡ true → SameSlot same slot (slot_of same rules o final) → SettlesTo same rules o total slot
  settles_to o copy done final total balance slot s f funded is fits set t =
      let found = outcome_some (folded rules o total.effects) done (folded_copy o copy total.effects (Some done) s f) in
      let ends : same final (rules.with_balance found.0 (final_balance rules o total)) ≡ true =
      same_trans same equiv rules laws final (rules.with_balance done balance) (rules.with_balance found.0 (final_balance rules o total)) set
      (subst (λ n. same (rules.with_balance done balance) (rules.with_balance found.0 n) ≡ true) is (laws.one_with_balance done found.0 balance found.2)) in
      record {
        settles = record {
          accepted = subst IsSome (sym found.1) refl;
          funded = funded;
          fits = subst (λ n. n ≤ max_amount) is fits;
        };
        slot_is = subst (λ r. MatchOption (option_map (λ b. rules.with_balance b (final_balance rules o total)) r) ⊥ (λ e. SameSlot same slot (slot_of same rules o e))) (sym found.1)
            (slot_alike o o final (rules.with_balance found.0 (final_balance rules o total)) slot (equiv.refl o) ends t);
      }

  accepted_alike : (r t : Option A) → SameOutcome same r t → IsSome r → IsSome t
  accepted_alike None t o h = absurd (true≢false (sym h))
  accepted_alike (Some x) None o h = absurd o
  accepted_alike (Some x) (Some y) o h = refl

  -- a key settles on an account that is the same
  pub settles_same : (a b : A) (total : Totals E) → same a b ≡ true → Settles rules a total → Settles rules b total
  settles_same a b total h s =
      let one = laws.one_balance a b h in
      record {
        accepted = accepted_alike (folded rules a total.effects) (folded rules b total.effects) (folded_alike same equiv rules laws total.effects a b h) s.accepted;
        funded = subst (λ n. total.debits ≤ n) one s.funded;
        fits = subst (λ n. n ≤ max_amount) (ap (λ n. (n - total.debits) + total.credits) one) s.fits;
      }

  -- with the same slot
  pub settles_alike : (a b : A) (total : Totals E) (slot : Slot A) → same a b ≡ true → SettlesTo same rules a total slot → SettlesTo same rules b total slot
  settles_alike a b total slot k h =
      by (folded rules a total.effects) (folded rules b total.effects) refl refl (folded_alike same equiv rules laws total.effects a b k) h.settles.accepted h.slot_is
    where
      by : (r s : Option A) → folded rules a total.effects ≡ r → folded rules b total.effects ≡ s → SameOutcome same r s → IsSome r
          → MatchOption (option_map (λ x. rules.with_balance x (final_balance rules a total)) r) ⊥ (λ e. SameSlot same slot (slot_of same rules a e)) → SettlesTo same rules b total slot
      by None s e f o i t = absurd t
      by (Some x) None e f o i t = absurd o
      by (Some x) (Some y) e f o i t =
          let one = laws.one_balance a b k in
          let last : final_balance rules a total ≡ final_balance rules b total = ap (λ n. (n - total.debits) + total.credits) one in
          let ends : same (rules.with_balance x (final_balance rules a total)) (rules.with_balance y (final_balance rules b total)) ≡ true =
          subst (λ n. same (rules.with_balance x (final_balance rules a total)) (rules.with_balance y n) ≡ true) last (laws.one_with_balance x y (final_balance rules a total) o) in
          record {
            settles = settles_same a b total k h.settles;
            slot_is = subst (λ r. MatchOption (option_map (λ x. rules.with_balance x (final_balance rules b total)) r) ⊥ (λ e. SameSlot same slot (slot_of same rules b e))) (sym f)
                (slot_alike a b (rules.with_balance x (final_balance rules a total)) (rules.with_balance y (final_balance rules b total)) slot k ends t);
          }

module _ {A E K : Type 0} (rules : Rules A E) where
  -- the fault of a key is a fault of the plan
  pub plan_fails : (plan : List (K × Totals E)) (reads : List (Option A)) (i : ℕ) (entry : K × Totals E) (read : Option A) (fault : PlanFault K) → slice_get plan i ≡ Some entry → slice_get reads i ≡ Some read
      → KeyFails rules (opened rules read) entry.1 entry.0 fault → PlanFails rules plan reads fault
  plan_fails plan reads i entry read (Rejected r) p q h = (i, entry, read, p, q, h)
  plan_fails plan reads i entry read OutOfMemory p q h = h

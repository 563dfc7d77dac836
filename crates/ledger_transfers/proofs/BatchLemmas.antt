-- A batch against the reads of its plan.
use Rattle.std.proofs.Common.{◌≡◌, ℕ, ◌<◌, Bool, true, false, cond, List, [], ◌∷◌, length, slice_get, unwrap_or, Option, None, Some, refl, sym, ap, subst, ◌∙◌, arith, true≢false, suc, zero}
use Rattle.std.specs.Prelude.{is_some, MatchOption, option_and_then}
use Rattle.std.specs.List.{list_any, IsDistinct, zip}
use Rattle.std.specs.Cmp.{IsEquivalence}
use Rattle.std.specs.Map.{lookup, keys_of}
use Rattle.std.proofs.lemmas.Map.Entries.{lookup_from_place}
use Rattle.ledger_transfers.specs.declared.change.Change.{Change}
use Rattle.ledger_transfers.specs.declared.slot.Slot.{Slot}
use Rattle.ledger_transfers.specs.declared.slot.Slot.TheVariants.{Keep, Delete, Put}
use Rattle.ledger_transfers.specs.declared.fault.Rejection.{Rejection}
use Rattle.ledger_transfers.specs.declared.fault.Rejection.TheVariants.{Refused, Insufficient, Overflow}
use Rattle.ledger_transfers.specs.declared.fault.PlanFault.{PlanFault}
use Rattle.ledger_transfers.specs.declared.fault.PlanFault.TheVariants.{Rejected, OutOfMemory}
use Rattle.ledger_transfers.specs.declared.totals.Totals.{Totals}
use Rattle.ledger_transfers.specs.Rules.{Rules, AccountLaws}
use Rattle.ledger_transfers.specs.declared.held.Held.{Held}
use Rattle.ledger_transfers.specs.Selecting.{StandsFor, opened_at}
use Rattle.ledger_transfers.proofs.SettleLemmas.{settles_same, settles_alike}
use Rattle.ledger_transfers.specs.Touches.{total_of, IsPlanOf}
use Rattle.ledger_transfers.specs.Settling.{Settles, SettlesTo, Settled, opened, after, SameSlot, slot_of, IsFirstOffence, AreSlots, PlanFails}
use Rattle.ledger_transfers.specs.Registering.{AreSettled}
use Rattle.ledger_transfers.specs.Batches.{opened_by, BatchFails, BatchSettles, AgreesWithPlans}
use Rattle.ledger_transfers.proofs.PlanLemmas.{total_at_equal}
use Rattle.ledger_transfers.proofs.SelectLemmas.{Some_injective, lookup_equal}
use Rattle.ledger_transfers.proofs.DecideLemmas.{found_at}
use Rattle.ledger_transfers.proofs.TakenLemmas.{all_touched}
use Rattle.ledger_transfers.proofs.RegisterLemmas.{key_at}
use Rattle.ledger_transfers.proofs.WholeLemmas.{there_is}

module _ {X : Type 0} where
  is_within : (xs : List X) (i : ℕ) (x : X) → slice_get xs i ≡ Some x → i < length xs
  is_within [] i x h = absurd (true≢false (sym (ap is_some h)))
  is_within (y ∷ xs) zero x h = omega arith
  is_within (y ∷ xs) (suc i) x h = let l = is_within xs i x h in omega (arith, l)

module _ {K X : Type 0} where
  pub length_keys : (es : List (K × X)) → length (keys_of es) ≡ length es
  length_keys [] = refl
  length_keys (e ∷ es) = ap suc (length_keys es)

  zip_keys : (ks : List K) (xs : List X) → length xs ≡ length ks → keys_of (zip ks xs) ≡ ks
  zip_keys [] xs l = refl
  zip_keys (k ∷ ks) [] l = absurd (omega (arith, l))
  zip_keys (k ∷ ks) (x ∷ xs) l = ap (λ us. k ∷ us) (zip_keys ks xs (omega (arith, l)))

  zip_at : (ks : List K) (xs : List X) (i : ℕ) (k : K) (x : X) → slice_get ks i ≡ Some k → slice_get xs i ≡ Some x → slice_get (zip ks xs) i ≡ Some (k, x)
  zip_at [] xs i k x h r = absurd (true≢false (sym (ap is_some h)))
  zip_at (q ∷ ks) [] i k x h r = absurd (true≢false (sym (ap is_some r)))
  zip_at (q ∷ ks) (y ∷ xs) zero k x h r = λ j. Some (Some_injective q k h j, Some_injective y x r j)
  zip_at (q ∷ ks) (y ∷ xs) (suc i) k x h r = zip_at ks xs i k x h r

  -- the entry at the place of a key
  entry_at : (es : List (K × X)) (j : ℕ) (q : K) → slice_get (keys_of es) j ≡ Some q → (e : K × X) × (slice_get es j ≡ Some e) × (e.0 ≡ q)
  entry_at [] j q h = absurd (true≢false (sym (ap is_some h)))
  entry_at (f ∷ es) zero q h = (f, refl, Some_injective f.0 q h)
  entry_at (f ∷ es) (suc j) q h = entry_at es j q h

  -- a key that is found stands at some place
  place_of : (p : K → Bool) (es : List (K × X)) (v : X) → lookup p es ≡ Some v → (i : ℕ) × (e : K × X) × (slice_get es i ≡ Some e) × (p e.0 ≡ true) × (e.1 ≡ v)
  place_of p [] v h = absurd (true≢false (sym (ap is_some h)))
  place_of p (f ∷ es) v h = by (p f.0) refl h (place_of p es v)
    where
      by : (b : Bool) → p f.0 ≡ b → cond b (Some f.1) (lookup p es) ≡ Some v → (lookup p es ≡ Some v → (i : ℕ) × (e : K × X) × (slice_get es i ≡ Some e) × (p e.0 ≡ true) × (e.1 ≡ v))
          → (i : ℕ) × (e : K × X) × (slice_get (f ∷ es) i ≡ Some e) × (p e.0 ≡ true) × (e.1 ≡ v)
      by true e h rest = (zero, f, refl, e, Some_injective f.1 v h)
      by false e h rest = let r = rest h in (suc r.0, r.1, r.2, r.3, r.4)

some_of : {X : Type 0} (b : Bool) (u v : X) → cond b (Some u) None ≡ Some v → (b ≡ true) × (u ≡ v)
some_of true u v h = (refl, Some_injective u v h)
some_of false u v h = absurd (true≢false (sym (ap is_some h)))

-- a key that settles has no first offence
pub no_offence : {A E K : Type 0} (rules : Rules A E) (a : A) (total : Totals E) (k : K) (r : Rejection K) → Settles rules a total → IsFirstOffence rules a total k r → ⊥
no_offence rules a total k (Refused q) s o = true≢false (sym s.accepted ∙ o.1)
no_offence rules a total k (Insufficient q) s o = omega (arith, s.funded, o.2)
no_offence rules a total k (Overflow q) s o = omega (arith, s.fits, o.3)

module _ {A E K : Type 0} (eq : K → K → Bool) (laws : IsEquivalence eq) (same : A → A → Bool) (rules : Rules A E) where
  -- a touched key of a settled batch settles
  pub settles_key : (at : K → A) → ((k q : K) → eq k q ≡ true → at k ≡ at q) → (ts : List (K × Change E)) (k : K) → Settled eq rules at ts → list_any (λ t. eq k t.0) ts ≡ true → Settles rules (at k) (total_of eq ts k)
  settles_key at congr ts k s touched =
      let f = found_at (λ t. eq k t.0) ts touched in
      let there = subst (λ (t : K × Change E). Settles rules (at t.0) (total_of eq ts t.0)) (f.3 f.1) (s f.0 f.1 f.2) in
      subst (λ a. Settles rules a (total_of eq ts k)) (sym (congr k f.1.0 f.4)) (subst (Settles rules (at f.1.0)) (sym (total_at_equal eq laws ts k f.1.0 f.4)) there)

  module _ (ts : List (K × Change E)) (plan : List (K × Totals E)) (reads : List (Option A)) (is : IsPlanOf eq ts plan) (l : length reads ≡ length plan) where
    abbrev at : K → A
    at k = opened_by eq rules (keys_of plan) reads k

    at_equal : (k q : K) → eq k q ≡ true → at k ≡ at q
    at_equal k q h = ap (λ (p : K → Bool). opened rules (unwrap_or (lookup p (zip (keys_of plan) reads)) None)) (λ i x. laws.congr k q x h i)

    -- the key at a place is touched, with its total and its read
    at_place : (i : ℕ) (e : K × Totals E) (read : Option A) → slice_get plan i ≡ Some e → slice_get reads i ≡ Some read → (list_any (λ t. eq e.0 t.0) ts ≡ true) × (e.1 ≡ total_of eq ts e.0) × (opened rules read ≡ at e.0)
    at_place i e read p r =
        let found = some_of (list_any (λ t. eq e.0 t.0) ts) (total_of eq ts e.0) e.1 (sym (is.each e.0) ∙ lookup_from_place laws plan i e.0 e.1 is.distinct p) in
        let even : keys_of (zip (keys_of plan) reads) ≡ keys_of plan = zip_keys (keys_of plan) reads (l ∙ sym (length_keys plan)) in
        let got = lookup_from_place laws (zip (keys_of plan) reads) i e.0 read (subst (IsDistinct eq) (sym even) is.distinct) (zip_at (keys_of plan) reads i e.0 read (key_at plan i e p) r) in
        (found.0, sym found.1, sym (ap (λ o. opened rules (unwrap_or o None)) got))

    key_settles : (slots : List (Slot A)) → AreSlots same rules plan reads slots → (k : K) → list_any (λ t. eq k t.0) ts ≡ true → Settles rules (at k) (total_of eq ts k)
    key_settles slots are k touched =
        let e = place_of (eq k) plan (total_of eq ts k) (is.each k ∙ ap (λ b. cond b (Some (total_of eq ts k)) None) touched) in
        let within = is_within plan e.0 e.1 e.2 in
        let read = there_is reads e.0 (omega (arith, within, l)) in
        let slot = there_is slots e.0 (omega (arith, within, are.all)) in
        let here = at_place e.0 e.1 read.0 e.2 read.1 in
        subst (Settles rules (at k)) e.4 (subst (λ a. Settles rules a e.1.1) (here.2 ∙ sym (at_equal k e.1.0 e.3)) (are.each e.0 e.1 read.0 slot.0 e.2 read.1 slot.1).settles)

    slot_settles : (slots : List (Slot A)) → AreSlots same rules plan reads slots → (i : ℕ) (k : K) (slot : Slot A) → slice_get (keys_of plan) i ≡ Some k → slice_get slots i ≡ Some slot → SettlesTo same rules (at k) (total_of eq ts k) slot
    slot_settles slots are i k slot p q =
        let within = is_within slots i slot q in
        let e = there_is plan i (omega (arith, within, are.all)) in
        let read = there_is reads i (omega (arith, within, are.all, l)) in
        let here = at_place i e.0 read.0 e.1 read.1 in
        let key : e.0.0 ≡ k = Some_injective e.0.0 k (sym (key_at plan i e.0 e.1) ∙ p) in
        subst (λ x. SettlesTo same rules (at x) (total_of eq ts x) slot) key
        (subst (λ t. SettlesTo same rules (at e.0.0) t slot) here.1 (subst (λ a. SettlesTo same rules a e.0.1 slot) here.2 (are.each i e.0 read.0 slot e.1 read.1 q)))

    pub batch_settles : (slots : List (Slot A)) → AreSlots same rules plan reads slots → BatchSettles eq rules same (keys_of plan) (opened_by eq rules (keys_of plan) reads) ts slots
    batch_settles slots are = record {
      settled = all_touched eq laws (λ k. Settles rules (opened_by eq rules (keys_of plan) reads k) (total_of eq ts k)) ts (key_settles slots are);
      slots_are = record { all = are.all ∙ sym (length_keys plan); each = slot_settles slots are };
    }

    pub batch_fails : (fault : PlanFault K) → PlanFails rules plan reads fault → BatchFails eq rules (opened_by eq rules (keys_of plan) reads) ts fault
    batch_fails (Rejected r) f =
        let here = at_place f.0 f.1 f.2 f.3 f.4 in
        let offence = subst (λ t. IsFirstOffence rules (at f.1.0) t f.1.0 r) here.1 (subst (λ a. IsFirstOffence rules a f.1.1 f.1.0 r) here.2 f.5) in
        ((f.1.0, here.0, offence), λ s. no_offence rules (at f.1.0) (total_of eq ts f.1.0) f.1.0 r (settles_key (opened_by eq rules (keys_of plan) reads) at_equal ts f.1.0 s here.0) offence)
    batch_fails OutOfMemory f = f

module _ {A E : Type 0} (same : A → A → Bool) (equiv : IsEquivalence same) (rules : Rules A E) where
  slots_meet : (s t u : Slot A) → SameSlot same s u → SameSlot same t u → SameSlot same s t
  slots_meet Keep Keep u h k = tt
  slots_meet Delete Delete u h k = tt
  slots_meet (Put a) (Put b) Keep h k = absurd h
  slots_meet (Put a) (Put b) Delete h k = absurd h
  slots_meet (Put a) (Put b) (Put c) h k = equiv.congr a c b h ∙ equiv.symm c b ∙ k
  slots_meet Keep Delete Keep h k = k
  slots_meet Keep Delete Delete h k = h
  slots_meet Keep Delete (Put c) h k = h
  slots_meet Keep (Put b) Keep h k = k
  slots_meet Keep (Put b) Delete h k = h
  slots_meet Keep (Put b) (Put c) h k = h
  slots_meet Delete Keep Keep h k = h
  slots_meet Delete Keep Delete h k = k
  slots_meet Delete Keep (Put c) h k = h
  slots_meet Delete (Put b) Keep h k = h
  slots_meet Delete (Put b) Delete h k = k
  slots_meet Delete (Put b) (Put c) h k = h
  slots_meet (Put a) Keep Keep h k = h
  slots_meet (Put a) Keep Delete h k = h
  slots_meet (Put a) Keep (Put c) h k = k
  slots_meet (Put a) Delete Keep h k = h
  slots_meet (Put a) Delete Delete h k = h
  slots_meet (Put a) Delete (Put c) h k = k

  -- one account and one total have one slot
  pub one_slot : (a : A) (total : Totals E) (s t : Slot A) → SettlesTo same rules a total s → SettlesTo same rules a total t → SameSlot same s t
  one_slot a total s t h k = by (after rules a total) h.slot_is k.slot_is
    where
      by : (o : Option A) → MatchOption o ⊥ (λ e. SameSlot same s (slot_of same rules a e)) → MatchOption o ⊥ (λ e. SameSlot same t (slot_of same rules a e)) → SameSlot same s t
      by None h k = absurd h
      by (Some e) h k = slots_meet s t (slot_of same rules a e) h k

module _ {A E K : Type 0} (eq : K → K → Bool) (laws : IsEquivalence eq) (same : A → A → Bool) (equiv : IsEquivalence same) (rules : Rules A E) (account : AccountLaws same rules) where
  -- each key of a plan is touched
  key_touched : (ts : List (K × Change E)) (plan : List (K × Totals E)) → IsPlanOf eq ts plan → (j : ℕ) (q : K) → slice_get (keys_of plan) j ≡ Some q → list_any (λ t. eq q t.0) ts ≡ true
  key_touched ts plan is j q r =
      let e = entry_at plan j q r in
      subst (λ x. list_any (λ t. eq x t.0) ts ≡ true) e.2
      (some_of (list_any (λ t. eq e.0.0 t.0) ts) (total_of eq ts e.0.0) e.0.1 (sym (is.each e.0.0) ∙ lookup_from_place laws plan j e.0.0 e.0.1 is.distinct e.1)).0

  -- a settled batch settles through each plan of it, with one slot per key
  pub agrees_with_plans : (keys : List K) (at : K → A) (ts : List (K × Change E)) (slots : List (Slot A)) → ((k q : K) → eq k q ≡ true → at k ≡ at q)
      → Settled eq rules at ts → AreSettled eq same rules keys at ts slots → AgreesWithPlans eq same rules keys at ts slots
  agrees_with_plans keys at ts slots congr settled a = record {
    settled = λ to alike. all_touched eq laws (λ k. Settles rules (to k) (total_of eq ts k)) ts (λ k touched.
        settles_same same equiv rules account (at k) (to k) (total_of eq ts k) (alike k touched) (settles_key eq laws same rules at congr ts k settled touched));
    slots_are = λ plan to theirs is alike b i j k q s t p ps r rt e.
        one_slot same equiv rules (to q) (total_of eq ts q) s t
        (settles_alike same equiv rules account (at q) (to q) (total_of eq ts q) s (alike q (key_touched ts plan is j q r))
        (subst (λ u. SettlesTo same rules (at q) u s) (total_at_equal eq laws ts k q e) (subst (λ x. SettlesTo same rules x (total_of eq ts k) s) (congr k q e) (a.each i k s p ps))))
        (b.each j q t r rt);
  }

  -- what a selection stands for settles through each plan of it
  pub selection_agrees : (keys : List K) (entries : List (K × Held A)) (ts : List (K × Change E)) (slots : List (Slot A)) → StandsFor eq same rules entries ts
      → AreSettled eq same rules keys (opened_at eq same rules entries) ts slots → AgreesWithPlans eq same rules keys (opened_at eq same rules entries) ts slots
  selection_agrees keys entries ts slots stands are = agrees_with_plans keys (opened_at eq same rules entries) ts slots
      (λ k q e. ap (λ o. opened rules (option_and_then (λ (h : Held A). h.read) o)) (lookup_equal eq laws entries k q e)) stands.settled are

-- The slots of a plan, seen from the keys.
use Rattle.std.proofs.Common.{◌≡◌, ℕ, zero, suc, ◌⊎◌, ◌+◌, ◌-◌, ◌<◌, ◌≤◌, Bool, true, false, cond, List, [], ◌∷◌, length, get_or, slice_get, Option, None, Some, refl, sym, ap, subst, ◌∙◌, bytes_eq, inl, inr, filter, map, not, arith, true≢false}
use Rattle.std.specs.Prelude.{IsSome, IsNone, MatchOption, is_some}
use Rattle.std.specs.Option.{option_map}
use Rattle.std.specs.List.{list_any, AllByRecursion}
use Rattle.std.specs.Map.{lookup, keys_of}
use Rattle.std.specs.Cmp.{IsEquivalence}
use Rattle.std.specs.Cmp.Lexicographic.{nat_list_eq_equiv, bytes_decides}
use Rattle.std.specs.BTreeMap.{BTreeMap}
use Rattle.std.proofs.lemmas.Map.Entries.{lookup_from_place}
use Rattle.std.proofs.lemmas.List.Elements.{All-from_recursion}
use Rattle.std.proofs.lemmas.Option.{slice_get-map, slice_get-get_or}
use Rattle.std.proofs.lemmas.List.{length-map}
use Rattle.ledger_transfers.specs.Rules.{Rules, AccountLaws, SameOutcome}
use Rattle.ledger_transfers.specs.Touches.{total_of, IsPlanOf, IsTouched, IsWithinSums, IsSumOffence, max_amount}
use Rattle.ledger_transfers.specs.Registering.{AreSettled}
use Rattle.ledger_transfers.specs.Settling.{folded, opened, after, final_balance, Settled, Settles, SettlesTo, SameSlot, slot_of, AreSlots, IsFirstOffence, PlanFails, HasFirstOffence}
use Rattle.ledger_transfers.specs.declared.change.Change.{Change}
use Rattle.ledger_transfers.specs.declared.slot.Slot.{Slot}
use Rattle.ledger_transfers.specs.declared.slot.Slot.TheVariants.{Keep, Delete, Put}
use Rattle.ledger_transfers.specs.declared.fault.Rejection.{Rejection}
use Rattle.ledger_transfers.specs.declared.fault.Rejection.TheVariants.{Refused, Insufficient, Overflow}
use Rattle.ledger_transfers.specs.declared.totals.Totals.{Totals}
use Rattle.ledger_transfers.proofs.AccountLemmas.{folded_alike, same_trans}
use Rattle.ledger_transfers.proofs.SettleLemmas.{slot_alike}
use Rattle.ledger_settling.specs.Blocks.{firsts, account_at, Meaning, IsSettled, grown}
use Rattle.ledger_transfers.specs.declared.fault.PlanFault.{PlanFault}
use Rattle.ledger_transfers.specs.declared.fault.PlanFault.TheVariants.{Rejected, OutOfMemory}
use Rattle.std.specs.Prelude.{OnOk, IfErr, Result, Ok, Err}
use Rattle.ledger_settling.specs.declared.fault.ReportFault.{ReportFault}
use Rattle.ledger_settling.specs.declared.fault.ReportFault.TheVariants.{BadLog, BadValue, Full, Rejected as FaultRejected, OutOfMemory as FaultOutOfMemory}
use Rattle.ledger_log.specs.View.{LogView}
use Rattle.ledger_log.specs.declared.any.AnyOp.{AnyOp}
use Rattle.ledger_managed.specs.Values.{Values}
use Rattle.ledger_settling.specs.Slots.{AreReads, opening_of, touched_first, SlotsFail, AppendFails, BodyFails}
use Rattle.ledger_settling.specs.Reports.{held, IsReplay}

slice_there : {X : Type 0} (xs : List X) (i : ℕ) → i < length xs → (x : X) × (slice_get xs i ≡ Some x)
slice_there [] i h = absurd (omega arith)
slice_there (x ∷ xs) i h = (get_or (x ∷ xs) i x, slice_get-get_or (x ∷ xs) i x h)

pub within_of : {X : Type 0} (xs : List X) (i : ℕ) (x : X) → slice_get xs i ≡ Some x → i < length xs
within_of [] i x h = absurd (true≢false (sym (ap is_some h)))
within_of (y ∷ xs) zero x h = omega arith
within_of (y ∷ xs) (suc i) x h = let w = within_of xs i x h in omega (arith, w)

Some_injective : {X : Type 0} (x y : X) → Some x ≡ Some y → x ≡ y
Some_injective x y h = cc

-- what each key of a place with a slot has, each key has
each_key : {K S : Type 0} (Q : K → Type 0) (ks : List K) (ss : List S) → length ss ≡ length ks → ((i : ℕ) (k : K) (s : S) → slice_get ks i ≡ Some k → slice_get ss i ≡ Some s → Q k) → AllByRecursion Q ks
each_key Q [] ss l h = tt
each_key Q (k ∷ ks) [] l h = absurd (omega (arith, l))
each_key Q (k ∷ ks) (s ∷ ss) l h = (h 0 k s refl refl, each_key Q ks ss (omega (arith, l)) (λ i q t a b. h (suc i) q t a b))

-- what holds of the first places of keys holds of all their places
unfilter : (Q : List ℕ → Type 0) (k : List ℕ) (xs : List (List ℕ)) → Q k → AllByRecursion Q (filter (λ q. not (bytes_eq k q)) xs) → AllByRecursion Q xs
unfilter Q k [] here h = tt
unfilter Q k (x ∷ xs) here h = by (bytes_eq k x) refl h (unfilter Q k xs here)
  where
    by : (b : Bool) → bytes_eq k x ≡ b → AllByRecursion Q (cond (not b) (x ∷ filter (λ q. not (bytes_eq k q)) xs) (filter (λ q. not (bytes_eq k q)) xs))
        → (AllByRecursion Q (filter (λ q. not (bytes_eq k q)) xs) → AllByRecursion Q xs) → AllByRecursion Q (x ∷ xs)
    by true e h rest = (subst Q ((bytes_decides k x).0 e) here, rest h)
    by false e h rest = (h.0, rest h.1)

unfirst : (Q : List ℕ → Type 0) (ks : List (List ℕ)) → AllByRecursion Q (firsts bytes_eq ks) → AllByRecursion Q ks
unfirst Q [] h = tt
unfirst Q (k ∷ ks) h = (h.0, unfirst Q ks (unfilter Q k (firsts bytes_eq ks) h.0 h.1))

of_touches : {E : Type 0} (Q : List ℕ → Type 0) (ts : List (List ℕ × Change E)) → AllByRecursion Q (map (λ t. t.0) ts) → AllByRecursion (λ (t : List ℕ × Change E). Q t.0) ts
of_touches Q [] h = tt
of_touches Q (t ∷ ts) h = (h.0, of_touches Q ts h.1)

module _ {A E : Type 0} (same : A → A → Bool) (equiv : IsEquivalence same) (rules : Rules A E) (laws : AccountLaws same rules) where
  -- accounts that are the same have the same slot
  pub settles_alike : (a b : A) (total : Totals E) (slot : Slot A) → same a b ≡ true → SettlesTo same rules a total slot → SettlesTo same rules b total slot
  settles_alike a b total slot k h =
      by (folded rules a total.effects) (folded rules b total.effects) refl refl (folded_alike same equiv rules laws total.effects a b k) h.settles.accepted h.slot_is
    where
      by : (r s : Option A) → folded rules a total.effects ≡ r → folded rules b total.effects ≡ s → SameOutcome same r s → IsSome r
          → MatchOption (option_map (λ x. rules.with_balance x (final_balance rules a total)) r) ⊥ (λ e. SameSlot same slot (slot_of same rules a e)) → SettlesTo same rules b total slot
      by None s e f o i t = absurd t
      by (Some x) None e f o i t = absurd o
      by (Some x) (Some y) e f o i t =
          let one = laws.one_balance a b k in
          let last : final_balance rules a total ≡ final_balance rules b total = ap (λ n. (n - total.debits) + total.credits) one in
          let ends : same (rules.with_balance x (final_balance rules a total)) (rules.with_balance y (final_balance rules b total)) ≡ true =
          subst (λ n. same (rules.with_balance x (final_balance rules a total)) (rules.with_balance y n) ≡ true) last (laws.one_with_balance x y (final_balance rules a total) o) in
          record {
            settles = record {
              accepted = subst IsSome (sym f) refl;
              funded = subst (λ n. total.debits ≤ n) one h.settles.funded;
              fits = subst (λ n. n ≤ max_amount) last h.settles.fits;
            };
            slot_is = subst (λ r. MatchOption (option_map (λ x. rules.with_balance x (final_balance rules b total)) r) ⊥ (λ e. SameSlot same slot (slot_of same rules b e))) (sym f)
                (slot_alike same equiv rules laws a b (rules.with_balance x (final_balance rules a total)) (rules.with_balance y (final_balance rules b total)) slot k ends t);
          }

  slot_trans : (t s u : Slot A) → SameSlot same t s → SameSlot same s u → SameSlot same t u
  slot_trans Keep Keep u h k = k
  slot_trans Keep Delete u h k = absurd h
  slot_trans Keep (Put b) u h k = absurd h
  slot_trans Delete Keep u h k = absurd h
  slot_trans Delete Delete u h k = k
  slot_trans Delete (Put b) u h k = absurd h
  slot_trans (Put a) Keep u h k = absurd h
  slot_trans (Put a) Delete u h k = absurd h
  slot_trans (Put a) (Put b) Keep h k = absurd k
  slot_trans (Put a) (Put b) Delete h k = absurd k
  slot_trans (Put a) (Put b) (Put c) h k = same_trans same equiv rules laws a b c h k

  -- a copy of a slot serves as well
  pub settles_copy : (a : A) (total : Totals E) (s t : Slot A) → SameSlot same t s → SettlesTo same rules a total s → SettlesTo same rules a total t
  settles_copy a total s t like h = record { settles = h.settles; slot_is = by (after rules a total) h.slot_is }
    where
      by : (o : Option A) → MatchOption o ⊥ (λ e. SameSlot same s (slot_of same rules a e)) → MatchOption o ⊥ (λ e. SameSlot same t (slot_of same rules a e))
      by None k = k
      by (Some e) k = slot_trans t s (slot_of same rules a e) like k

  none_alike : (r s : Option A) → SameOutcome same r s → IsNone r → IsNone s
  none_alike None None o h = h
  none_alike None (Some y) o h = absurd o
  none_alike (Some x) s o h = absurd cc

  some_alike : (r s : Option A) → SameOutcome same r s → IsSome r → IsSome s
  some_alike None s o h = absurd cc
  some_alike (Some x) None o h = absurd o
  some_alike (Some x) (Some y) o h = refl

  -- and the same first offence
  pub offence_alike : {K : Type 0} → (a b : A) (total : Totals E) (k : K) (r : Rejection K) → same a b ≡ true → IsFirstOffence rules a total k r → IsFirstOffence rules b total k r
  offence_alike a b total k (Refused q) s h = (h.0, none_alike _ _ (folded_alike same equiv rules laws total.effects a b s) h.1)
  offence_alike a b total k (Insufficient q) s h =
      (h.0, some_alike _ _ (folded_alike same equiv rules laws total.effects a b s) h.1, subst (λ n. n < total.debits) (laws.one_balance a b s) h.2)
  offence_alike a b total k (Overflow q) s h = (
    h.0,
    some_alike _ _ (folded_alike same equiv rules laws total.effects a b s) h.1,
    subst (λ n. total.debits ≤ n) (laws.one_balance a b s) h.2,
    subst (λ n. max_amount < (n - total.debits) + total.credits) (laws.one_balance a b s) h.3,
  )

  -- the accounts that two reads open with
  pub opened_alike : (r s : Option A) → SameOutcome same r s → same (opened rules r) (opened rules s) ≡ true
  opened_alike None None o = equiv.refl rules.initial
  opened_alike None (Some y) o = absurd o
  opened_alike (Some x) None o = absurd o
  opened_alike (Some x) (Some y) o = o

module _ {A E : Type 0} (same : A → A → Bool) (equiv : IsEquivalence same) (rules : Rules A E) (laws : AccountLaws same rules)
    (accounts : BTreeMap (List ℕ) A) (ts : List (List ℕ × Change E)) (plan : List (List ℕ × Totals E)) (is_plan : IsPlanOf bytes_eq ts plan) where
  found : (b : Bool) (total : Totals E) (sums : Totals E) → cond b (Some sums) None ≡ Some total → (b ≡ true) × (total ≡ sums)
  found true total sums h = (refl, cc)
  found false total sums h = absurd cc

  -- what stands at a place of the plan
  pub at_place : (i : ℕ) (entry : List ℕ × Totals E) → slice_get plan i ≡ Some entry → IsTouched bytes_eq ts entry.0 × (entry.1 ≡ total_of bytes_eq ts entry.0)
  at_place i entry p =
      let looked : lookup (bytes_eq entry.0) plan ≡ Some entry.1 = lookup_from_place nat_list_eq_equiv plan i entry.0 entry.1 is_plan.distinct p in
      found (list_any (λ t. bytes_eq entry.0 t.0) ts) entry.1 (total_of bytes_eq ts entry.0) (sym (is_plan.each entry.0) ∙ looked)

  key_at : (i : ℕ) (entry : List ℕ × Totals E) → slice_get plan i ≡ Some entry → slice_get (keys_of plan) i ≡ Some entry.0
  key_at i entry p = slice_get-map (λ (e : List ℕ × Totals E). e.0) plan i ∙ ap (option_map (λ (e : List ℕ × Totals E). e.0)) p

  -- a plan's fault is the batch's
  pub plan_offends : (reads : List (Option A)) (r : Rejection (List ℕ)) → AreReads same accounts (keys_of plan) reads
      → ((i : ℕ) × (entry : List ℕ × Totals E) × (read : Option A) × (slice_get plan i ≡ Some entry) × (slice_get reads i ≡ Some read) × IsFirstOffence rules (opened rules read) entry.1 entry.0 r)
      → HasFirstOffence bytes_eq rules (opening_of rules accounts) ts r
  plan_offends reads r a (i, entry, read, p, q, o) =
      let here = at_place i entry p in
      let alike = opened_alike same equiv rules laws read (held accounts entry.0) (a i entry.0 read (key_at i entry p) q) in (
        entry.0,
        here.0,
        subst (λ t. IsFirstOffence rules (opening_of rules accounts entry.0) t entry.0 r) here.1
            (offence_alike same equiv rules laws (opened rules read) (opening_of rules accounts entry.0) entry.1 entry.0 r alike o),
      )

  -- a plan's slots are the batch's
  pub slots_of_plan : (reads : List (Option A)) (slots : List (Slot A)) → length reads ≡ length plan → AreReads same accounts (keys_of plan) reads → AreSlots same rules plan reads slots
      → AreSettled bytes_eq same rules (keys_of plan) (opening_of rules accounts) ts slots
  slots_of_plan reads slots n a s = record { all = s.all ∙ sym (length-map plan (λ (e : List ℕ × Totals E). e.0)); each = placed }
    where
      placed : (i : ℕ) (key : List ℕ) (slot : Slot A) → slice_get (keys_of plan) i ≡ Some key → slice_get slots i ≡ Some slot → SettlesTo same rules (opening_of rules accounts key) (total_of bytes_eq ts key) slot
      placed i key slot p q =
          let within : i < length plan = omega (arith, within_of (keys_of plan) i key p, length-map plan (λ (e : List ℕ × Totals E). e.0)) in
          let entry = slice_there plan i within in
          let read = slice_there reads i (omega (arith, within, n)) in
          let here = at_place i entry.0 entry.1 in
          let key_is : entry.0.0 ≡ key = Some_injective entry.0.0 key (sym (key_at i entry.0 entry.1) ∙ p) in
          let alike = opened_alike same equiv rules laws read.0 (held accounts entry.0.0) (a i entry.0.0 read.0 (key_at i entry.0 entry.1) read.1) in
          subst (λ k. SettlesTo same rules (opening_of rules accounts k) (total_of bytes_eq ts k) slot) key_is
          (subst (λ t. SettlesTo same rules (opening_of rules accounts entry.0.0) t slot) here.1
          (settles_alike same equiv rules laws (opened rules read.0) (opening_of rules accounts entry.0.0) entry.0.1 slot alike (s.each i entry.0 read.0 slot entry.1 read.1 q)))

  -- a plan's fault, with want of memory
  pub slots_fail : (reads : List (Option A)) (fault : PlanFault (List ℕ)) → IsWithinSums bytes_eq ts → AreReads same accounts (keys_of plan) reads → PlanFails rules plan reads fault
      → SlotsFail rules (opening_of rules accounts) ts fault
  slots_fail reads (Rejected r) w a f = inr (w, plan_offends reads r a f)
  slots_fail reads OutOfMemory w a f = tt

module _ {A E : Type 0} (same : A → A → Bool) (equiv : IsEquivalence same) (rules : Rules A E) (laws : AccountLaws same rules) (values : Values A)
    (accounts : BTreeMap (List ℕ) A) (ops : List AnyOp) (replay : IsReplay same values accounts ops) (ts : List (List ℕ × Change E)) where
  -- the accounts of the map are those of the operations
  pub opens_alike : (key : List ℕ) → same (opening_of rules accounts key) (opened rules (account_at values ops key)) ≡ true
  opens_alike key = opened_alike same equiv rules laws (held accounts key) (account_at values ops key) (replay key)

  -- a batch with slots settles
  pub settled_by_slots : (keys : List (List ℕ)) (slots : List (Slot A)) → keys ≡ touched_first ts → AreSettled bytes_eq same rules keys (opening_of rules accounts) ts slots
      → Settled bytes_eq rules (λ key. opened rules (account_at values ops key)) ts
  settled_by_slots keys slots e s =
      let Q = λ (k : List ℕ). Settles rules (opened rules (account_at values ops k)) (total_of bytes_eq ts k) in
      let each : AllByRecursion Q keys = each_key Q keys slots s.all (λ i k slot p q.
      (settles_alike same equiv rules laws (opening_of rules accounts k) (opened rules (account_at values ops k)) (total_of bytes_eq ts k) slot (opens_alike k) (s.each i k slot p q)).settles) in
      All-from_recursion (λ (t : List ℕ × Change E). Q t.0) ts (of_touches Q ts (unfirst Q (map (λ t. t.0) ts) (subst (AllByRecursion Q) e each)))

  -- an offence against the map is one against the operations
  pub offends_replay : (r : Rejection (List ℕ)) → SlotsFail rules (opening_of rules accounts) ts (Rejected r)
      → IsSumOffence bytes_eq ts r ⊎ (IsWithinSums bytes_eq ts × HasFirstOffence bytes_eq rules (λ key. opened rules (account_at values ops key)) ts r)
  offends_replay r (inl s) = inl s
  offends_replay r (inr (w, (k, t, o))) = inr (w, (k, t, offence_alike same equiv rules laws (opening_of rules accounts k) (opened rules (account_at values ops k)) (total_of bytes_eq ts k) k r (opens_alike k) o))

pub on_ok : {X Y : Type 0} (r : Result X Y) (P : Type 0) → P → OnOk r P
on_ok (Ok x) P p = p
on_ok (Err e) P p = tt

module _ {T A E : Type 0} (m : Meaning T A E) where
  -- what keeps a settled body from being appended keeps it from settling
  pub body_fails : {X : Type 0} (log : LogView AnyOp) (i : ℕ) (batch : List T) (r : Result X ReportFault) → IsSettled m log.ops batch → IfErr r (AppendFails log i (grown m log.front log.ops batch)) → IfErr r (BodyFails m log i batch)
  body_fails log i batch (Ok x) s h = tt
  body_fails log i batch (Err (BadLog location)) s h = h
  body_fails log i batch (Err (BadValue location)) s h = h
  body_fails log i batch (Err (FaultRejected j r)) s h = absurd h
  body_fails log i batch (Err (Full j)) s h = (h.0, s, h.1)
  body_fails log i batch (Err FaultOutOfMemory) s h = tt

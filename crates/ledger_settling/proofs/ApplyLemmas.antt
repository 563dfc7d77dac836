-- What the slots of touched keys write, key by key.
use Rattle.std.proofs.Common.{◌≡◌, ℕ, ◌+◌, ◌||◌, Bool, true, false, cond, List, [], ◌∷◌, ◌++◌, length, map, reverse, slice_get, suc, Option, None, Some, refl, sym, ap, subst, ◌∙◌, bytes_eq, not, filter, arith, append_assoc, length-append}
use Rattle.std.specs.Prelude.{MatchOption, option_and_then, option_to_list, unwrap_or}
use Rattle.std.specs.Option.{option_map}
use Rattle.std.specs.List.{list_any, AllByRecursion, filter_map, cons_option, zip}
use Rattle.std.proofs.lemmas.List.{append-nil}
use Rattle.std.specs.BTreeMap.{BTreeMap}
use Rattle.std.specs.Cmp.{IsEquivalence}
use Rattle.std.specs.Cmp.Lexicographic.{nat_list_eq_equiv}
use Rattle.ledger_log.specs.Any.{any_floor, any_write}
use Rattle.ledger_log.specs.View.{LogView}
use Rattle.ledger_log.specs.declared.any.AnyOp.{AnyOp}
use Rattle.ledger_log.specs.declared.any.AnyOp.TheVariants.{Update, Delete}
use Rattle.ledger_raising.specs.Raised.{Raises}
use Rattle.ledger_chain.specs.Writes.{Write}
use Rattle.ledger_chain.specs.declared.fault.ManagedFault.{ManagedFault}
use Rattle.ledger_chain.specs.declared.fault.ManagedFault.TheVariants.{StaleRead, StaleBatch, Log, OutOfMemory}
use Rattle.ledger_managed.specs.Values.{Values, ValueLaws}
use Rattle.ledger_transfers.specs.Rules.{Rules, AccountLaws, SameOutcome}
use Rattle.ledger_transfers.specs.Touches.{total_of}
use Rattle.ledger_transfers.specs.Registering.{AreSettled}
use Rattle.ledger_transfers.specs.Settling.{opened, after, SettlesTo, SameSlot, slot_of}
use Rattle.ledger_transfers.specs.declared.change.Change.{Change}
use Rattle.ledger_transfers.specs.declared.slot.Slot.{Slot}
use Rattle.ledger_transfers.specs.declared.slot.Slot.TheVariants.{Keep, Put, Delete as Remove}
use Rattle.ledger_settling.specs.Blocks.{firsts, account_at, written, slot_at, changed, with_touches}
use Rattle.ledger_settling.specs.Reports.{IsReplay, held}
use Rattle.ledger_settling.specs.Slots.{op_of, entry_of, entries_of, writes_of, with_slots, raised_on, changes_on, Changes, touched_first, opening_of, SealFails, AppendFails, seal_fault}
use Rattle.ledger_transfers.proofs.RegisterLemmas.{reverse_push}
use Rattle.ledger_settling.proofs.WriteLemmas.{entries_change, removal_held}
use Rattle.ledger_settling.proofs.SlotLemmas.{settles_alike, opens_alike}

filter_all : {X : Type 0} (P : X → Type 0) (p : X → Bool) (xs : List X) → AllByRecursion P xs → AllByRecursion P (filter p xs)
filter_all P p [] h = tt
filter_all P p (x ∷ xs) h = by (p x) (filter_all P p xs h.1)
  where
    by : (b : Bool) → AllByRecursion P (filter p xs) → AllByRecursion P (cond b (x ∷ filter p xs) (filter p xs))
    by true r = (h.0, r)
    by false r = r

-- what holds of each key holds of the first places
pub firsts_all : {K : Type 0} (eq : K → K → Bool) (P : K → Type 0) (ks : List K) → AllByRecursion P ks → AllByRecursion P (firsts eq ks)
firsts_all eq P [] h = tt
firsts_all eq P (k ∷ ks) h = (h.0, filter_all P (λ q. not (eq k q)) (firsts eq ks) (firsts_all eq P ks h.1))

or_true : (a b : Bool) → b ≡ true → (a || b) ≡ true
or_true true b h = refl
or_true false b h = h

-- what holds of each touched key holds of the keys of the touches
pub touched_all : {E : Type 0} (P : List ℕ → Type 0) (us : List (List ℕ × Change E)) → ((k : List ℕ) → list_any (λ t. bytes_eq k t.0) us ≡ true → P k) → AllByRecursion P (map (λ t. t.0) us)
touched_all P [] h = tt
touched_all P (u ∷ us) h =
    (h u.0 (ap (λ b. b || list_any (λ t. bytes_eq u.0 t.0) us) (nat_list_eq_equiv.refl u.0)), touched_all P us (λ k t. h k (or_true (bytes_eq k u.0) (list_any (λ t. bytes_eq k t.0) us) t)))

module _ {A E : Type 0} (same : A → A → Bool) (IsSound : A → Type 0) (rules : Rules A E) (values : Values A) (laws : ValueLaws same IsSound rules values) where
  -- slots that are the same write the same
  written_same : (key : List ℕ) (s t : Slot A) → SameSlot same s t → written values key s ≡ written values key t
  written_same key Keep Keep h = refl
  written_same key Keep Remove h = absurd h
  written_same key Keep (Put b) h = absurd h
  written_same key Remove Keep h = absurd h
  written_same key Remove Remove h = refl
  written_same key Remove (Put b) h = absurd h
  written_same key (Put a) Keep h = absurd h
  written_same key (Put a) Remove h = absurd h
  written_same key (Put a) (Put b) h = ap (λ v. Some (Update key v)) (laws.one_value a b h)

  -- and the same as writes
  entry_same : (key : List ℕ) (s t : Slot A) → SameSlot same s t → entry_of values key s ≡ entry_of values key t
  entry_same key Keep Keep h = refl
  entry_same key Keep Remove h = absurd h
  entry_same key Keep (Put b) h = absurd h
  entry_same key Remove Keep h = absurd h
  entry_same key Remove Remove h = refl
  entry_same key Remove (Put b) h = absurd h
  entry_same key (Put a) Keep h = absurd h
  entry_same key (Put a) Remove h = absurd h
  entry_same key (Put a) (Put b) h = ap (λ v. Some (key, Some v)) (laws.one_value a b h)

-- what slots make that make what the keys' own do
zip_made : {S X : Type 0} (f : List ℕ → S → Option X) (w : List ℕ → S) (ks : List (List ℕ)) (ss : List S) → length ss ≡ length ks → ((i : ℕ) (k : List ℕ) (s : S) → slice_get ks i ≡ Some k → slice_get ss i ≡ Some s → f k s ≡ f k (w k))
    → filter_map (λ p. f p.0 p.1) (zip ks ss) ≡ filter_map (λ k. f k (w k)) ks
zip_made f w [] ss l h = refl
zip_made f w (k ∷ ks) [] l h = absurd (omega (arith, l))
zip_made f w (k ∷ ks) (s ∷ ss) l h =
    ap (λ o. cons_option o (filter_map (λ p. f p.0 p.1) (zip ks ss))) (h 0 k s refl refl) ∙ ap (cons_option (f k (w k))) (zip_made f w ks ss (omega (arith, l)) (λ i q t a b. h (suc i) q t a b))

module _ {A : Type 0} (values : Values A) where
  push_option : {X : Type 0} (xs : List X) (o : Option X) (ys : List X) → (xs ++ option_to_list o) ++ ys ≡ xs ++ cons_option o ys
  push_option xs None ys = ap (λ us. us ++ ys) (append-nil xs)
  push_option xs (Some x) ys = append_assoc xs (x ∷ []) ys

  entries_none : (ks : List (List ℕ)) → entries_of values ks [] ≡ []
  entries_none [] = refl
  entries_none (k ∷ ks) = refl

  -- one key more is written, and the last slot is its
  pub write_one : (key : List ℕ) (ks : List (List ℕ)) (all rest : List (Slot A)) (r : Option (Slot A)) (done : List Write) (n m : ℕ) → n ≡ length all → m ≡ length rest → all ≡ rest ++ option_to_list r → MatchOption r ((n ≡ 0) × (m ≡ 0)) (λ s. m + 1 ≡ n)
      → (done ++ option_to_list (option_and_then (entry_of values key) r)) ++ entries_of values ks (reverse rest) ≡ done ++ entries_of values (key ∷ ks) (reverse all)
  write_one key ks all rest (Some s) done n m a b e c =
      push_option done (entry_of values key s) (entries_of values ks (reverse rest)) ∙ sym (ap (λ us. done ++ entries_of values (key ∷ ks) us) (ap reverse e ∙ reverse_push rest s))
  write_one key ks all rest None done n m a b e c =
      ap (λ us. us ++ entries_of values ks (reverse rest)) (append-nil done)
      ∙ ap (λ us. done ++ us) (ap (λ us. entries_of values ks (reverse us)) (none rest (sym b ∙ c.1)) ∙ entries_none ks)
      ∙ sym (ap (λ us. done ++ entries_of values (key ∷ ks) (reverse us)) (none all (sym a ∙ c.0)))
    where
      none : (xs : List (Slot A)) → length xs ≡ 0 → xs ≡ []
      none [] h = refl
      none (x ∷ xs) h = absurd (omega (arith, h))

  -- the operation of a slot's write is what the slot writes
  pub written_entry : (key : List ℕ) (r : Option (Slot A)) → map op_of (option_to_list (option_and_then (entry_of values key) r)) ≡ option_to_list (option_and_then (written values key) r)
  written_entry key None = refl
  written_entry key (Some Keep) = refl
  written_entry key (Some Remove) = refl
  written_entry key (Some (Put a)) = refl

  -- so are those of all slots
  pub written_entries : (keys : List (List ℕ)) (slots : List (Slot A)) → map op_of (entries_of values keys slots) ≡ writes_of values keys slots
  written_entries [] slots = refl
  written_entries (k ∷ ks) [] = refl
  written_entries (k ∷ ks) (s ∷ ss) = by s (written_entries ks ss)
    where
      by : (s : Slot A) → map op_of (entries_of values ks ss) ≡ writes_of values ks ss → map op_of (cons_option (entry_of values k s) (entries_of values ks ss)) ≡ cons_option (written values k s) (writes_of values ks ss)
      by Keep h = h
      by Remove h = ap (λ us. Delete k ∷ us) h
      by (Put a) h = ap (λ us. Update k (values.value_of a) ∷ us) h

module _ {A E : Type 0} (same : A → A → Bool) (equiv : IsEquivalence same) (rules : Rules A E) (laws : AccountLaws same rules) (IsSound : A → Type 0) (values : Values A) (value_laws : ValueLaws same IsSound rules values)
    (accounts : BTreeMap (List ℕ) A) (log : LogView AnyOp) (replay : IsReplay same values accounts log.ops) (ts : List (List ℕ × Change E)) where
  -- the slot of a key is what becomes of its account
  slot_alike : (key : List ℕ) (slot : Slot A) → SettlesTo same rules (opening_of rules accounts key) (total_of bytes_eq ts key) slot → SameSlot same slot (slot_at same rules values log.ops ts key)
  slot_alike key slot h =
      let opens = opens_alike same equiv rules laws values accounts log.ops replay ts key in
      let settles = settles_alike same equiv rules laws (opening_of rules accounts key) (opened rules (account_at values log.ops key)) (total_of bytes_eq ts key) slot opens h in
      by slot (after rules (opened rules (account_at values log.ops key)) (total_of bytes_eq ts key)) settles.slot_is
    where
      by : (s : Slot A) (o : Option A) → MatchOption o ⊥ (λ e. SameSlot same s (slot_of same rules (opened rules (account_at values log.ops key)) e))
          → SameSlot same s (unwrap_or (option_map (slot_of same rules (opened rules (account_at values log.ops key))) o) Keep)
      by s None h = absurd h
      by s (Some e) h = h

  module _ (keys : List (List ℕ)) (slots : List (Slot A)) (e : keys ≡ touched_first ts) (are : AreSettled bytes_eq same rules keys (opening_of rules accounts) ts slots) where
    writes_are : writes_of values keys slots ≡ changed same rules values log.ops ts
    writes_are =
        zip_made (written values) (slot_at same rules values log.ops ts) keys slots are.all (λ i k s p q. written_same same IsSound rules values value_laws k s (slot_at same rules values log.ops ts k) (slot_alike k s (are.each i k s p q)))
        ∙ ap (filter_map (λ key. written values key (slot_at same rules values log.ops ts key))) e

    entries_are : entries_of values keys slots ≡ filter_map (λ key. entry_of values key (slot_at same rules values log.ops ts key)) (touched_first ts)
    entries_are =
        zip_made (entry_of values) (slot_at same rules values log.ops ts) keys slots are.all (λ i k s p q. entry_same same IsSound rules values value_laws k s (slot_at same rules values log.ops ts k) (slot_alike k s (are.each i k s p q)))
        ∙ ap (filter_map (λ key. entry_of values key (slot_at same rules values log.ops ts key))) e

    -- the slots of the touched keys make what the touches make
    pub slots_make : with_slots values log keys slots ≡ with_touches same rules values log.front log.ops ts
    slots_make = ap (λ xs. log.ops ++ raised_on log xs) writes_are

    -- and their writes change what they write
    pub slots_change : Changes values log keys slots
    slots_change =
        ap (changes_on log) entries_are
        ∙ entries_change values log (slot_at same rules values log.ops ts) (λ key. removal_held same rules values ts log.ops key) (map (λ t. t.0) ts)
        ∙ sym writes_are

-- why a batch isn't sealed is why a block isn't appended
pub seal_appends : (log : LogView AnyOp) (i : ℕ) (batch : List AnyOp) (fault : ManagedFault) → SealFails log batch fault → AppendFails log i (log.ops ++ batch) (seal_fault i fault)
seal_appends log i batch OutOfMemory h = tt
seal_appends log i batch (Log fault) h = (refl, omega (arith, h.1, length-append log.ops batch))
seal_appends log i batch (StaleRead size root) h = absurd h
seal_appends log i batch (StaleBatch size root) h = absurd h

-- the copies of a batch leave the accounts that its changes leave
pub replay_raised : {A : Type 0} (same : A → A → Bool) (values : Values A) (accounts : BTreeMap (List ℕ) A) (log : LogView AnyOp) (changes batch : List AnyOp) → Raises any_floor any_write log changes batch
    → IsReplay same values accounts (log.ops ++ changes) → IsReplay same values accounts (log.ops ++ batch)
replay_raised same values accounts log changes batch law r key =
    subst (SameOutcome same (held accounts key)) (ap (option_and_then values.read) (sym (law.replay key))) (r key)

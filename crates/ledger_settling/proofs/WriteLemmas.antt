-- What a batch of a settled block's writes changes.
use Rattle.std.proofs.Common.{◌≡◌, ℕ, Bool, true, false, cond, not, List, [], ◌∷◌, map, filter, Option, None, Some, refl, ap, ◌∙◌, bytes_eq, if◌then◌else◌}
use Rattle.std.specs.Prelude.{is_none, option_and_then, unwrap_or}
use Rattle.std.specs.Option.{option_map}
use Rattle.std.specs.List.{AllByRecursion, filter_map, cons_option, last_or}
use Rattle.std.specs.Cmp.Lexicographic.{nat_list_eq_equiv}
use Rattle.ledger_log.specs.Any.{any_write}
use Rattle.ledger_log.specs.View.{LogView, written_at, value_or_none, value_at}
use Rattle.ledger_log.specs.declared.any.AnyOp.{AnyOp}
use Rattle.ledger_log.specs.declared.any.AnyOp.TheVariants.{Update, Delete}
use Rattle.ledger_raising.specs.Updates.{update, deletion}
use Rattle.ledger_chain.specs.Chain.{view}
use Rattle.ledger_chain.specs.Changes.{changes, change_of}
use Rattle.ledger_chain.specs.Writes.{Write, last_write, settled, firsts as write_firsts}
use Rattle.ledger_managed.specs.Values.{Values}
use Rattle.ledger_transfers.specs.Rules.{Rules}
use Rattle.ledger_transfers.specs.Touches.{total_of}
use Rattle.ledger_transfers.specs.Settling.{opened, after, slot_of}
use Rattle.ledger_transfers.specs.declared.change.Change.{Change}
use Rattle.ledger_transfers.specs.declared.slot.Slot.{Slot}
use Rattle.ledger_transfers.specs.declared.slot.Slot.TheVariants.{Keep, Put, Delete as Remove}
use Rattle.ledger_settling.specs.Blocks.{firsts, written, slot_at}
use Rattle.ledger_settling.specs.Slots.{entry_of, fresh_batch, changes_on}

-- no two writes are of one key
abbrev Apart : List Write → Type 0
Apart [] = Unit {0}
Apart (w ∷ ws) = AllByRecursion (λ (v : Write). bytes_eq w.0 v.0 ≡ false) ws × Apart ws

keys_kept : (k : List ℕ) (ws : List Write) → AllByRecursion (λ (v : Write). bytes_eq k v.0 ≡ false) ws → filter (λ q. not (bytes_eq k q)) (map (λ w. w.0) ws) ≡ map (λ w. w.0) ws
keys_kept k [] h = refl
keys_kept k (v ∷ ws) h =
    ap (λ b. cond (not b) (v.0 ∷ filter (λ q. not (bytes_eq k q)) (map (λ w. w.0) ws)) (filter (λ q. not (bytes_eq k q)) (map (λ w. w.0) ws))) h.0 ∙ ap (λ ks. v.0 ∷ ks) (keys_kept k ws h.1)

firsts_apart : (ws : List Write) → Apart ws → write_firsts (map (λ w. w.0) ws) ≡ map (λ w. w.0) ws
firsts_apart [] a = refl
firsts_apart (w ∷ ws) a = ap (λ ks. w.0 ∷ filter (λ q. not (bytes_eq w.0 q)) ks) (firsts_apart ws a.1) ∙ ap (λ ks. w.0 ∷ ks) (keys_kept w.0 ws a.0)

none_of : (k : List ℕ) (ws : List Write) → AllByRecursion (λ (v : Write). bytes_eq k v.0 ≡ false) ws → filter_map (λ w. written_at k (Some w)) ws ≡ []
none_of k [] h = refl
none_of k (w ∷ ws) h =
    ap (λ b. cons_option (cond b (Some w.1) None) (filter_map (λ w. written_at k (Some w)) ws)) (nat_list_eq_equiv.symm w.0 k ∙ h.0) ∙ none_of k ws h.1

-- what is left at a key, with the key
abbrev left_at : List Write → List ℕ → Write
left_at ws k = (k, value_or_none (last_write k ws))

left_behind : (w : Write) (us ws : List Write) → AllByRecursion (λ (v : Write). bytes_eq w.0 v.0 ≡ false) us → map (left_at (w ∷ ws)) (map (λ u. u.0) us) ≡ map (left_at ws) (map (λ u. u.0) us)
left_behind w [] ws h = refl
left_behind w (u ∷ us) ws h =
    ap (λ b. (u.0, value_or_none (last_or None (cons_option (cond b (Some w.1) None) (filter_map (λ x. written_at u.0 (Some x)) ws)))) ∷ map (left_at (w ∷ ws)) (map (λ u. u.0) us)) h.0
    ∙ ap (λ zs. left_at ws u.0 ∷ zs) (left_behind w us ws h.1)

left_all : (ws : List Write) → Apart ws → map (left_at ws) (map (λ w. w.0) ws) ≡ ws
left_all [] a = refl
left_all (w ∷ ws) a =
    ap (λ b. (w.0, value_or_none (last_or None (cons_option (cond b (Some w.1) None) (filter_map (λ x. written_at w.0 (Some x)) ws)))) ∷ map (left_at (w ∷ ws)) (map (λ u. u.0) ws)) (nat_list_eq_equiv.refl w.0)
    ∙ ap (λ vs. (w.0, value_or_none (last_or None (w.1 ∷ vs))) ∷ map (left_at (w ∷ ws)) (map (λ u. u.0) ws)) (none_of w.0 ws a.0)
    ∙ ap (λ zs. w ∷ zs) (left_behind w ws ws a.0 ∙ left_all ws a.1)

-- such writes are settled as they are
settled_apart : (ws : List Write) → Apart ws → settled ws ≡ ws
settled_apart ws a = ap (map (left_at ws)) (firsts_apart ws a) ∙ left_all ws a

others : (k : List ℕ) (xs : List (List ℕ)) → AllByRecursion (λ y. bytes_eq k y ≡ false) (filter (λ q. not (bytes_eq k q)) xs)
others k [] = tt
others k (x ∷ xs) = by (bytes_eq k x) refl (others k xs)
  where
    by : (b : Bool) → bytes_eq k x ≡ b → AllByRecursion (λ y. bytes_eq k y ≡ false) (filter (λ q. not (bytes_eq k q)) xs)
        → AllByRecursion (λ y. bytes_eq k y ≡ false) (cond (not b) (x ∷ filter (λ q. not (bytes_eq k q)) xs) (filter (λ q. not (bytes_eq k q)) xs))
    by true e h = h
    by false e h = (e, h)

filter_still : (P : List ℕ → Type 0) (p : List ℕ → Bool) (xs : List (List ℕ)) → AllByRecursion P xs → AllByRecursion P (filter p xs)
filter_still P p [] h = tt
filter_still P p (x ∷ xs) h = by (p x) (filter_still P p xs h.1)
  where
    by : (b : Bool) → AllByRecursion P (filter p xs) → AllByRecursion P (cond b (x ∷ filter p xs) (filter p xs))
    by true r = (h.0, r)
    by false r = r

-- no key is equal to one after it
abbrev Distinct : List (List ℕ) → Type 0
Distinct [] = Unit {0}
Distinct (k ∷ ks) = AllByRecursion (λ q. bytes_eq k q ≡ false) ks × Distinct ks

filter_distinct : (p : List ℕ → Bool) (xs : List (List ℕ)) → Distinct xs → Distinct (filter p xs)
filter_distinct p [] d = tt
filter_distinct p (x ∷ xs) d = by (p x) (filter_distinct p xs d.1)
  where
    by : (b : Bool) → Distinct (filter p xs) → Distinct (cond b (x ∷ filter p xs) (filter p xs))
    by true r = (filter_still (λ y. bytes_eq x y ≡ false) p xs d.0, r)
    by false r = r

-- no two first places are of one key
firsts_distinct : (ks : List (List ℕ)) → Distinct (firsts bytes_eq ks)
firsts_distinct [] = tt
firsts_distinct (k ∷ ks) = (others k (firsts bytes_eq ks), filter_distinct (λ q. not (bytes_eq k q)) (firsts bytes_eq ks) (firsts_distinct ks))

module _ {A : Type 0} (values : Values A) (s : List ℕ → Slot A) where
  none_among : (k : List ℕ) (ks : List (List ℕ)) → AllByRecursion (λ y. bytes_eq k y ≡ false) ks → AllByRecursion (λ (v : Write). bytes_eq k v.0 ≡ false) (filter_map (λ q. entry_of values q (s q)) ks)
  none_among k [] h = tt
  none_among k (q ∷ ks) h = by (s q) (none_among k ks h.1)
    where
      by : (t : Slot A) → AllByRecursion (λ (v : Write). bytes_eq k v.0 ≡ false) (filter_map (λ q. entry_of values q (s q)) ks)
          → AllByRecursion (λ (v : Write). bytes_eq k v.0 ≡ false) (cons_option (entry_of values q t) (filter_map (λ q. entry_of values q (s q)) ks))
      by Keep r = r
      by Remove r = (h.0, r)
      by (Put a) r = (h.0, r)

  entries_apart : (ks : List (List ℕ)) → Distinct ks → Apart (filter_map (λ q. entry_of values q (s q)) ks)
  entries_apart [] d = tt
  entries_apart (k ∷ ks) d = by (s k) (entries_apart ks d.1)
    where
      by : (t : Slot A) → Apart (filter_map (λ q. entry_of values q (s q)) ks) → Apart (cons_option (entry_of values k t) (filter_map (λ q. entry_of values q (s q)) ks))
      by Keep r = r
      by Remove r = (none_among k ks d.0, r)
      by (Put a) r = (none_among k ks d.0, r)

module _ {A : Type 0} (values : Values A) (log : LogView AnyOp) (s : List ℕ → Slot A) (held : (key : List ℕ) → s key ≡ Remove → is_none (value_at any_write key log.ops) ≡ false) where
  -- what a write changes in the log
  abbrev changed_by : Write → Option AnyOp
  changed_by w = change_of update deletion (view any_write (fresh_batch log).chain log w.0) w

  each_change : (ks : List (List ℕ)) → filter_map (λ w. change_of update deletion (view any_write (fresh_batch log).chain log w.0) w) (filter_map (λ q. entry_of values q (s q)) ks) ≡ filter_map (λ q. written values q (s q)) ks
  each_change [] = refl
  each_change (k ∷ ks) = by (s k) refl (each_change ks)
    where
      by : (t : Slot A) → s k ≡ t → filter_map changed_by (filter_map (λ q. entry_of values q (s q)) ks) ≡ filter_map (λ q. written values q (s q)) ks
          → filter_map changed_by (cons_option (entry_of values k t) (filter_map (λ q. entry_of values q (s q)) ks)) ≡ cons_option (written values k t) (filter_map (λ q. written values q (s q)) ks)
      by Keep e h = h
      by Remove e h =
          ap (λ b. cons_option (if b then None else Some (Delete k)) (filter_map changed_by (filter_map (λ q. entry_of values q (s q)) ks))) (held k e) ∙ ap (λ us. Delete k ∷ us) h
      by (Put a) e h = ap (λ us. Update k (values.value_of a) ∷ us) h

  -- what the writes of the slots of first places change is what the slots write
  pub entries_change : (ks : List (List ℕ)) → changes_on log (filter_map (λ q. entry_of values q (s q)) (firsts bytes_eq ks)) ≡ filter_map (λ q. written values q (s q)) (firsts bytes_eq ks)
  entries_change ks =
      ap (changes any_write update deletion (fresh_batch log).chain log) (settled_apart (filter_map (λ q. entry_of values q (s q)) (firsts bytes_eq ks)) (entries_apart values s (firsts bytes_eq ks) (firsts_distinct ks)))
      ∙ each_change (firsts bytes_eq ks)

module _ {A E : Type 0} (same : A → A → Bool) (rules : Rules A E) (values : Values A) (ts : List (List ℕ × Change E)) where
  not_removed : (b : Bool) (e : A) → cond b Keep (cond b Remove (Put e)) ≡ Remove → ⊥
  not_removed true e h = absurd cc
  not_removed false e h = absurd cc

  -- a key whose account is taken out has a value
  pub removal_held : (ops : List AnyOp) (key : List ℕ) → slot_at same rules values ops ts key ≡ Remove → is_none (value_at any_write key ops) ≡ false
  removal_held ops key h = by (value_at any_write key ops) h
    where
      first : (o : Option A) → unwrap_or (option_map (slot_of same rules rules.initial) o) Keep ≡ Remove → ⊥
      first None e = absurd cc
      first (Some a) e = not_removed (same a rules.initial) a e

      by : (o : Option (List ℕ)) → unwrap_or (option_map (slot_of same rules (opened rules (option_and_then values.read o))) (after rules (opened rules (option_and_then values.read o)) (total_of bytes_eq ts key))) Keep ≡ Remove → is_none o ≡ false
      by None e = absurd (first (after rules rules.initial (total_of bytes_eq ts key)) e)
      by (Some v) e = refl

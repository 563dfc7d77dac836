-- Keys that are taken up, with their accounts.
use Rattle.std.proofs.Common.{◌≡◌, ℕ, zero, suc, ◌+◌, ◌≤◌, length-append, length-drop, ◌||◌, ◌⊎◌, inl, inr, Bool, true, false, cond, List, [], ◌∷◌, ◌++◌, length, drop, map, Option, None, Some, refl, sym, ap, subst, ◌∙◌, bytes_eq, arith, append_assoc, true≢false}
use Rattle.std.specs.Prelude.{IsSome, is_some, unwrap_or}
use Rattle.std.specs.Option.{option_map}
use Rattle.std.specs.List.{All, IsDistinct, list_any, zip}
use Rattle.std.specs.Map.{lookup, keys_of}
use Rattle.std.specs.Cmp.{IsEquivalence}
use Rattle.std.specs.Cmp.Lexicographic.{nat_list_eq_equiv, bytes_decides}
use Rattle.std.specs.BTreeMap.{BTreeMap}
use Rattle.std.proofs.lemmas.List.{append-nil, length-map, map-append}
use Rattle.std.proofs.lemmas.List.Folds.{list_any-append}
use Rattle.std.proofs.lemmas.Map.Keys.{IsDistinct-push}
use Rattle.indexmap.specs.IndexSet.{insert_key, insert_all}
use Rattle.ledger_transfers.specs.Rules.{SameOutcome}
use Rattle.ledger_transfers.specs.Selecting.{AreReadBy}
use Rattle.ledger_transfers.specs.Registering.{touched, registered, fresh}
use Rattle.ledger_transfers.specs.declared.change.Change.{Change}
use Rattle.ledger_transfers.specs.declared.held.Held.{Held}
use Rattle.ledger_transfers.proofs.TakenLemmas.{all_touched}
use Rattle.ledger_settling.specs.Reports.{held}
use Rattle.ledger_settling.specs.Slots.{AreReads}
use Rattle.ledger_settling.specs.Rounds.{AreOpened}

or_left : (a b : Bool) → a ≡ true → (a || b) ≡ true
or_left a b h = ap (λ x. x || b) h

or_right : (a b : Bool) → b ≡ true → (a || b) ≡ true
or_right true b h = refl
or_right false b h = h

module _ {K : Type 0} (eq : K → K → Bool) (laws : IsEquivalence eq) where
  key_more : (ks : List K) (x : K) → (more : List K) × (insert_key eq ks x ≡ ks ++ more)
  key_more ks x = by (list_any (eq x) ks)
    where
      by : (b : Bool) → (more : List K) × (cond b ks (ks ++ x ∷ []) ≡ ks ++ more)
      by true = ([], sym (append-nil ks))
      by false = (x ∷ [], refl)

  -- inserted keys stand behind those that were there
  pub all_more : (ks xs : List K) → (more : List K) × (insert_all eq ks xs ≡ ks ++ more)
  all_more ks [] = ([], sym (append-nil ks))
  all_more ks (x ∷ xs) =
      let one = key_more ks x in
      let rest = all_more (insert_key eq ks x) xs in
      (one.0 ++ rest.0, rest.1 ∙ ap (λ us. us ++ rest.0) one.1 ∙ append_assoc ks one.0 rest.0)

  key_distinct : (ks : List K) (x : K) → IsDistinct eq ks → IsDistinct eq (insert_key eq ks x)
  key_distinct ks x d = by (list_any (eq x) ks) refl
    where
      by : (b : Bool) → list_any (eq x) ks ≡ b → IsDistinct eq (cond b ks (ks ++ x ∷ []))
      by true e = d
      by false e = IsDistinct-push laws ks x d e

  -- no two inserted keys are equal
  pub all_distinct : (ks xs : List K) → IsDistinct eq ks → IsDistinct eq (insert_all eq ks xs)
  all_distinct ks [] d = d
  all_distinct ks (x ∷ xs) d = all_distinct (insert_key eq ks x) xs (key_distinct ks x d)

  key_stays : (ks : List K) (x k : K) → list_any (eq k) ks ≡ true → list_any (eq k) (insert_key eq ks x) ≡ true
  key_stays ks x k h = let m = key_more ks x in ap (list_any (eq k)) m.1 ∙ list_any-append (eq k) ks m.0 ∙ or_left (list_any (eq k) ks) (list_any (eq k) m.0) h

  all_stay : (ks xs : List K) (k : K) → list_any (eq k) ks ≡ true → list_any (eq k) (insert_all eq ks xs) ≡ true
  all_stay ks [] k h = h
  all_stay ks (x ∷ xs) k h = all_stay (insert_key eq ks x) xs k (key_stays ks x k h)

  key_there : (ks : List K) (x k : K) → eq k x ≡ true → list_any (eq k) (insert_key eq ks x) ≡ true
  key_there ks x k e = by (list_any (eq x) ks) refl
    where
      by : (b : Bool) → list_any (eq x) ks ≡ b → list_any (eq k) (cond b ks (ks ++ x ∷ [])) ≡ true
      by true h = ap (λ (p : K → Bool). list_any p ks) (λ i y. laws.congr k x y e i) ∙ h
      by false h = list_any-append (eq k) ks (x ∷ []) ∙ or_right (list_any (eq k) ks) (eq k x || false) (or_left (eq k x) false e)

  -- each inserted key is there
  pub all_there : (ks xs : List K) (k : K) → list_any (eq k) xs ≡ true → list_any (eq k) (insert_all eq ks xs) ≡ true
  all_there ks [] k h = absurd (true≢false (sym h))
  all_there ks (x ∷ xs) k h = by (eq k x) refl h (all_there (insert_key eq ks x) xs k)
    where
      by : (b : Bool) → eq k x ≡ b → (b || list_any (eq k) xs) ≡ true → (list_any (eq k) xs ≡ true → list_any (eq k) (insert_all eq (insert_key eq ks x) xs) ≡ true)
          → list_any (eq k) (insert_all eq (insert_key eq ks x) xs) ≡ true
      by true e h rest = all_stay (insert_key eq ks x) xs k (key_there ks x k e)
      by false e h rest = rest h

drop_front : {X : Type 0} (xs ys : List X) → drop (length xs) (xs ++ ys) ≡ ys
drop_front [] ys = refl
drop_front (x ∷ xs) ys = drop_front xs ys

module _ {K X : Type 0} where
  -- a key is found where it is among the keys
  pub found_key : (p : K → Bool) (es : List (K × X)) → is_some (lookup p es) ≡ list_any p (keys_of es)
  found_key p [] = refl
  found_key p (e ∷ es) = by (p e.0) (found_key p es)
    where
      by : (b : Bool) → is_some (lookup p es) ≡ list_any p (keys_of es) → is_some (cond b (Some e.1) (lookup p es)) ≡ (b || list_any p (keys_of es))
      by true h = refl
      by false h = h

  found_either : (p : K → Bool) (es fs : List (K × X)) (h : X) → lookup p (es ++ fs) ≡ Some h → (lookup p es ≡ Some h) ⊎ (lookup p fs ≡ Some h)
  found_either p [] fs h e = inr e
  found_either p (x ∷ es) fs h e = by (p x.0) e (found_either p es fs h)
    where
      by : (b : Bool) → cond b (Some x.1) (lookup p (es ++ fs)) ≡ Some h → (lookup p (es ++ fs) ≡ Some h → (lookup p es ≡ Some h) ⊎ (lookup p fs ≡ Some h))
          → (cond b (Some x.1) (lookup p es) ≡ Some h) ⊎ (lookup p fs ≡ Some h)
      by true e rest = inl e
      by false e rest = rest e

any_mapped : {X K : Type 0} (p : K → Bool) (f : X → K) (xs : List X) → list_any p (map f xs) ≡ list_any (λ x. p (f x)) xs
any_mapped p f [] = refl
any_mapped p f (x ∷ xs) = ap (λ b. p (f x) || b) (any_mapped p f xs)

Some_injective : {X : Type 0} (x y : X) → Some x ≡ Some y → x ≡ y
Some_injective x y h = ap (λ o. unwrap_or o x) h

module _ {A : Type 0} where
  abbrev rows : List (List ℕ) → List (Option A) → List (List ℕ × Held A)
  rows ks rs = map (λ p. (p.0, fresh p.1)) (zip ks rs)

  keys_of_rows : (ks : List (List ℕ)) (rs : List (Option A)) → length rs ≡ length ks → keys_of (rows ks rs) ≡ ks
  keys_of_rows [] rs l = refl
  keys_of_rows (k ∷ ks) [] l = absurd (omega (arith, l))
  keys_of_rows (k ∷ ks) (r ∷ rs) l = ap (λ us. k ∷ us) (keys_of_rows ks rs (omega (arith, l)))

module _ {A : Type 0} (same : A → A → Bool) (accounts : BTreeMap (List ℕ) A) where
  rows_read : (ks : List (List ℕ)) (rs : List (Option A)) (key : List ℕ) (h : Held A) → AreReads same accounts ks rs → lookup (bytes_eq key) (rows ks rs) ≡ Some h → SameOutcome same h.read (held accounts key)
  rows_read [] rs key h a e = absurd (true≢false (sym (ap is_some e)))
  rows_read (k ∷ ks) [] key h a e = absurd (true≢false (sym (ap is_some e)))
  rows_read (k ∷ ks) (r ∷ rs) key h a e = by (bytes_eq key k) refl e (rows_read ks rs key h (λ i x y s t. a (suc i) x y s t))
    where
      by : (b : Bool) → bytes_eq key k ≡ b → cond b (Some (fresh r)) (lookup (bytes_eq key) (rows ks rs)) ≡ Some h → (lookup (bytes_eq key) (rows ks rs) ≡ Some h → SameOutcome same h.read (held accounts key))
          → SameOutcome same h.read (held accounts key)
      by true q e rest =
          subst (λ (x : Held A). SameOutcome same x.read (held accounts key)) (Some_injective (fresh r) h e)
          (subst (λ x. SameOutcome same r (held accounts x)) (sym ((bytes_decides key k).0 q)) (a zero k r refl refl))
      by false q e rest = rest e

  module _ {E : Type 0} (keys new : List (List ℕ)) (es : List (List ℕ × Held A)) (reads : List (Option A)) (ts : List (List ℕ × Change E)) (o : AreOpened same accounts keys es)
      (is : new ≡ touched bytes_eq keys ts) (all : length reads ≡ length (drop (length keys) new)) (each : AreReads same accounts (drop (length keys) new) reads) where
    many : length es ≡ length keys
    many = sym (length-map es (λ (e : List ℕ × Held A). e.0)) ∙ ap length o.all

    behind : drop (length keys) new ≡ drop (length es) new
    behind = ap (λ n. drop n new) (sym many)

    opened_keys : keys_of (registered new es reads) ≡ new
    opened_keys =
        let more = all_more bytes_eq nat_list_eq_equiv keys (map (λ t. t.0) ts) in
        let rest : drop (length es) new ≡ more.0 = sym behind ∙ ap (drop (length keys)) (is ∙ more.1) ∙ drop_front keys more.0 in
        map-append (λ (e : List ℕ × Held A). e.0) es (rows (drop (length es) new) reads)
        ∙ ap (λ us. us ++ keys_of (rows (drop (length es) new) reads)) o.all
        ∙ ap (λ us. keys ++ us) (keys_of_rows (drop (length es) new) reads (all ∙ ap length behind) ∙ rest)
        ∙ sym (is ∙ more.1)

    -- registered reads are the accounts
    pub opened_round : AreOpened same accounts new (registered new es reads)
    opened_round = record {
      all = opened_keys;
      distinct = subst (IsDistinct bytes_eq) (sym is) (all_distinct bytes_eq nat_list_eq_equiv keys (map (λ t. t.0) ts) o.distinct);
      reads = λ key h e.
          elim (found_either (bytes_eq key) es (rows (drop (length es) new) reads) h e) [
            | inl old ↦ o.reads key h old
            | inr more ↦ rows_read (drop (length es) new) reads key h (subst (λ ks. AreReads same accounts ks reads) behind each) more
          ];
    }

    -- each touched key is registered
    pub registered_round : All (λ t. IsSome (lookup (bytes_eq t.0) (registered new es reads))) ts
    registered_round = all_touched bytes_eq nat_list_eq_equiv (λ k. IsSome (lookup (bytes_eq k) (registered new es reads))) ts (λ k t.
        found_key (bytes_eq k) (registered new es reads) ∙ ap (list_any (bytes_eq k)) (opened_keys ∙ is)
        ∙ all_there bytes_eq nat_list_eq_equiv keys (map (λ t. t.0) ts) k (any_mapped (bytes_eq k) (λ (t : List ℕ × Change E). t.0) ts ∙ t))

  read_before : (o : Option (Held A)) (h : Held A) → Some h.read ≡ option_map (λ (x : Held A). x.read) o → (g : Held A) × (o ≡ Some g) × (g.read ≡ h.read)
  read_before None h e = absurd (true≢false (ap is_some e))
  read_before (Some g) h e = (g, refl, sym (Some_injective h.read g.read e))

  -- applied candidates leave the reads
  pub opened_after : (keys new : List (List ℕ)) (es fs : List (List ℕ × Held A)) → new ≡ keys → AreReadBy bytes_eq es fs → AreOpened same accounts keys es → AreOpened same accounts new fs
  opened_after keys new es fs is r o = record {
    all = r.keys ∙ o.all ∙ sym is;
    distinct = subst (IsDistinct bytes_eq) (sym is) o.distinct;
    reads = λ key h e.
        let g = read_before (lookup (bytes_eq key) es) h (sym (ap (option_map (λ (x : Held A). x.read)) e) ∙ r.reads key) in
        subst (λ x. SameOutcome same x (held accounts key)) g.2 (o.reads key g.0 g.1);
  }

-- no keys
pub opened_none : {A : Type 0} (same : A → A → Bool) (accounts : BTreeMap (List ℕ) A) → AreOpened same accounts [] []
unfolding IsDistinct
opened_none same accounts = record { all = refl; distinct = tt; reads = λ key h e. absurd (true≢false (sym (ap is_some e))) }

module _ {A E : Type 0} (sel new : List (List ℕ) × List (List ℕ × Held A)) (start : ℕ) (shown : List (List ℕ)) (ts : List (List ℕ × Change E))
    (took : new ≡ (touched bytes_eq sel.0 ts, sel.1)) (from : start ≡ length sel.0) (shows : shown ≡ new.0) where
  took_keys : new.0 ≡ touched bytes_eq sel.0 ts
  took_keys = ap (λ (p : List (List ℕ) × List (List ℕ × Held A)). p.0) took

  pub took_entries : new.1 ≡ sel.1
  took_entries = ap (λ (p : List (List ℕ) × List (List ℕ × Held A)). p.1) took

  -- the new keys stand behind the others
  pub start_within : start ≤ length shown
  start_within =
      let more = all_more bytes_eq nat_list_eq_equiv sel.0 (map (λ t. t.0) ts) in
      omega (arith, from, ap length (shows ∙ took_keys ∙ more.1), length-append sel.0 more.0)

  module _ (same : A → A → Bool) (accounts : BTreeMap (List ℕ) A) (o : AreOpened same accounts sel.0 sel.1) (reads : List (Option A)) (all : length reads ≡ length (drop start shown)) where
    -- there is one read for each new key
    pub reads_fit : length new.1 + length reads ≡ length new.0
    reads_fit = omega (arith, start_within, from, all, length-drop start shown, ap length shows, ap length took_entries, ap length o.all, length-map sel.1 (λ (e : List ℕ × Held A). e.0))

    module _ (each : AreReads same accounts (drop start shown) reads) (after : List (List ℕ) × List (List ℕ × Held A)) (put : after ≡ (new.0, registered new.0 new.1 reads)) where
      behind_is : drop start shown ≡ drop (length sel.0) new.0
      behind_is = ap (λ n. drop n shown) from ∙ ap (drop (length sel.0)) shows

      put_is : after ≡ (new.0, registered new.0 sel.1 reads)
      put_is = put ∙ ap (λ es. (new.0, registered new.0 es reads)) took_entries

      pub opened_selection : AreOpened same accounts after.0 after.1
      opened_selection = subst (λ (p : List (List ℕ) × List (List ℕ × Held A)). AreOpened same accounts p.0 p.1) (sym put_is)
          (opened_round same accounts sel.0 new.0 sel.1 reads ts o took_keys (all ∙ ap length behind_is) (subst (λ ks. AreReads same accounts ks reads) behind_is each))

      pub registered_selection : All (λ t. IsSome (lookup (bytes_eq t.0) after.1)) ts
      registered_selection = subst (λ (p : List (List ℕ) × List (List ℕ × Held A)). All (λ (t : List ℕ × Change E). IsSome (lookup (bytes_eq t.0) p.1)) ts) (sym put_is)
          (registered_round same accounts sel.0 new.0 sel.1 reads ts o took_keys (all ∙ ap length behind_is) (subst (λ ks. AreReads same accounts ks reads) behind_is each))

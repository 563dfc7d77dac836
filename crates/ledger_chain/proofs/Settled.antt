-- Each write in turn settles the writes so far.
use Rattle.std.proofs.Common.{◌≡◌, ℕ, zero, suc, ◌≤◌, Bool, true, false, not, ◌||◌, List, [], ◌∷◌, ◌++◌, length, take, get_or, map, filter, Option, Some, None, refl, ap, ◌∙◌, sym, arith, add-one, true≢false, cond, if◌then◌else◌, filter_map}
use Rattle.std.specs.Prelude.{bytes_eq}
use Rattle.std.specs.List.{list_any, last_or, cons_option}
use Rattle.std.specs.Map.{lookup}
use Rattle.std.specs.Option.{option_or, option_map_or, option_to_list}
use Rattle.std.proofs.lemmas.List.{take_more, map-append, append-nil}
use Rattle.std.proofs.Math.Seq.{take-length}
use Rattle.std.proofs.lemmas.List.Elements.{filter-append, filter_map-append}
use Rattle.std.proofs.lemmas.Slice.Eq.{bytes_eq-Decides}
use Rattle.indexmap.specs.IndexMap.{insert_entry}
use Rattle.ledger_log.specs.View.{written_at, value_or_none}
use Rattle.ledger_chain.specs.Writes.{Write, last_write, firsts, settled}

same-refl : (a : List ℕ) → bytes_eq a a ≡ true
same-refl a = (bytes_eq-Decides a a).1 refl

same-sym : (a b : List ℕ) → bytes_eq a b ≡ bytes_eq b a
same-sym a b = by (bytes_eq a b) (bytes_eq b a) refl refl
  where
    by : (p q : Bool) → bytes_eq a b ≡ p → bytes_eq b a ≡ q → p ≡ q
    by true true e f = refl
    by false false e f = refl
    by true false e f = sym ((bytes_eq-Decides b a).1 (sym ((bytes_eq-Decides a b).0 e))) ∙ f
    by false true e f = sym e ∙ (bytes_eq-Decides a b).1 (sym ((bytes_eq-Decides b a).0 f))

-- the keys with k at their end, unless it is among them
abbrev with_key : List (List ℕ) → List ℕ → List (List ℕ)
with_key ks k = if list_any (bytes_eq k) ks then ks else ks ++ k ∷ []

-- no key is there twice
abbrev Once : List (List ℕ) → Type 0
Once [] = Unit {0}
Once (k ∷ ks) = (list_any (bytes_eq k) ks ≡ false) × Once ks

abbrev without : List ℕ → List (List ℕ) → List (List ℕ)
without j ks = filter (λ x. not (bytes_eq j x)) ks

-- a key is not among the others than itself
any-without_same : (j : List ℕ) (ks : List (List ℕ)) → list_any (bytes_eq j) (without j ks) ≡ false
any-without_same j [] = refl
any-without_same j (x ∷ ks) = by (bytes_eq j x) refl (any-without_same j ks)
  where
    by : (p : Bool) → bytes_eq j x ≡ p → list_any (bytes_eq j) (without j ks) ≡ false → list_any (bytes_eq j) (without j (x ∷ ks)) ≡ false
    by true e ih = ap (λ b. list_any (bytes_eq j) (cond (not b) (x ∷ without j ks) (without j ks))) e ∙ ih
    by false e ih = ap (λ b. list_any (bytes_eq j) (cond (not b) (x ∷ without j ks) (without j ks))) e ∙ ap (λ b. b || list_any (bytes_eq j) (without j ks)) e ∙ ih

-- and another key is among them where it was among all
any-without_other : (k j : List ℕ) (ks : List (List ℕ)) → bytes_eq k j ≡ false → list_any (bytes_eq k) (without j ks) ≡ list_any (bytes_eq k) ks
any-without_other k j [] ne = refl
any-without_other k j (x ∷ ks) ne = by (bytes_eq j x) refl (any-without_other k j ks ne)
  where
    by : (p : Bool) → bytes_eq j x ≡ p → list_any (bytes_eq k) (without j ks) ≡ list_any (bytes_eq k) ks → list_any (bytes_eq k) (without j (x ∷ ks)) ≡ (bytes_eq k x || list_any (bytes_eq k) ks)
    by true e ih =
        ap (λ b. list_any (bytes_eq k) (cond (not b) (x ∷ without j ks) (without j ks))) e ∙ ih
        ∙ ap (λ b. b || list_any (bytes_eq k) ks) (sym (ap (bytes_eq k) (sym ((bytes_eq-Decides j x).0 e)) ∙ ne))
    by false e ih = ap (λ b. list_any (bytes_eq k) (cond (not b) (x ∷ without j ks) (without j ks))) e ∙ ap (λ b. bytes_eq k x || b) ih

any-without_false : (x j : List ℕ) (ks : List (List ℕ)) → list_any (bytes_eq x) ks ≡ false → list_any (bytes_eq x) (without j ks) ≡ false
any-without_false x j ks none = by (bytes_eq x j) refl
  where
    by : (p : Bool) → bytes_eq x j ≡ p → list_any (bytes_eq x) (without j ks) ≡ false
    by true e = ap (λ y. list_any (bytes_eq x) (without y ks)) (sym ((bytes_eq-Decides x j).0 e)) ∙ any-without_same x ks
    by false e = any-without_other x j ks e ∙ none

Once-without : (j : List ℕ) (ks : List (List ℕ)) → Once ks → Once (without j ks)
Once-without j [] o = tt
Once-without j (x ∷ ks) o = by (bytes_eq j x) refl (Once-without j ks o.1)
  where
    by : (p : Bool) → bytes_eq j x ≡ p → Once (without j ks) → Once (without j (x ∷ ks))
    by true e ih = rw e ih
    by false e ih = rw e (any-without_false x j ks o.0, ih)

Once-firsts : (ks : List (List ℕ)) → Once (firsts ks)
Once-firsts [] = tt
Once-firsts (k ∷ ks) = (any-without_same k (firsts ks), Once-without k (firsts ks) (Once-firsts ks))

-- one key more
firsts_more : (ks : List (List ℕ)) (k : List ℕ) → firsts (ks ++ k ∷ []) ≡ with_key (firsts ks) k
firsts_more [] k = refl
firsts_more (j ∷ ks) k = ap (λ l. j ∷ without j l) (firsts_more ks k) ∙ by (bytes_eq k j) (list_any (bytes_eq k) (firsts ks)) refl refl
  where
    by : (p q : Bool) → bytes_eq k j ≡ p → list_any (bytes_eq k) (firsts ks) ≡ q → j ∷ without j (with_key (firsts ks) k) ≡ with_key (j ∷ without j (firsts ks)) k
    by true true e f = ap (λ b. j ∷ without j (if b then firsts ks else firsts ks ++ k ∷ [])) f ∙ sym (ap (λ b. if b || list_any (bytes_eq k) (without j (firsts ks)) then j ∷ without j (firsts ks) else (j ∷ without j (firsts ks)) ++ k ∷ []) e)
    by true false e f =
        ap (λ b. j ∷ without j (if b then firsts ks else firsts ks ++ k ∷ [])) f
        ∙ ap (λ l. j ∷ l) (filter-append (λ x. not (bytes_eq j x)) (firsts ks) (k ∷ [])
        ∙ ap (λ b. without j (firsts ks) ++ cond (not b) (k ∷ []) []) (same-sym j k ∙ e) ∙ append-nil _)
        ∙ sym (ap (λ b. if b || list_any (bytes_eq k) (without j (firsts ks)) then j ∷ without j (firsts ks) else (j ∷ without j (firsts ks)) ++ k ∷ []) e)
    by false true e f =
        ap (λ b. j ∷ without j (if b then firsts ks else firsts ks ++ k ∷ [])) f
        ∙ sym (ap (λ b. if b || list_any (bytes_eq k) (without j (firsts ks)) then j ∷ without j (firsts ks) else (j ∷ without j (firsts ks)) ++ k ∷ []) e
        ∙ ap (λ b. if b then j ∷ without j (firsts ks) else (j ∷ without j (firsts ks)) ++ k ∷ []) (any-without_other k j (firsts ks) e ∙ f))
    by false false e f =
        ap (λ b. j ∷ without j (if b then firsts ks else firsts ks ++ k ∷ [])) f
        ∙ ap (λ l. j ∷ l) (filter-append (λ x. not (bytes_eq j x)) (firsts ks) (k ∷ [])
        ∙ ap (λ b. without j (firsts ks) ++ cond (not b) (k ∷ []) []) (same-sym j k ∙ e))
        ∙ sym (ap (λ b. if b || list_any (bytes_eq k) (without j (firsts ks)) then j ∷ without j (firsts ks) else (j ∷ without j (firsts ks)) ++ k ∷ []) e
        ∙ ap (λ b. if b then j ∷ without j (firsts ks) else (j ∷ without j (firsts ks)) ++ k ∷ []) (any-without_other k j (firsts ks) e ∙ f))

abbrev paired : (List ℕ → Option (List ℕ)) → List (List ℕ) → List Write
paired h ks = map (λ k. (k, h k)) ks

abbrev changed : (List ℕ → Option (List ℕ)) → List ℕ → Option (List ℕ) → List ℕ → Option (List ℕ)
changed h k v j = if bytes_eq k j then v else h j

-- keys among which k isn't keep their values
paired-changed : (h : List ℕ → Option (List ℕ)) (k : List ℕ) (v : Option (List ℕ)) (ks : List (List ℕ)) → list_any (bytes_eq k) ks ≡ false → paired (changed h k v) ks ≡ paired h ks
paired-changed h k v [] none = refl
paired-changed h k v (x ∷ ks) none = by (bytes_eq k x) refl (λ n. paired-changed h k v ks n)
  where
    by : (p : Bool) → bytes_eq k x ≡ p → (list_any (bytes_eq k) ks ≡ false → paired (changed h k v) ks ≡ paired h ks) → paired (changed h k v) (x ∷ ks) ≡ paired h (x ∷ ks)
    by true e ih = absurd (true≢false (sym (ap (λ b. b || list_any (bytes_eq k) ks) e) ∙ none))
    by false e ih =
        ap (λ b. (x, (if b then v else h x)) ∷ paired (changed h k v) ks) e
        ∙ ap (λ l. (x, h x) ∷ l) (ih (sym (ap (λ b. b || list_any (bytes_eq k) ks) e) ∙ none))

insert_entry-paired : (h : List ℕ → Option (List ℕ)) (k : List ℕ) (v : Option (List ℕ)) (ks : List (List ℕ)) → Once ks → insert_entry bytes_eq (paired h ks) k v ≡ paired (changed h k v) (with_key ks k)
insert_entry-paired h k v [] o = ap (λ b. (k, (if b then v else h k)) ∷ []) (sym (same-refl k))
insert_entry-paired h k v (x ∷ ks) o = by (bytes_eq k x) refl (insert_entry-paired h k v ks o.1)
  where
    inner : (q : Bool) → list_any (bytes_eq k) ks ≡ q → paired (changed h k v) (x ∷ with_key ks k) ≡ paired (changed h k v) (if list_any (bytes_eq k) ks then x ∷ ks else (x ∷ ks) ++ k ∷ [])
    inner true f = ap (λ b. paired (changed h k v) (x ∷ (if b then ks else ks ++ k ∷ []))) f ∙ sym (ap (λ b. paired (changed h k v) (if b then x ∷ ks else (x ∷ ks) ++ k ∷ [])) f)
    inner false f = ap (λ b. paired (changed h k v) (x ∷ (if b then ks else ks ++ k ∷ []))) f ∙ sym (ap (λ b. paired (changed h k v) (if b then x ∷ ks else (x ∷ ks) ++ k ∷ [])) f)

    by : (p : Bool) → bytes_eq k x ≡ p → insert_entry bytes_eq (paired h ks) k v ≡ paired (changed h k v) (with_key ks k) → insert_entry bytes_eq (paired h (x ∷ ks)) k v ≡ paired (changed h k v) (with_key (x ∷ ks) k)
    by true e ih =
        ap (λ b. if b then (x, v) ∷ paired h ks else (x, h x) ∷ insert_entry bytes_eq (paired h ks) k v) e
        ∙ ap (λ l. (x, v) ∷ l) (sym (paired-changed h k v ks (ap (λ y. list_any (bytes_eq y) ks) ((bytes_eq-Decides k x).0 e) ∙ o.0)))
        ∙ sym (ap (λ b. (x, (if b then v else h x)) ∷ paired (changed h k v) ks) e)
        ∙ sym (ap (λ b. paired (changed h k v) (if b || list_any (bytes_eq k) ks then x ∷ ks else (x ∷ ks) ++ k ∷ [])) e)
    by false e ih =
        ap (λ b. if b then (x, v) ∷ paired h ks else (x, h x) ∷ insert_entry bytes_eq (paired h ks) k v) e
        ∙ ap (λ l. (x, h x) ∷ l) ih
        ∙ sym (ap (λ b. (x, (if b then v else h x)) ∷ paired (changed h k v) (with_key ks k)) e)
        ∙ inner (list_any (bytes_eq k) ks) refl
        ∙ sym (ap (λ b. paired (changed h k v) (if b || list_any (bytes_eq k) ks then x ∷ ks else (x ∷ ks) ++ k ∷ [])) e)

-- the value that the key has after these writes, from nothing
abbrev held : List ℕ → List Write → Option (List ℕ)
held j ws = value_or_none (last_write j ws)

last_or-append : {A : Type 0} (o : Option A) (xs ys : List A) → last_or o (xs ++ ys) ≡ last_or (last_or o xs) ys
last_or-append o [] ys = refl
last_or-append o (x ∷ xs) ys = last_or-append (Some x) xs ys

last_or-or : {A : Type 0} (o : Option A) (xs : List A) → last_or o xs ≡ option_or (last_or None xs) o
last_or-or o [] = refl
last_or-or {A = A} o (x ∷ xs) = last_or-or (Some x) xs ∙ some_or (last_or None xs) ∙ ap (λ p. option_or p o) (sym (last_or-or (Some x) xs))
  where
    some_or : (p : Option A) → option_or p (Some x) ≡ option_or (option_or p (Some x)) o
    some_or None = refl
    some_or (Some y) = refl

-- the later part's last write, else the earlier part's
pub last_write-append : (j : List ℕ) (a b : List Write) → last_write j (a ++ b) ≡ option_or (last_write j b) (last_write j a)
last_write-append j a b =
    ap (last_or None) (filter_map-append (λ w. written_at j (Some w)) a b)
    ∙ last_or-append None (filter_map (λ w. written_at j (Some w)) a) (filter_map (λ w. written_at j (Some w)) b)
    ∙ last_or-or (last_write j a) (filter_map (λ w. written_at j (Some w)) b)

one_write : (j k : List ℕ) (v : Option (List ℕ)) → last_write j ((k, v) ∷ []) ≡ cond (bytes_eq k j) (Some v) None
one_write j k v = by (bytes_eq k j) refl
  where
    by : (p : Bool) → bytes_eq k j ≡ p → last_or None (cons_option (cond (bytes_eq k j) (Some v) None) []) ≡ cond (bytes_eq k j) (Some v) None
    by true e = ap (λ b. last_or None (cons_option (cond b (Some v) None) [])) e ∙ sym (ap (λ b. cond b (Some v) None) e)
    by false e = ap (λ b. last_or None (cons_option (cond b (Some v) None) [])) e ∙ sym (ap (λ b. cond b (Some v) None) e)

last_write_more : (ws : List Write) (k : List ℕ) (v : Option (List ℕ)) (j : List ℕ) → last_write j (ws ++ (k, v) ∷ []) ≡ cond (bytes_eq k j) (Some v) (last_write j ws)
last_write_more ws k v j = last_write-append j ws ((k, v) ∷ []) ∙ ap (λ p. option_or p (last_write j ws)) (one_write j k v) ∙ by (bytes_eq k j)
  where
    by : (p : Bool) → option_or (cond p (Some v) None) (last_write j ws) ≡ cond p (Some v) (last_write j ws)
    by true = refl
    by false = refl

held_more : (ws : List Write) (k : List ℕ) (v : Option (List ℕ)) (j : List ℕ) → held j (ws ++ (k, v) ∷ []) ≡ changed (λ q. held q ws) k v j
held_more ws k v j = ap value_or_none (last_write_more ws k v j) ∙ by (bytes_eq k j)
  where
    by : (p : Bool) → value_or_none (cond p (Some v) (last_write j ws)) ≡ (if p then v else held j ws)
    by true = refl
    by false = refl

paired-ext : (f h : List ℕ → Option (List ℕ)) (ks : List (List ℕ)) → ((j : List ℕ) → list_any (bytes_eq j) ks ≡ true → f j ≡ h j) → paired f ks ≡ paired h ks
paired-ext f h [] same = refl
paired-ext f h (k ∷ ks) same =
    ap (λ v. (k, v) ∷ paired f ks) (same k (ap (λ b. b || list_any (bytes_eq k) ks) (same-refl k)))
    ∙ ap (λ l. (k, h k) ∷ l) (paired-ext f h ks (λ j e. same j (ap (λ b. bytes_eq j k || b) e ∙ or_true (bytes_eq j k))))
  where
    or_true : (p : Bool) → (p || true) ≡ true
    or_true true = refl
    or_true false = refl

-- one write more
pub settled_more : (ws : List Write) (k : List ℕ) (v : Option (List ℕ)) → settled (ws ++ (k, v) ∷ []) ≡ insert_entry bytes_eq (settled ws) k v
settled_more ws k v =
    paired-ext (λ j. held j (ws ++ (k, v) ∷ [])) (changed (λ j. held j ws) k v) (firsts (map (λ x. x.0) (ws ++ (k, v) ∷ []))) (λ j e. held_more ws k v j)
    ∙ ap (λ l. paired (changed (λ j. held j ws) k v) (firsts l)) (map-append (λ (x : Write). x.0) ws ((k, v) ∷ []))
    ∙ ap (paired (changed (λ j. held j ws) k v)) (firsts_more (map (λ x. x.0) ws) k)
    ∙ sym (insert_entry-paired (λ j. held j ws) k v (firsts (map (λ x. x.0) ws)) (Once-firsts (map (λ x. x.0) ws)))

apart : (k : List ℕ) (ks : List (List ℕ)) → list_any (bytes_eq k) ks ≡ false → without k ks ≡ ks
apart k [] none = refl
apart k (x ∷ ks) none = by (bytes_eq k x) refl (apart k ks)
  where
    by : (p : Bool) → bytes_eq k x ≡ p → (list_any (bytes_eq k) ks ≡ false → without k ks ≡ ks) → without k (x ∷ ks) ≡ x ∷ ks
    by true e ih = absurd (true≢false (sym (ap (λ b. b || list_any (bytes_eq k) ks) e) ∙ none))
    by false e ih = ap (λ b. cond (not b) (x ∷ without k ks) (without k ks)) e ∙ ap (λ l. x ∷ l) (ih (sym (ap (λ b. b || list_any (bytes_eq k) ks) e) ∙ none))

firsts_once : (ks : List (List ℕ)) → Once ks → firsts ks ≡ ks
firsts_once [] o = refl
firsts_once (k ∷ ks) o = ap (λ l. k ∷ without k l) (firsts_once ks o.1) ∙ ap (λ l. k ∷ l) (apart k ks o.0)

last_paired : (h : List ℕ → Option (List ℕ)) (j : List ℕ) (ks : List (List ℕ)) (o : Option (Option (List ℕ))) → last_or o (filter_map (λ w. written_at j (Some w)) (paired h ks)) ≡ cond (list_any (bytes_eq j) ks) (Some (h j)) o
last_paired h j [] o = refl
last_paired h j (x ∷ ks) o = by (bytes_eq x j) refl (last_paired h j ks)
  where
    same : (b : Bool) → cond b (Some (h j)) (Some (h j)) ≡ cond true (Some (h j)) o
    same true = refl
    same false = refl

    by : (p : Bool) → bytes_eq x j ≡ p → ((o : Option (Option (List ℕ))) → last_or o (filter_map (λ w. written_at j (Some w)) (paired h ks)) ≡ cond (list_any (bytes_eq j) ks) (Some (h j)) o)
        → last_or o (cons_option (cond (bytes_eq x j) (Some (h x)) None) (filter_map (λ w. written_at j (Some w)) (paired h ks))) ≡ cond (bytes_eq j x || list_any (bytes_eq j) ks) (Some (h j)) o
    by true e ih =
        ap (λ b. last_or o (cons_option (cond b (Some (h x)) None) (filter_map (λ w. written_at j (Some w)) (paired h ks)))) e
        ∙ ih (Some (h x)) ∙ ap (λ y. cond (list_any (bytes_eq j) ks) (Some (h j)) (Some (h y))) ((bytes_eq-Decides x j).0 e) ∙ same (list_any (bytes_eq j) ks)
        ∙ sym (ap (λ b. cond (b || list_any (bytes_eq j) ks) (Some (h j)) o) (same-sym j x ∙ e))
    by false e ih =
        ap (λ b. last_or o (cons_option (cond b (Some (h x)) None) (filter_map (λ w. written_at j (Some w)) (paired h ks)))) e
        ∙ ih o ∙ sym (ap (λ b. cond (b || list_any (bytes_eq j) ks) (Some (h j)) o) (same-sym j x ∙ e))

keys_paired : (h : List ℕ → Option (List ℕ)) (ks : List (List ℕ)) → map (λ (w : Write). w.0) (paired h ks) ≡ ks
keys_paired h [] = refl
keys_paired h (k ∷ ks) = ap (λ l. k ∷ l) (keys_paired h ks)

paired_settled : (h : List ℕ → Option (List ℕ)) (ks : List (List ℕ)) → Once ks → settled (paired h ks) ≡ paired h ks
paired_settled h ks o =
    ap (λ l. paired (λ j. held j (paired h ks)) (firsts l)) (keys_paired h ks)
    ∙ ap (paired (λ j. held j (paired h ks))) (firsts_once ks o)
    ∙ paired-ext (λ j. held j (paired h ks)) h ks (λ j e. ap value_or_none (last_paired h j ks None ∙ ap (λ b. cond b (Some (h j)) None) e))

-- settled writes are settled
pub settled_twice : (ws : List Write) → settled (settled ws) ≡ settled ws
settled_twice ws = paired_settled (λ j. held j ws) (firsts (map (λ x. x.0) ws)) (Once-firsts (map (λ x. x.0) ws))

-- what is settled first may be settled with the rest
pub settled_then : (ws : List Write) (o : Option Write) → option_map_or (λ w. settled (settled ws ++ w ∷ [])) o (settled ws) ≡ settled (ws ++ option_to_list o)
settled_then ws None = ap settled (sym (append-nil ws))
settled_then ws (Some (k, v)) = settled_more (settled ws) k v ∙ ap (λ es. insert_entry bytes_eq es k v) (settled_twice ws) ∙ sym (settled_more ws k v)

-- an entry that is inserted is found
lookup-insert : (es : List Write) (k : List ℕ) (v : Option (List ℕ)) (q : List ℕ) → lookup (bytes_eq q) (insert_entry bytes_eq es k v) ≡ cond (bytes_eq k q) (Some v) (lookup (bytes_eq q) es)
lookup-insert [] k v q = ap (λ b. cond b (Some v) None) (same-sym q k)
lookup-insert (e ∷ es) k v q = by (bytes_eq k e.0) refl (lookup-insert es k v q)
  where
    hit : (p : Bool) → cond p (Some v) (lookup (bytes_eq q) es) ≡ cond p (Some v) (cond p (Some e.1) (lookup (bytes_eq q) es))
    hit true = refl
    hit false = refl

    miss : (p r : Bool) → bytes_eq k q ≡ p → bytes_eq q e.0 ≡ r → bytes_eq k e.0 ≡ false → cond r (Some e.1) (cond p (Some v) (lookup (bytes_eq q) es)) ≡ cond p (Some v) (cond r (Some e.1) (lookup (bytes_eq q) es))
    miss true true a b c = absurd (true≢false (sym b ∙ ap (λ y. bytes_eq y e.0) (sym ((bytes_eq-Decides k q).0 a)) ∙ c))
    miss true false a b c = refl
    miss false true a b c = refl
    miss false false a b c = refl

    by : (p : Bool) → bytes_eq k e.0 ≡ p → lookup (bytes_eq q) (insert_entry bytes_eq es k v) ≡ cond (bytes_eq k q) (Some v) (lookup (bytes_eq q) es)
        → lookup (bytes_eq q) (insert_entry bytes_eq (e ∷ es) k v) ≡ cond (bytes_eq k q) (Some v) (cond (bytes_eq q e.0) (Some e.1) (lookup (bytes_eq q) es))
    by true a ih =
        ap (λ b. lookup (bytes_eq q) (if b then (e.0, v) ∷ es else e ∷ insert_entry bytes_eq es k v)) a
        ∙ ap (λ b. cond b (Some v) (lookup (bytes_eq q) es)) (there a)
        ∙ hit (bytes_eq k q)
        ∙ ap (λ b. cond (bytes_eq k q) (Some v) (cond b (Some e.1) (lookup (bytes_eq q) es))) (sym (there a))
      where
        there : bytes_eq k e.0 ≡ true → bytes_eq q e.0 ≡ bytes_eq k q
        there z = ap (bytes_eq q) (sym ((bytes_eq-Decides k e.0).0 z)) ∙ same-sym q k
    by false a ih =
        ap (λ b. lookup (bytes_eq q) (if b then (e.0, v) ∷ es else e ∷ insert_entry bytes_eq es k v)) a
        ∙ ap (cond (bytes_eq q e.0) (Some e.1)) ih
        ∙ miss (bytes_eq k q) (bytes_eq q e.0) refl refl a

lookup_first : (ws : List Write) (i : ℕ) (q : List ℕ) → i ≤ length ws → lookup (bytes_eq q) (settled (take i ws)) ≡ last_write q (take i ws)
lookup_first ws zero q h = refl
lookup_first ws (suc i) q h =
    let w : Write = get_or ws i ([], None) in
    let e : take (suc i) ws ≡ take i ws ++ (w.0, w.1) ∷ [] = rw (← add-one) (take_more ws i ([], None) (omega arith)) in
    ap (λ l. lookup (bytes_eq q) (settled l)) e
    ∙ ap (lookup (bytes_eq q)) (settled_more (take i ws) w.0 w.1)
    ∙ lookup-insert (settled (take i ws)) w.0 w.1 q
    ∙ ap (cond (bytes_eq w.0 q) (Some w.1)) (lookup_first ws i q (omega arith))
    ∙ sym (ap (last_write q) e ∙ last_write_more (take i ws) w.0 w.1 q)

-- a key's entry is its last write
pub lookup_settled : (ws : List Write) (q : List ℕ) → lookup (bytes_eq q) (settled ws) ≡ last_write q ws
lookup_settled ws q =
    let e : take (length ws) ws ≡ ws = take-length ws in
    sym (ap (λ l. lookup (bytes_eq q) (settled l)) e) ∙ lookup_first ws (length ws) q (omega arith) ∙ ap (last_write q) e

-- where writes are settled, a key's entry is its last write
pub lookup_last : (es : List Write) (q : List ℕ) → settled es ≡ es → lookup (bytes_eq q) es ≡ last_write q es
lookup_last es q s = ap (lookup (bytes_eq q)) (sym s) ∙ lookup_settled es q

-- an entry that is put among settled writes is one write more
pub put_one : (es new : List Write) (k : List ℕ) (v : Option (List ℕ)) → settled es ≡ es → new ≡ insert_entry bytes_eq es k v → new ≡ settled (es ++ (k, v) ∷ [])
put_one es new k v s e = e ∙ ap (λ z. insert_entry bytes_eq z k v) (sym s) ∙ sym (settled_more es k v)

-- and the writes are settled again
pub put_settled : (es new : List Write) (k : List ℕ) (v : Option (List ℕ)) → settled es ≡ es → new ≡ insert_entry bytes_eq es k v → settled new ≡ new
put_settled es new k v s e =
    let one : new ≡ settled (es ++ (k, v) ∷ []) = put_one es new k v s e in
    ap settled one ∙ settled_twice (es ++ (k, v) ∷ []) ∙ sym one

-- settling keeps what the last write of a key leaves
pub last_settled : (ws : List Write) (q : List ℕ) → last_write q (settled ws) ≡ last_write q ws
last_settled ws q = sym (lookup_last (settled ws) q (settled_twice ws)) ∙ lookup_settled ws q

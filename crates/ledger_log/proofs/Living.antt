-- Walks over the operations that count.
use Rattle.std.proofs.Common.{◌≡◌, ℕ, zero, suc, ◌+◌, ◌-◌, ◌<◌, ◌≤◌, ◌⊎◌, inl, inr, Bool, true, false, cond, nat_le, List, [], ◌∷◌, ◌++◌, length, take, drop, map, filter, Option, Some, None, refl, sym, ap, subst, ◌∙◌, bytes_eq, arith, append_assoc}
use Rattle.std.specs.Prelude.{is_some, is_none, max}
use Rattle.std.specs.List.{take-map}
use Rattle.std.specs.BTreeMap.{BTreeMap}
use Rattle.std.proofs.lemmas.Slice.Eq.{bytes_eq-Decides}
use Rattle.std.proofs.lemmas.List.{take-append-drop, length-take-le, length-append, append-nil, drop_all, take_at, take_all}
use Rattle.std.proofs.lemmas.Bool.Decides.{nat_tests}
use Rattle.ledger_log.specs.View.{LogView, log_size, key_written, value_written}
use Rattle.ledger_log.specs.Index.{writes_key, place_after, end_after, last_write, IsIndex}
use Rattle.ledger_log.specs.Active.{counts, living, living_from, active, active_from}
use Rattle.ledger_merkle.proofs.Trees.{below_or_not}
use Rattle.ledger_log.proofs.Indexing.{place_in_two, last_write-append}

-- a write of this key and this value
pub write_is : (o : Option (List ℕ × Option (List ℕ))) (k v : List ℕ) → key_written o ≡ Some k → value_written o ≡ Some v → o ≡ Some (k, Some v)
write_is None k v e h = absurd cc
write_is (Some (key, value)) k v e h = let a : key ≡ k = cc in let b : value ≡ Some v = h in ap (λ z. Some (z, value)) a ∙ ap (λ z. Some (k, z)) b

-- no operation stands at or below the front
pub none_later : (size n : ℕ) (o : Option ℕ) → n ≤ size → n ≡ end_after size 0 o → o ≡ None
none_later size n None l e = refl
none_later size n (Some j) l e = absurd (omega arith)

module _ {Op : Type 0} (w : Op → Option (List ℕ × Option (List ℕ))) where
  -- a write is one of its own key
  own_key : (x : Op) (k : List ℕ) (v : Option (List ℕ)) → w x ≡ Some (k, v) → writes_key k (w x) ≡ true
  own_key x k v e = ap (writes_key k) e ∙ ap (λ b. is_some (cond b (Some v) None)) ((bytes_eq-Decides k k).1 refl)

  -- the last write in a list with a write of the key in it
  last_around : (xs ys : List Op) (x : Op) (k : List ℕ) (v : Option (List ℕ)) → w x ≡ Some (k, v) →
      last_write w k (xs ++ x ∷ ys) ≡ place_in_two (length xs) (last_write w k xs) (place_after true (last_write w k ys))
  last_around xs ys x k v e =
      last_write-append w k xs (x ∷ ys) ∙ ap (λ b. place_in_two (length xs) (last_write w k xs) (place_after b (last_write w k ys))) (own_key x k v e)

  module _ (front at : ℕ) (L : List Op) (x : Op) (k v : List ℕ) (end : ℕ) (least : front ≤ at) (most : at - front < length L)
      (here : drop (at - front) L ≡ x ∷ drop (at - front + 1) L) (write : w x ≡ Some (k, Some v)) (ends : end ≡ end_after front 0 (last_write w k L)) where
    rest : List Op
    rest = drop (at - front + 1) L

    whole : L ≡ take (at - front) L ++ x ∷ drop (at - front + 1) L
    whole = sym (take-append-drop (at - front) L) ∙ ap (λ z. take (at - front) L ++ z) here

    placed : last_write w k L ≡ place_in_two (at - front) (last_write w k (take (at - front) L)) (place_after true (last_write w k (drop (at - front + 1) L)))
    placed =
        ap (last_write w k) whole
        ∙ (last_around (take (at - front) L) (drop (at - front + 1) L) x k (Some v) write
        ∙ ap (λ n. place_in_two n (last_write w k (take (at - front) L)) (place_after true (last_write w k (drop (at - front + 1) L)))) (length-take-le (at - front) L (omega arith)))

    next : drop (at - front + 1) L ≡ drop (at + 1 - front) L
    next = let n : at - front + 1 ≡ at + 1 - front = omega arith in ap (λ i. drop i L) n

    step : living w at (drop (at - front) L) ≡ cond (is_none (last_write w k (drop (at - front + 1) L))) ((at, x) ∷ living w (at + 1) (drop (at - front + 1) L)) (living w (at + 1) (drop (at - front + 1) L))
    step =
        ap (living w at) here
        ∙ ap (λ o. cond (counts w o (drop (at - front + 1) L)) ((at, x) ∷ living w (at + 1) (drop (at - front + 1) L)) (living w (at + 1) (drop (at - front + 1) L))) write

    pub counted : end ≡ at + 1 → living w at (drop (at - front) L) ≡ (at, x) ∷ living w (at + 1) (drop (at + 1 - front) L)
    counted h = step ∙ (by (last_write w k (drop (at - front + 1) L)) refl ∙ ap (λ l. (at, x) ∷ living w (at + 1) l) next) where
      by : (o : Option ℕ) → last_write w k (drop (at - front + 1) L) ≡ o →
          cond (is_none o) ((at, x) ∷ living w (at + 1) (drop (at - front + 1) L)) (living w (at + 1) (drop (at - front + 1) L)) ≡ (at, x) ∷ living w (at + 1) (drop (at - front + 1) L)
      by None e = refl
      by (Some j) e =
          let z : end ≡ front + (at - front + suc j) + 1 = ends ∙ ap (end_after front 0) (placed ∙ ap (λ o. place_in_two (at - front) (last_write w k (take (at - front) L)) (place_after true o)) e) in
          absurd (omega arith)

    pub uncounted : (end ≡ at + 1 → ⊥) → living w at (drop (at - front) L) ≡ living w (at + 1) (drop (at + 1 - front) L)
    uncounted h = step ∙ (by (last_write w k (drop (at - front + 1) L)) refl ∙ ap (living w (at + 1)) next) where
      by : (o : Option ℕ) → last_write w k (drop (at - front + 1) L) ≡ o →
          cond (is_none o) ((at, x) ∷ living w (at + 1) (drop (at - front + 1) L)) (living w (at + 1) (drop (at - front + 1) L)) ≡ living w (at + 1) (drop (at - front + 1) L)
      by None e =
          let z : end ≡ front + (at - front + 0) + 1 = ends ∙ ap (end_after front 0) (placed ∙ ap (λ o. place_in_two (at - front) (last_write w k (take (at - front) L)) (place_after true o)) e) in
          absurd (h (omega arith))
      by (Some j) e = refl

  -- the place behind a key's last operation in a list of two parts
  module _ (front size n m : ℕ) (k : List ℕ) (xs ys : List Op) (is : size ≡ front + length xs) where
    both : (o p : Option ℕ) → last_write w k xs ≡ o → last_write w k ys ≡ p → end_after front 0 (last_write w k (xs ++ ys)) ≡ end_after front 0 (place_in_two (length xs) o p)
    both o p e f = ap (end_after front 0) (last_write-append w k xs ys ∙ (ap (λ z. place_in_two (length xs) z (last_write w k ys)) e ∙ ap (place_in_two (length xs) o) f))

    pub end_later : size < n → n ≡ end_after size 0 (last_write w k ys) → n ≡ end_after front 0 (last_write w k (xs ++ ys))
    end_later l e = by (last_write w k ys) refl where
      by : (p : Option ℕ) → last_write w k ys ≡ p → n ≡ end_after front 0 (last_write w k (xs ++ ys))
      by None f = absurd (let z : n ≡ 0 = e ∙ ap (end_after size 0) f in omega arith)
      by (Some j) f = let z : n ≡ size + j + 1 = e ∙ ap (end_after size 0) f in let t : n ≡ front + (length xs + j) + 1 = omega arith in t ∙ sym (both (last_write w k xs) (Some j) refl f)

    pub end_earlier : m ≡ end_after front 0 (last_write w k xs) → last_write w k ys ≡ None → m ≡ end_after front 0 (last_write w k (xs ++ ys))
    end_earlier e f = e ∙ sym (both (last_write w k xs) None refl f)

-- what stands at or above a place
abbrev above : {Op : Type 0} → ℕ → List (ℕ × Op) → List (ℕ × Op)
above loc es = filter (λ e. nat_le loc e.0) es

-- the places of what stands at or above a place
map-above : {Op : Type 0} (loc : ℕ) (es : List (ℕ × Op)) → map (λ e. e.0) (above loc es) ≡ filter (nat_le loc) (map (λ e. e.0) es)
map-above loc [] = refl
map-above loc (x ∷ es) = by (nat_le loc x.0) (map-above loc es) where
  by : (b : Bool) → map (λ e. e.0) (above loc es) ≡ filter (nat_le loc) (map (λ e. e.0) es) →
      map (λ e. e.0) (cond b (x ∷ above loc es) (above loc es)) ≡ cond b (x.0 ∷ filter (nat_le loc) (map (λ e. e.0) es)) (filter (nat_le loc) (map (λ e. e.0) es))
  by true h = ap (λ l. x.0 ∷ l) h
  by false h = h

module _ {Op : Type 0} (w : Op → Option (List ℕ × Option (List ℕ))) where
  -- what counts from a place on stands at or above it
  all_above : (loc start : ℕ) (xs : List Op) → loc ≤ start → above loc (living w start xs) ≡ living w start xs
  all_above loc start [] l = refl
  all_above loc start (x ∷ xs) l = by (counts w (w x) xs) (all_above loc (start + 1) xs (omega arith)) where
    by : (b : Bool) → above loc (living w (start + 1) xs) ≡ living w (start + 1) xs →
        above loc (cond b ((start, x) ∷ living w (start + 1) xs) (living w (start + 1) xs)) ≡ cond b ((start, x) ∷ living w (start + 1) xs) (living w (start + 1) xs)
    by true h =
        let t : nat_le loc start ≡ true = grind (arith, nat_tests) in
        ap (λ b. cond b ((start, x) ∷ above loc (living w (start + 1) xs)) (above loc (living w (start + 1) xs))) t ∙ ap (λ l. (start, x) ∷ l) h
    by false h = h

  -- what stands below is left out
  pub above_from : (loc start n : ℕ) (xs : List Op) → loc ≡ start + n → above loc (living w start xs) ≡ living w loc (drop n xs)
  above_from loc start zero xs e = let same : loc ≡ start = omega arith in all_above loc start xs (omega arith) ∙ ap (λ k. living w k xs) (sym same)
  above_from loc start (suc n) [] e = refl
  above_from loc start (suc n) (x ∷ xs) e = by (counts w (w x) xs) ∙ above_from loc (start + 1) n xs (omega arith) where
    by : (b : Bool) → above loc (cond b ((start, x) ∷ living w (start + 1) xs) (living w (start + 1) xs)) ≡ above loc (living w (start + 1) xs)
    by true = let t : nat_le loc start ≡ false = grind (arith, nat_tests) in ap (λ b. cond b ((start, x) ∷ above loc (living w (start + 1) xs)) (above loc (living w (start + 1) xs))) t
    by false = refl

  -- what was found up to a place, with what is still to come
  pub record Walked (log : LogView Op) (more : List Op) (loc limit end : ℕ) (later : BTreeMap (List ℕ) ℕ) (at : ℕ) (found : List (ℕ × Op)) : Type 0 where
    pub least : log.front ≤ at
    pub last : end ≡ log_size log + length more
    pub few : length found ≤ limit
    pub index : IsIndex w later (log_size log) more
    pub all : take limit (found ++ living w at (drop (at - log.front) (log.ops ++ more))) ≡ take limit (living_from w log more loc)

  module _ (log : LogView Op) (more : List Op) (loc limit end : ℕ) (later : BTreeMap (List ℕ) ℕ) where
    -- the walk begins at the front, or above it
    pub walk_begins : (at : ℕ) → at ≡ max loc log.front → end ≡ log_size log + length more → IsIndex w later (log_size log) more → Walked log more loc limit end later at []
    walk_begins at e h i = record {
      least = subst (λ n. log.front ≤ n) (sym e) (grind (arith, nat_tests));
      last = h;
      few = omega arith;
      index = i;
      all = ap (take limit) (sym (elim (below_or_not loc log.front) [
        | inl l ↦ low l
        | inr l ↦ high l
      ]));
    } where
      low : loc ≤ log.front → living_from w log more loc ≡ living w at (drop (at - log.front) (log.ops ++ more))
      low l =
          let same : at ≡ log.front = e ∙ grind (arith, nat_tests) in
          let none : at - log.front ≡ 0 = omega arith in
          all_above loc log.front (log.ops ++ more) l ∙ (ap (λ k. living w k (log.ops ++ more)) (sym same) ∙ ap (λ k. living w at (drop k (log.ops ++ more))) (sym none))

      high : log.front < loc → living_from w log more loc ≡ living w at (drop (at - log.front) (log.ops ++ more))
      high l =
          let same : at ≡ loc = e ∙ grind (arith, nat_tests) in
          above_from loc log.front (loc - log.front) (log.ops ++ more) (omega arith) ∙ ap (λ k. living w k (drop (k - log.front) (log.ops ++ more))) (sym same)

    -- one place on
    pub walk_on : (at : ℕ) (old new : List (ℕ × Op)) → Walked log more loc limit end later at old → length old < limit → length new ≤ length old + 1 →
        new ++ living w (at + 1) (drop (at + 1 - log.front) (log.ops ++ more)) ≡ old ++ living w at (drop (at - log.front) (log.ops ++ more)) → Walked log more loc limit end later (at + 1) new
    walk_on at old new k h f e = record {
      least = omega (arith, k.least);
      last = k.last;
      few = omega (arith, h, f);
      index = k.index;
      all = ap (take limit) e ∙ k.all;
    }

    -- the walk ends where enough was found, or behind all
    pub walk_ends : (at : ℕ) (found : List (ℕ × Op)) → Walked log more loc limit end later at found → (limit ≤ length found) ⊎ (end ≤ at) → found ≡ take limit (living_from w log more loc)
    walk_ends at found k (inl h) =
        sym (take_at found (living w at (drop (at - log.front) (log.ops ++ more))) limit (omega (arith, k.few, h))) ∙ k.all
    walk_ends at found k (inr h) =
        let none : drop (at - log.front) (log.ops ++ more) ≡ [] = drop_all (at - log.front) (log.ops ++ more) (omega (arith, length-append log.ops more, k.last, k.least, h)) in
        sym (take_all limit found k.few) ∙ (ap (take limit) (sym (append-nil found) ∙ ap (λ l. found ++ living w at l) (sym none)) ∙ k.all)

  -- the places of what was found
  pub places_from : (log : LogView Op) (loc limit : ℕ) (found : List (ℕ × Op)) → found ≡ take limit (living_from w log [] loc) → map (λ e. e.0) found ≡ take limit (active_from w log loc)
  places_from log loc limit found e =
      ap (map (λ e. e.0)) (e ∙ ap (λ l. take limit (above loc (living w log.front l))) (append-nil log.ops))
      ∙ (sym (take-map (λ (e : ℕ × Op). e.0) limit (above loc (living w log.front log.ops)))
      ∙ ap (take limit) (map-above loc (living w log.front log.ops)))

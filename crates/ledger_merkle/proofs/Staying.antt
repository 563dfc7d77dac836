-- A list that drops its first leaves keeps each subtree from its new front on, and so each proof.
use Rattle.std.proofs.Common.{◌≡◌, ℕ, zero, suc, ◌+◌, ◌-◌, ◌*◌, ◌/◌, ◌%◌, ◌^◌, ◌<◌, ◌≤◌, Bool, true, false, List, [], ◌∷◌, ◌++◌, length, get_or, take, drop, reverse, refl, sym, ap, ◌∙◌, inl, inr, arith}
use Rattle.std.specs.Int.RustNames.{count_ones}
use Rattle.std.proofs.lemmas.List.{get_or-drop, length-reverse, length-take-le}
use Rattle.std.proofs.lemmas.Bool.{cases_eq}
use Rattle.std.proofs.Math.Pow.{pow_pos}
use Rattle.std.proofs.Math.Seq.{take-add}
use Rattle.ledger_merkle.specs.Range.{is_outside}
use Rattle.ledger_merkle.specs.Leaves.{ListView, pushed, peaks_at, list_size}
use Rattle.ledger_merkle.specs.Levels.{nodes, tree, perfect_below, outside_of, outside_below, proof_digests, without, KeptFrom}
use Rattle.ledger_merkle.proofs.Joining.{parity}
use Rattle.ledger_merkle.proofs.Trees.{below_or_not, when_false}
use Rattle.ledger_merkle.proofs.Kept.{kept_is}
use Rattle.ledger_merkle.proofs.Completeness.{past}
use Rattle.ledger_merkle.proofs.Pruned.{pruned_count, pruned_size, pruned_level, pushed-append}
use Rattle.ledger_merkle.proofs.Peaked.{begins, perfect_odd, perfect_even, perfect_all, peaks_are, outside_odd, outside_even, outside_end, outside_one, outside_all, peak_room, child_room, left_place, right_place, quotients}

first_of : (x y : List ℕ) (xs ys : List (List ℕ)) → x ∷ xs ≡ y ∷ ys → x ≡ y
first_of x y xs ys e = cc

rest_of_equal : (x y : List ℕ) (xs ys : List (List ℕ)) → x ∷ xs ≡ y ∷ ys → xs ≡ ys
rest_of_equal x y xs ys e = cc

-- equal peaks are equal subtrees
peak_same : (t u : ℕ → ℕ → List ℕ) (m h k : ℕ) → k < h → m / 2 ^ k % 2 ≡ 1 → perfect_below t m h (begins m h) ≡ perfect_below u m h (begins m h) →
    t k ((m / 2 ^ k - 1) * 2 ^ k) ≡ u k ((m / 2 ^ k - 1) * 2 ^ k)
peak_same t u m zero k l o e = absurd (omega arith)
peak_same t u m (suc h) k l o e =
    elim (parity (m / 2 ^ h)) [
      | inl z ↦
          elim (cases_eq k h) [
            | inl s ↦ absurd (let same : m / 2 ^ k % 2 ≡ m / 2 ^ h % 2 = ap (λ i. m / 2 ^ i % 2) s in omega arith)
            | inr n ↦ peak_same t u m h k (omega arith) o (sym (perfect_even t m (suc h) h refl z) ∙ (e ∙ perfect_even u m (suc h) h refl z))
          ]
      | inr w ↦
          let both = sym (perfect_odd t m (suc h) h refl w) ∙ (e ∙ perfect_odd u m (suc h) h refl w) in
          elim (cases_eq k h) [
            | inl s ↦
                ap (λ i. t i ((m / 2 ^ i - 1) * 2 ^ i)) s
                ∙ (first_of (t h ((m / 2 ^ h - 1) * 2 ^ h)) (u h ((m / 2 ^ h - 1) * 2 ^ h)) (perfect_below t m h (begins m h)) (perfect_below u m h (begins m h)) both
                ∙ sym (ap (λ i. u i ((m / 2 ^ i - 1) * 2 ^ i)) s))
            | inr n ↦
                peak_same t u m h k (omega arith) o
                (rest_of_equal (t h ((m / 2 ^ h - 1) * 2 ^ h)) (u h ((m / 2 ^ h - 1) * 2 ^ h)) (perfect_below t m h (begins m h)) (perfect_below u m h (begins m h)) both)
          ]
    ]

module _ (hash : List ℕ → List ℕ) (v : ListView) (loc : ℕ) (c : length v.pinned ≡ count_ones v.front) (l : v.front ≤ loc) (m : loc ≤ list_size v) (most : list_size v ≤ 2 ^ 62) where
  abbrev old_tree : ℕ → ℕ → List ℕ
  old_tree = tree hash (reverse v.pinned) v.front v.leaves

  abbrev new_tree : ℕ → ℕ → List ℕ
  new_tree = tree hash (reverse (peaks_at hash v loc)) loc (drop (loc - v.front) v.leaves)

  new_pins : length (peaks_at hash v loc) ≡ count_ones loc
  new_pins = pruned_count hash v loc c l m

  new_size : loc + length (drop (loc - v.front) v.leaves) ≡ list_size v
  new_size = pruned_size hash v loc c l m

  -- at the new front the peaks are those that are pinned
  front_peaks : peaks_at hash (without hash loc v) loc ≡ peaks_at hash v loc
  front_peaks = let none : loc - loc ≡ 0 = omega arith in ap (λ i. pushed hash loc (peaks_at hash v loc) (take i (drop (loc - v.front) v.leaves))) none

  same_peaks : perfect_below new_tree loc 63 (begins loc 63) ≡ perfect_below old_tree loc 63 (begins loc 63)
  same_peaks =
      perfect_all new_tree loc (omega arith)
      ∙ (sym (peaks_are hash (without hash loc v) loc new_pins (omega arith) (omega (arith, new_size)) (omega arith))
      ∙ (front_peaks
      ∙ (peaks_are hash v loc c l m (omega arith) ∙ sym (perfect_all old_tree loc (omega arith)))))

  -- a node that is kept or pinned is the same subtree
  tree_kept : (h j : ℕ) → h < 63 → (j + 1) * 2 ^ h ≤ list_size v → loc / 2 ^ h / 2 ≤ j / 2 → new_tree h (j * 2 ^ h) ≡ old_tree h (j * 2 ^ h)
  tree_kept h j b whole near =
      elim (below_or_not (loc / 2 ^ h) j) [
        | inl a ↦
            let low : v.front / 2 ^ h ≤ loc / 2 ^ h = quotients v.front loc (2 ^ h) (pow_pos h) l in
            let index : (loc / 2 ^ h - v.front / 2 ^ h) + (j - loc / 2 ^ h) ≡ j - v.front / 2 ^ h = omega arith in
            let old = nodes hash (reverse v.pinned) v.front v.leaves h in
            sym (kept_is hash h (reverse (peaks_at hash v loc)) loc j (drop (loc - v.front) v.leaves) (length-reverse (peaks_at hash v loc) ∙ new_pins) a (omega (arith, new_size)))
            ∙ (ap (λ z. get_or z (j - loc / 2 ^ h) []) (pruned_level hash v loc c l m (omega arith) h)
            ∙ (get_or-drop (loc / 2 ^ h - v.front / 2 ^ h) old (j - loc / 2 ^ h) []
            ∙ (ap (λ i. get_or old i []) index
            ∙ kept_is hash h (reverse v.pinned) v.front j v.leaves (length-reverse v.pinned ∙ c) (omega arith) whole)))
        | inr a ↦
            let odd : loc / 2 ^ h % 2 ≡ 1 = omega arith in
            let here : loc / 2 ^ h - 1 ≡ j = omega arith in
            ap (λ i. new_tree h (i * 2 ^ h)) (sym here) ∙ (peak_same new_tree old_tree loc 63 h b odd same_peaks ∙ ap (λ i. old_tree h (i * 2 ^ h)) here)
      ]

  module _ (s e : ℕ) (least : loc ≤ s) where
    one_kept : (h a : ℕ) (b : Bool) → is_outside s e h a ≡ b → (b ≡ true → new_tree h a ≡ old_tree h a) →
        (b ≡ false → outside_of new_tree s e h a ≡ outside_of old_tree s e h a) → outside_of new_tree s e h a ≡ outside_of old_tree s e h a
    one_kept h a true i f g = outside_one new_tree s e h a i ∙ (ap (λ x. x ∷ []) (f refl) ∙ sym (outside_one old_tree s e h a i))
    one_kept h a false i f g = g refl

    -- what a node gives to a proof
    node_kept : (h j : ℕ) → h < 63 → (j + 1) * 2 ^ h ≤ list_size v → loc / 2 ^ h / 2 ≤ j / 2 → outside_of new_tree s e h (j * 2 ^ h) ≡ outside_of old_tree s e h (j * 2 ^ h)
    unfolding outside_of
    node_kept zero j b whole near =
        one_kept 0 (j * 2 ^ 0) (is_outside s e 0 (j * 2 ^ 0)) refl (λ _. tree_kept 0 j b whole near)
        (λ i. when_false (is_outside s e 0 (j * 2 ^ 0)) (new_tree 0 (j * 2 ^ 0) ∷ []) [] i ∙ sym (when_false (is_outside s e 0 (j * 2 ^ 0)) (old_tree 0 (j * 2 ^ 0) ∷ []) [] i))
    node_kept (suc h) j b whole near =
        let a = j * 2 ^ suc h in
        one_kept (suc h) a (is_outside s e (suc h) a) refl (λ _. tree_kept (suc h) j b whole near)
        (λ i.
        let room = child_room (suc h) h j (list_size v) loc s refl whole least (past s e (suc h) a i) in
        when_false (is_outside s e (suc h) a) (new_tree (suc h) a ∷ []) (outside_of new_tree s e h a ++ outside_of new_tree s e h (a + 2 ^ h)) i
        ∙ (ap (λ x. outside_of new_tree s e h x ++ outside_of new_tree s e h (a + 2 ^ h)) (sym (left_place (suc h) h j refl))
        ∙ (ap (λ x. outside_of new_tree s e h (2 * j * 2 ^ h) ++ outside_of new_tree s e h x) (sym (right_place (suc h) h j refl))
        ∙ (ap (λ x. x ++ outside_of new_tree s e h ((2 * j + 1) * 2 ^ h)) (node_kept h (2 * j) (omega arith) room.0 room.2)
        ∙ (ap (λ x. outside_of old_tree s e h (2 * j * 2 ^ h) ++ x) (node_kept h (2 * j + 1) (omega arith) room.1 room.3)
        ∙ (ap (λ x. outside_of old_tree s e h (2 * j * 2 ^ h) ++ outside_of old_tree s e h x) (right_place (suc h) h j refl)
        ∙ (ap (λ x. outside_of old_tree s e h x ++ outside_of old_tree s e h (a + 2 ^ h)) (left_place (suc h) h j refl)
        ∙ sym (when_false (is_outside s e (suc h) a) (old_tree (suc h) a ∷ []) (outside_of old_tree s e h a ++ outside_of old_tree s e h (a + 2 ^ h)) i))))))))

    -- what all nodes of the first n leaves give
    below_kept : (n k : ℕ) → loc ≤ n → n ≤ list_size v → k ≤ 63 → outside_below new_tree s e n k (begins n k) ≡ outside_below old_tree s e n k (begins n k)
    below_kept n zero p q b = outside_end new_tree s e n (begins n 0) ∙ sym (outside_end old_tree s e n (begins n 0))
    below_kept n (suc k) p q b =
        elim (parity (n / 2 ^ k)) [
          | inl z ↦ outside_even new_tree s e n (suc k) k refl z ∙ (below_kept n k p q (omega arith) ∙ sym (outside_even old_tree s e n (suc k) k refl z))
          | inr w ↦
              let room = peak_room n k (list_size v) loc (n / 2 ^ k) refl w q p in
              outside_odd new_tree s e n (suc k) k refl w
              ∙ (ap (λ x. x ++ outside_below new_tree s e n k (begins n k)) (node_kept k (n / 2 ^ k - 1) (omega arith) room.0 room.1)
              ∙ (ap (λ x. outside_of old_tree s e k ((n / 2 ^ k - 1) * 2 ^ k) ++ x) (below_kept n k p q (omega arith))
              ∙ sym (outside_odd old_tree s e n (suc k) k refl w)))
        ]

  -- proofs from the new front on
  proofs_kept : (n start count : ℕ) → loc ≤ start → start + count ≤ n → n ≤ list_size v → proof_digests hash (without hash loc v) n start count ≡ proof_digests hash v n start count
  proofs_kept n start count least within all =
      sym (outside_all new_tree start (start + count) n (omega arith))
      ∙ (below_kept start (start + count) least n 63 (omega arith) all (omega arith)
      ∙ outside_all old_tree start (start + count) n (omega arith))

  -- and peaks
  peaks_kept : (at : ℕ) → loc ≤ at → peaks_at hash (without hash loc v) at ≡ peaks_at hash v at
  peaks_kept at least =
      let first = take (loc - v.front) v.leaves in
      let rest = drop (loc - v.front) v.leaves in
      let short : length first ≡ loc - v.front = length-take-le (loc - v.front) v.leaves (omega arith) in
      let end : loc ≡ v.front + length first = omega arith in
      let sum : (loc - v.front) + (at - loc) ≡ at - v.front = omega arith in
      ap (λ i. pushed hash i (peaks_at hash v loc) (take (at - loc) rest)) end
      ∙ (sym (pushed-append hash v.front v.pinned first (take (at - loc) rest))
      ∙ ap (pushed hash v.front v.pinned) (sym (take-add (loc - v.front) (at - loc) v.leaves) ∙ ap (λ i. take i v.leaves) sum))

  pub kept_from : KeptFrom hash loc v (without hash loc v)
  kept_from = record { peaks = λ at least all. peaks_kept at least; proofs = λ n start count least within all. proofs_kept n start count least within all }

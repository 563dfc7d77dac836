-- The digests of a proof have 32 bytes each: they are pinned nodes that are there, leaves, or nodes.
use Rattle.std.proofs.Common.{◌≡◌, ℕ, zero, suc, ◌+◌, ◌-◌, ◌*◌, ◌/◌, ◌%◌, ◌^◌, ◌<◌, ◌≤◌, ◌⊎◌, List, [], ◌∷◌, ◌++◌, length, drop, All, refl, sym, ap, subst, ◌∙◌, inl, inr, arith}
use Rattle.std.specs.Int.RustNames.{count_ones}
use Rattle.std.proofs.Math.Nat.{pow-succ', div-div-eq-div-mul, div-mul-le_self, le-div_iff_mul-le, div-lt_iff_lt-mul}
use Rattle.std.proofs.Math.Pow.{pow_pos}
use Rattle.std.proofs.lemmas.Bool.{cases_Bool}
use Rattle.std.proofs.lemmas.List.Elements.{All-append, All-drop, All-get_or, All-cons}
use Rattle.ledger_merkle.specs.Tree.{leaf, node}
use Rattle.ledger_merkle.specs.Range.{is_outside}
use Rattle.ledger_merkle.specs.Leaves.{leaves_from}
use Rattle.ledger_merkle.specs.Levels.{pin, tree, outside_of, outside_below}
use Rattle.ledger_merkle.proofs.Completeness.{past, before, within}
use Rattle.ledger_merkle.proofs.Levels.{some_pin, half_pins}
use Rattle.ledger_merkle.proofs.Peaked.{begins, outside_odd, outside_even, outside_end, outside_one, outside_none, outside_halves, begins_next}
use Rattle.ledger_merkle.proofs.Ranges.{two_halves}
use Rattle.ledger_merkle.proofs.Trees.{tree_pin, tree_leaf, tree_node, below_or_not}

-- 32 bytes
abbrev pub IsDigest : List ℕ → Type 0
IsDigest d = length d ≡ 32

-- ---- one subtree

odd_or_not : (x : ℕ) → (x % 2 ≡ 1) ⊎ (x % 2 ≡ 0)
odd_or_not x = elim (below_or_not 1 (x % 2)) [ inl h ↦ inl (omega arith) | inr h ↦ inr (omega arith) ]

pin_there : (n k : ℕ) (pins : List (List ℕ)) → length pins ≡ count_ones n → All IsDigest pins → n / 2 ^ k % 2 ≡ 1 → IsDigest (pin pins n k)
pin_there n zero pins count sound odd =
    let one : n / 2 ^ 0 ≡ n = omega arith in
    let some = some_pin n pins count in
    All-get_or IsDigest pins 0 [] (omega arith) sound
pin_there n (suc k) pins count sound odd =
    let half : n / 2 ^ suc k ≡ n / 2 / 2 ^ k = ap (λ (p : ℕ). n / p) (pow-succ' 2 k) ∙ sym (div-div-eq-div-mul n 2 (2 ^ k)) in
    pin_there (n / 2) k (drop (n % 2) pins) (half_pins n pins count) (All-drop IsDigest (n % 2) pins sound) (sym (ap (λ (q : ℕ). q % 2) half) ∙ odd)

module _ (hash : List ℕ → List ℕ) (hashed : (m : List ℕ) → IsDigest (hash m)) where
  node_digest : (left right : List ℕ) → IsDigest (node hash left right)
  unfolding node
  node_digest left right = hashed (1 ∷ left ++ right)

  leaf_digest : (i : ℕ) (bytes : List ℕ) → IsDigest (leaf hash i bytes)
  unfolding leaf
  leaf_digest i bytes = hashed _

  pub leaf_digests : (n : ℕ) (xs : List (List ℕ)) → All IsDigest (leaves_from hash n xs)
  leaf_digests n [] = λ k d lt. absurd (omega arith)
  leaf_digests n (x ∷ xs) = All-cons IsDigest (leaf hash n x) (leaves_from hash (n + 1) xs) (leaf_digest n x) (leaf_digests (n + 1) xs)

  module _ (pins : List (List ℕ)) (n : ℕ) (xs : List (List ℕ)) (count : length pins ≡ count_ones n) (sound : All IsDigest pins) (leaves : All IsDigest xs) where
    -- a subtree wholly before the front is a pinned node that is there
    abbrev IsThere : ℕ → ℕ → Type 0
    IsThere k at = at + 2 ^ k ≤ n → n / 2 ^ k % 2 ≡ 1

    tree_digest : (k at : ℕ) → IsThere k at → at + 2 ^ k ≤ n + length xs → IsDigest (tree hash pins n xs k at)
    tree_digest zero at there bound =
        elim (below_or_not (at + 2 ^ 0) n) [
          | inl le ↦ subst IsDigest (sym (tree_pin hash pins n xs 0 at le)) (pin_there n 0 pins count sound (there le))
          | inr lt ↦ subst IsDigest (sym (tree_leaf hash pins n xs at (omega arith))) (All-get_or IsDigest xs (at - n) [] (omega arith) leaves)
        ]
    tree_digest (suc k) at there bound =
        elim (below_or_not (at + 2 ^ suc k) n) [
          | inl le ↦ subst IsDigest (sym (tree_pin hash pins n xs (suc k) at le)) (pin_there n (suc k) pins count sound (there le))
          | inr lt ↦ subst IsDigest (sym (tree_node hash pins n xs k at lt)) (node_digest _ _)
        ]

    -- ---- what proves a range from the front on

    -- so many whole widths and no more
    quotient : (q p : ℕ) → 0 < p → q * p ≤ n → n < (q + 1) * p → n / p ≡ q
    quotient q p pos le lt =
        let a : q ≤ n / p = (le-div_iff_mul-le {k = p} {x = q} {y = n} pos).1 le in
        let b : n / p < q + 1 = (div-lt_iff_lt-mul {k = p} {x = n} {y = q + 1} pos).1 lt in
        omega arith

    twice_one : (i p : ℕ) → (2 * i + 1) * p ≡ i * (p + p) + p
    twice_one i p = grind arith

    twice_two : (i p : ℕ) → (2 * i + 1 + 1) * p ≡ i * (p + p) + (p + p)
    twice_two i p = grind arith

    left_at : (i p : ℕ) → i * (p + p) ≡ (2 * i) * p
    left_at i p = grind arith

    right_at : (i p : ℕ) → i * (p + p) + p ≡ (2 * i + 1) * p
    right_at i p = grind arith

    -- a left half that ends at or before the front, where the whole goes on beyond it
    left_there : (i k at : ℕ) → at ≡ i * 2 ^ suc k → n < at + 2 ^ suc k → IsThere k at
    left_there i k at is beyond le =
        let wide : 2 ^ suc k ≡ 2 ^ k + 2 ^ k = two_halves (suc k) k refl in
        let here : at ≡ i * (2 ^ k + 2 ^ k) = is ∙ ap (λ (p : ℕ). i * p) wide in
        let one = twice_one i (2 ^ k) in
        let two = twice_two i (2 ^ k) in
        let q : n / 2 ^ k ≡ 2 * i + 1 = quotient (2 * i + 1) (2 ^ k) (pow_pos k) (omega arith) (omega arith) in
        ap (λ (x : ℕ). x % 2) q ∙ omega arith

    module _ (s e : ℕ) (from : n ≤ s) where
      outside_digests : (k i at : ℕ) → at ≡ i * 2 ^ k → IsThere k at → at + 2 ^ k ≤ n + length xs → All IsDigest (outside_of (tree hash pins n xs) s e k at)
      outside_digests zero i at is there bound =
          elim (cases_Bool (is_outside s e 0 at)) [
            | inl out ↦ subst (All IsDigest) (sym (outside_one (tree hash pins n xs) s e 0 at out)) (All-cons IsDigest (tree hash pins n xs 0 at) [] (tree_digest 0 at there bound) (λ j d lt. absurd (omega arith)))
            | inr in' ↦
                let one : 2 ^ 0 ≡ 1 = refl in
                let both = within s e at in' in
                subst (All IsDigest) (sym (outside_none (tree hash pins n xs) s e 0 at both.0 (let b = both.1 in omega arith))) (λ j d lt. absurd (omega arith))
          ]
      outside_digests (suc k) i at is there bound =
          elim (cases_Bool (is_outside s e (suc k) at)) [
            | inl out ↦ subst (All IsDigest) (sym (outside_one (tree hash pins n xs) s e (suc k) at out)) (All-cons IsDigest (tree hash pins n xs (suc k) at) [] (tree_digest (suc k) at there bound) (λ j d lt. absurd (omega arith)))
            | inr in' ↦
                let wide : 2 ^ suc k ≡ 2 ^ k + 2 ^ k = two_halves (suc k) k refl in
                let beyond : s < at + 2 ^ suc k = past s e (suc k) at in' in
                let here : at ≡ i * (2 ^ k + 2 ^ k) = is ∙ ap (λ (p : ℕ). i * p) wide in
                let there' : IsThere k (at + 2 ^ k) = λ (le : at + 2 ^ k + 2 ^ k ≤ n). absurd (omega arith) in
                subst (All IsDigest) (sym (outside_halves (tree hash pins n xs) s e (suc k) k at refl beyond (before s e (suc k) at in')))
                (All-append IsDigest _ _
                (outside_digests k (2 * i) at (here ∙ left_at i (2 ^ k)) (left_there i k at is (omega arith)) (omega arith))
                (outside_digests k (2 * i + 1) (at + 2 ^ k) (ap (λ (a : ℕ). a + 2 ^ k) here ∙ right_at i (2 ^ k)) there' (omega arith)))
          ]

      -- the subtrees of m leaves below height k
      pub below_digests : (m k : ℕ) → s < m → m ≤ n + length xs → All IsDigest (outside_below (tree hash pins n xs) s e m k (begins m k))
      below_digests m zero some bound = subst (All IsDigest) (sym (outside_end (tree hash pins n xs) s e m (begins m 0))) (λ j d lt. absurd (omega arith))
      below_digests m (suc j) some bound =
          elim (odd_or_not (m / 2 ^ j)) [
            | inl odd ↦
                let at = (m / 2 ^ j - 1) * 2 ^ j in
                let ends : at + 2 ^ j ≡ m / 2 ^ j * 2 ^ j = begins_next m j odd in
                let low : m / 2 ^ j * 2 ^ j ≤ m = div-mul-le_self m (2 ^ j) in
                let there : IsThere j at = λ (le : at + 2 ^ j ≤ n).
                (let high : m < (m / 2 ^ j + 1) * 2 ^ j = (div-lt_iff_lt-mul {k = 2 ^ j} {x = m} {y = m / 2 ^ j + 1} (pow_pos j)).0 (omega arith) in
                ap (λ (x : ℕ). x % 2) (quotient (m / 2 ^ j) (2 ^ j) (pow_pos j) (omega arith) (omega arith)) ∙ odd) in
                subst (All IsDigest) (sym (outside_odd (tree hash pins n xs) s e m (suc j) j refl odd))
                (All-append IsDigest _ _ (outside_digests j (m / 2 ^ j - 1) at refl there (omega arith)) (below_digests m j some bound))
            | inr even ↦ subst (All IsDigest) (sym (outside_even (tree hash pins n xs) s e m (suc j) j refl even)) (below_digests m j some bound)
          ]

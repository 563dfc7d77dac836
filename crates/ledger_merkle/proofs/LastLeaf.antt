use Rattle.std.proofs.Common.{◌≡◌, ℕ, zero, suc, ◌+◌, ◌/◌, ◌%◌, ◌^◌, ◌<◌, ◌≤◌, ◌⊎◌, List, [], ◌∷◌, ◌++◌, refl, sym, ap, ◌∙◌, inl, inr, arith}
use Rattle.std.proofs.lemmas.List.{append-nil}
use Rattle.std.proofs.Math.Pow.{pow_pos}
use Rattle.ledger_merkle.specs.Range.{has_tree}
use Rattle.ledger_merkle.specs.Levels.{perfect_below, outside_of, outside_below}
use Rattle.ledger_merkle.proofs.Ranges.{two_halves, has_tree-true, has_tree-false, outside, low_tree, low_none}
use Rattle.ledger_merkle.proofs.Joining.{parity}
use Rattle.ledger_merkle.proofs.Trees.{when_true, when_false}
use Rattle.ledger_merkle.proofs.Peaked.{outside_one, outside_none, outside_halves}

-- the bit k of a number by its last k + 1 bits
bit_one : (m k : ℕ) → 2 ^ k ≤ m % 2 ^ suc k → m / 2 ^ k % 2 ≡ 1
bit_one m k h =
    elim (parity (m / 2 ^ k)) [
      | inl e ↦ absurd (let low : m % 2 ^ suc k ≡ m % 2 ^ k = low_none m (suc k) k refl e in let some : 0 < 2 ^ k = pow_pos k in omega arith)
      | inr o ↦ o
    ]

bit_none : (m k : ℕ) → m % 2 ^ suc k < 2 ^ k → m / 2 ^ k % 2 ≡ 0
bit_none m k h =
    elim (parity (m / 2 ^ k)) [
      | inl e ↦ e
      | inr o ↦ absurd (let low : m % 2 ^ suc k ≡ 2 ^ k + m % 2 ^ k = low_tree m (suc k) k refl o in omega arith)
    ]

module _ (trees : ℕ → ℕ → List ℕ) where
  -- the last leaf of a perfect subtree is proved by the peaks of the leaves before it
  last_within : (m k a : ℕ) → a + m % 2 ^ k ≡ m → m % 2 ^ k + 1 ≡ 2 ^ k → outside_of trees m (m + 1) k a ≡ perfect_below trees m k a
  unfolding perfect_below
  last_within m zero a p q = let one : 2 ^ 0 ≡ 1 = refl in outside_none trees m (m + 1) 0 a (omega arith) (omega arith)
  last_within m (suc k) a p q =
      let two : 2 ^ suc k ≡ 2 ^ k + 2 ^ k = two_halves (suc k) k refl in
      let some : 0 < 2 ^ k = pow_pos k in
      let bit : m / 2 ^ k % 2 ≡ 1 = bit_one m k (omega arith) in
      let low : m % 2 ^ suc k ≡ 2 ^ k + m % 2 ^ k = low_tree m (suc k) k refl bit in
      outside_halves trees m (m + 1) (suc k) k a refl (omega arith) (omega arith)
      ∙ (ap (λ l. l ++ outside_of trees m (m + 1) k (a + 2 ^ k)) (outside_one trees m (m + 1) k a (outside m (m + 1) k a (inl (omega arith))))
      ∙ (ap (λ l. trees k a ∷ l) (last_within m k (a + 2 ^ k) (omega arith) (omega arith))
      ∙ sym (when_true (has_tree m k) (trees k a ∷ perfect_below trees m k (a + 2 ^ k)) (perfect_below trees m k a) (has_tree-true m k bit))))

  nothing_left : (n k a s e : ℕ) → n % 2 ^ k ≡ 0 → outside_below trees s e n k a ≡ []
  unfolding outside_below
  nothing_left n zero a s e h = refl
  nothing_left n (suc k) a s e h =
      let bit : n / 2 ^ k % 2 ≡ 0 = bit_none n k (let some : 0 < 2 ^ k = pow_pos k in omega arith) in
      let low : n % 2 ^ suc k ≡ n % 2 ^ k = low_none n (suc k) k refl bit in
      when_false (has_tree n k) (outside_of trees s e k a ++ outside_below trees s e n k (a + 2 ^ k)) (outside_below trees s e n k a) (has_tree-false n k bit)
      ∙ nothing_left n k a s e (omega arith)

  -- the last of m + 1 leaves is proved by the peaks of m leaves
  pub last_leaf : (m n k a : ℕ) → n ≡ m + 1 → a + n % 2 ^ k ≡ n → 0 < n % 2 ^ k → m % 2 ^ k + 1 ≡ n % 2 ^ k → outside_below trees m n n k a ≡ perfect_below trees m k a
  unfolding outside_below perfect_below
  last_leaf m n zero a i p q r = let one : 2 ^ 0 ≡ 1 = refl in absurd (omega arith)
  last_leaf m n (suc k) a i p q r =
      let two : 2 ^ suc k ≡ 2 ^ k + 2 ^ k = two_halves (suc k) k refl in
      let some : 0 < 2 ^ k = pow_pos k in
      elim (parity (n / 2 ^ k)) [
        | inl e ↦
            let low : n % 2 ^ suc k ≡ n % 2 ^ k = low_none n (suc k) k refl e in
            let small : n % 2 ^ k < 2 ^ k = omega arith in
            let bit : m / 2 ^ k % 2 ≡ 0 = bit_none m k (omega arith) in
            let same : m % 2 ^ suc k ≡ m % 2 ^ k = low_none m (suc k) k refl bit in
            when_false (has_tree n k) (outside_of trees m n k a ++ outside_below trees m n n k (a + 2 ^ k)) (outside_below trees m n n k a) (has_tree-false n k e)
            ∙ (last_leaf m n k a i (omega arith) (omega arith) (omega arith)
            ∙ sym (when_false (has_tree m k) (trees k a ∷ perfect_below trees m k (a + 2 ^ k)) (perfect_below trees m k a) (has_tree-false m k bit)))
        | inr o ↦
            let low : n % 2 ^ suc k ≡ 2 ^ k + n % 2 ^ k = low_tree n (suc k) k refl o in
            when_true (has_tree n k) (outside_of trees m n k a ++ outside_below trees m n n k (a + 2 ^ k)) (outside_below trees m n n k a) (has_tree-true n k o)
            ∙ elim (zero_or_more (n % 2 ^ k)) [
              | inl z ↦
                  let bit : m / 2 ^ k % 2 ≡ 0 = bit_none m k (omega arith) in
                  let same : m % 2 ^ suc k ≡ m % 2 ^ k = low_none m (suc k) k refl bit in
                  ap (λ l. outside_of trees m n k a ++ l) (nothing_left n k (a + 2 ^ k) m n z)
                  ∙ (append-nil (outside_of trees m n k a)
                  ∙ (ap (λ e. outside_of trees m e k a) i
                  ∙ (last_within m k a (omega arith) (omega arith)
                  ∙ sym (when_false (has_tree m k) (trees k a ∷ perfect_below trees m k (a + 2 ^ k)) (perfect_below trees m k a) (has_tree-false m k bit)))))
              | inr w ↦
                  let bit : m / 2 ^ k % 2 ≡ 1 = bit_one m k (omega arith) in
                  let same : m % 2 ^ suc k ≡ 2 ^ k + m % 2 ^ k = low_tree m (suc k) k refl bit in
                  ap (λ l. l ++ outside_below trees m n n k (a + 2 ^ k)) (outside_one trees m n k a (outside m n k a (inl (omega arith))))
                  ∙ (ap (λ l. trees k a ∷ l) (last_leaf m n k (a + 2 ^ k) i (omega arith) w (omega arith))
                  ∙ sym (when_true (has_tree m k) (trees k a ∷ perfect_below trees m k (a + 2 ^ k)) (perfect_below trees m k a) (has_tree-true m k bit)))
            ]
      ] where
        zero_or_more : (x : ℕ) → (x ≡ 0) ⊎ (0 < x)
        zero_or_more zero = inl refl
        zero_or_more (suc x) = inr (omega arith)

-- A reply is within the limits of a message.
use Rattle.std.proofs.Common.{◌≡◌, ℕ, zero, suc, ◌+◌, ◌*◌, ◌/◌, ◌%◌, ◌^◌, ◌<◌, ◌≤◌, Bool, true, false, length, inl, inr, refl, ap, arith, lit≤}
use Rattle.std.specs.Int.RustNames.{count_ones}
use Rattle.std.specs.Fmt.{decimal}
use Rattle.std.proofs.lemmas.Fmt.{length-decimal-le}
use Rattle.std.proofs.Math.Pow.{pow_pos}
use Rattle.ledger_merkle.specs.Range.{is_outside, subtree_needs, has_tree, needs_below, needed}
use Rattle.ledger_merkle.proofs.Ranges.{two_halves, outside, inside, needs_outside, needs_leaf, needs_halves, below_tree, below_none, below_end, needed_is}
use Rattle.ledger_merkle.proofs.Trees.{below_or_not}
use Rattle.ledger_merkle.proofs.Joining.{ones_half, ones_none}

-- ---- the digests of a proof

-- a subtree within the range takes none
all_inside : (s e k a : ℕ) → s ≤ a → a + 2 ^ k ≤ e → subtree_needs s e k a ≡ 0
all_inside s e zero a p q = let one : 0 < 2 ^ 0 = pow_pos 0 in needs_leaf s e a (inside s e 0 a (omega arith) (omega arith))
all_inside s e (suc k) a p q =
    let some : 0 < 2 ^ suc k = pow_pos (suc k) in
    let two : 2 ^ suc k ≡ 2 ^ k + 2 ^ k = two_halves (suc k) k refl in
    let l = all_inside s e k a p (omega arith) in
    let r = all_inside s e k (a + 2 ^ k) (omega arith) (omega arith) in
    omega (arith, needs_halves s e (suc k) k a refl (inside s e (suc k) a (omega arith) (omega arith)), l, r)

-- a subtree that the range leaves on one side at most takes one a level
starts_within : (s e k a : ℕ) (out : Bool) → is_outside s e k a ≡ out → a + 2 ^ k ≤ e → subtree_needs s e k a ≤ k + 1
starts_within s e k a true t q = omega (arith, needs_outside s e k a t)
starts_within s e zero a false t q = omega (arith, needs_leaf s e a t)
starts_within s e (suc k) a false t q =
    let two : 2 ^ suc k ≡ 2 ^ k + 2 ^ k = two_halves (suc k) k refl in
    let h = needs_halves s e (suc k) k a refl t in
    elim (below_or_not s (a + 2 ^ k)) [
      | inl p ↦ omega (arith, h, starts_within s e k a (is_outside s e k a) refl (omega arith), all_inside s e k (a + 2 ^ k) p (omega arith))
      | inr p ↦ omega (arith, h, needs_outside s e k a (outside s e k a (inl (omega arith))), starts_within s e k (a + 2 ^ k) (is_outside s e k (a + 2 ^ k)) refl (omega arith))
    ]

ends_within : (s e k a : ℕ) (out : Bool) → is_outside s e k a ≡ out → s ≤ a → subtree_needs s e k a ≤ k + 1
ends_within s e k a true t q = omega (arith, needs_outside s e k a t)
ends_within s e zero a false t q = omega (arith, needs_leaf s e a t)
ends_within s e (suc k) a false t q =
    let h = needs_halves s e (suc k) k a refl t in
    elim (below_or_not e (a + 2 ^ k)) [
      | inl p ↦ omega (arith, h, ends_within s e k a (is_outside s e k a) refl q, needs_outside s e k (a + 2 ^ k) (outside s e k (a + 2 ^ k) (inr p)))
      | inr p ↦ omega (arith, h, all_inside s e k a q (omega arith), ends_within s e k (a + 2 ^ k) (is_outside s e k (a + 2 ^ k)) refl (omega arith))
    ]

-- any subtree takes two a level
needs_few : (s e k a : ℕ) (out : Bool) → is_outside s e k a ≡ out → subtree_needs s e k a ≤ 2 * (k + 1)
needs_few s e k a true t = omega (arith, needs_outside s e k a t)
needs_few s e zero a false t = omega (arith, needs_leaf s e a t)
needs_few s e (suc k) a false t =
    let h = needs_halves s e (suc k) k a refl t in
    elim (below_or_not e (a + 2 ^ k)) [
      | inl p ↦ omega (arith, h, needs_few s e k a (is_outside s e k a) refl, needs_outside s e k (a + 2 ^ k) (outside s e k (a + 2 ^ k) (inr p)))
      | inr p ↦ elim (below_or_not (a + 2 ^ k) s) [
        | inl q ↦ omega (arith, h, needs_outside s e k a (outside s e k a (inl q)), needs_few s e k (a + 2 ^ k) (is_outside s e k (a + 2 ^ k)) refl)
        | inr q ↦ omega (arith, h, starts_within s e k a (is_outside s e k a) refl (omega arith), ends_within s e k (a + 2 ^ k) (is_outside s e k (a + 2 ^ k)) refl (omega arith))
      ]
    ]

-- two a level for each peak below a height
room_below : ℕ → ℕ
room_below zero = 0
room_below (suc k) = 2 * (k + 1) + room_below k

room_step : (k : ℕ) → room_below (suc k) ≡ 2 * (k + 1) + room_below k
unfolding room_below
room_step k = refl

room_all : room_below 63 ≡ 4032
unfolding room_below
room_all = refl

-- one level more, with a peak there or without
level_few : (s e n k a : ℕ) (tree : Bool) → has_tree n k ≡ tree → needs_below s e n k a ≤ room_below k → needs_below s e n k (a + 2 ^ k) ≤ room_below k → needs_below s e n (suc k) a ≤ room_below (suc k)
level_few s e n k a true t x y = omega (arith, below_tree s e n (suc k) k a refl t, needs_few s e k a (is_outside s e k a) refl, y, room_step k)
level_few s e n k a false t x y = omega (arith, below_none s e n (suc k) k a refl t, x, room_step k)

below_few : (s e n k a : ℕ) → needs_below s e n k a ≤ room_below k
below_few s e n zero a = omega (arith, below_end s e n a)
below_few s e n (suc k) a = level_few s e n k a (has_tree n k) refl (below_few s e n k a) (below_few s e n k (a + 2 ^ k))

-- a proof has far fewer digests than a message may hold
pub needed_few : (n start count : ℕ) → needed n start count ≤ 10000
needed_few n start count = omega (arith, needed_is n start (start + count) count refl, below_few start (start + count) n 63 0, room_all)

-- ---- pinned nodes

-- a number has at most one binary one for each of its digits
ones_few : (k n : ℕ) → n < 2 ^ k → count_ones n ≤ k
ones_few zero n h = let none : n ≡ 0 = omega arith in omega (arith, ap count_ones none, ones_none)
ones_few (suc k) n h = let two : 2 ^ suc k ≡ 2 ^ k + 2 ^ k = two_halves (suc k) k refl in omega (arith, ones_half n, ones_few k (n / 2) (omega arith))

-- a place has far fewer pinned nodes than a message may hold
pub ones_most : (n : ℕ) → n ≤ 2 ^ 62 → count_ones n ≤ 64
ones_most n h = omega (arith, ones_few 63 n (omega arith))

-- ---- texts

-- a number takes at most 20 digits
pub decimal_few : (n : ℕ) → n < 2 ^ 64 → length (decimal n) ≤ 20
decimal_few n h = length-decimal-le 20 n (lit≤ tt) (let less : 2 ^ 64 ≤ 10 ^ 20 = lit≤ tt in omega arith) h

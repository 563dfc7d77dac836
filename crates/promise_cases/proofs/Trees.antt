-- Trees of one, two and three leaves.
use Rattle.std.proofs.Common.{◌≡◌, ◌≢◌, ℕ, zero, suc, ◌+◌, ◌-◌, ◌%◌, ◌<◌, ◌≤◌, ◌^◌, false, List, [], ◌∷◌, take, drop, refl, sym, ap, subst, ◌∙◌, arith, lit≤}
use Rattle.std.proofs.Math.Nat.{div-eq_of_lt}
use Rattle.std.proofs.Math.Pow.{pow_mono}
use Rattle.std.specs.Prelude.{◌==◌, get_or, replicate}
use Rattle.sha2.specs.Sha256.{sha256}
use Rattle.ledger_merkle.specs.Digests.{toy_digest}
use Rattle.ledger_merkle.specs.Leaves.{ListView, leaves_from, list_size, root_at}
use Rattle.ledger_merkle.specs.Range.{RangeOk, has_tree, needed, needs_below, range_root}
use Rattle.ledger_merkle.specs.Tree.{root}
use Rattle.ledger_merkle.specs.declared.proof.Proof.{Proof}
use Rattle.ledger_merkle.proofs.Ranges.{below_none, needed_is}
use Rattle.promise_cases.specs.Cases.{three_items, three_leaves}

-- ---- how many digests prove a leaf of one and of two

grown : (n h k : ℕ) → n < 2 ^ h → n < 2 ^ (k + h)
grown n h k lt = let least : h ≤ k + h = omega arith in omega (arith, lt, pow_mono least)

no_tree : (n h : ℕ) → n < 2 ^ h → has_tree n h ≡ false
no_tree n h lt = ap (λ (q : ℕ). q % 2 == 1) (div-eq_of_lt lt)

-- no tree is higher than the leaves are many
low : (start end n h k : ℕ) → n < 2 ^ h → needs_below start end n (k + h) 0 ≡ needs_below start end n h 0
low start end n h zero lt = let same : 0 + h ≡ h = omega arith in ap (λ (k : ℕ). needs_below start end n k 0) same
low start end n h (suc k) lt = let more : suc k + h ≡ suc (k + h) = omega arith in below_none start end n (suc k + h) (k + h) 0 more (no_tree n (k + h) (grown n h k lt)) ∙ low start end n h k lt

first_of_two : needs_below 0 1 2 2 0 ≡ 1
unfolding needs_below
first_of_two = refl

first_of_one : needs_below 0 1 1 1 0 ≡ 0
unfolding needs_below
first_of_one = refl

two_needs_one : needed 2 0 1 ≡ 1
two_needs_one = sym (needed_is 2 0 1 1 refl) ∙ (low 0 1 2 2 61 (lit≤ tt) ∙ first_of_two)

one_needs_none : needed 1 0 1 ≡ 0
one_needs_none = sym (needed_is 1 0 1 1 refl) ∙ (low 0 1 1 1 62 (lit≤ tt) ∙ first_of_one)

pub one_needed : (n start : ℕ) → n ≡ 2 → start ≡ 0 → needed n start 1 ≡ 1
one_needed n start two none = ap (λ (k : ℕ). needed k start 1) two ∙ (ap (λ (k : ℕ). needed 2 k 1) none ∙ two_needs_one)

pub none_needed : (n start : ℕ) → n ≡ 1 → start ≡ 0 → needed n start 1 ≡ 0
none_needed n start one none = ap (λ (k : ℕ). needed k start 1) one ∙ (ap (λ (k : ℕ). needed 1 k 1) none ∙ one_needs_none)

-- ---- other roots

-- the toy digest begins with a zero byte
pub other_root : (n start : ℕ) (items digests : List (List ℕ)) → range_root toy_digest n start items digests ≢ replicate 32 1
unfolding toy_digest root
other_root n start items digests e = let first : 0 ≡ 1 = ap (λ (d : List ℕ). get_or d 0 9) e in omega (arith, first)

pub three_long : (list : ListView) → list ≡ three_leaves → list_size list ≡ 3
unfolding three_items
three_long list e = ap list_size e

-- the promise of a proof of one leaf
abbrev pub Proves : Proof → ListView → ℕ → ℕ → Type 0
Proves p list n start = (items : List (List ℕ)) → leaves_from sha256 start items ≡ take 1 (drop (start - list.front) list.leaves) → RangeOk sha256 (root_at sha256 list n) p.leaves p.inactive_peaks p.digests n start items

last_leaf : leaves_from sha256 2 (replicate 32 3 ∷ []) ≡ take 1 (drop (2 - three_leaves.front) three_leaves.leaves)
unfolding three_items
last_leaf = refl

pub last_right : (p : Proof) (list : ListView) (n start : ℕ) → list ≡ three_leaves → n ≡ 3 → start ≡ 2 → Proves p list n start → RangeOk sha256 (root_at sha256 three_leaves 3) p.leaves p.inactive_peaks p.digests 3 2 (replicate 32 3 ∷ [])
last_right p list n start is all last h =
    let one : Proves p three_leaves n start = subst (λ l. Proves p l n start) is h in
    let two : Proves p three_leaves 3 start = subst (λ k. Proves p three_leaves k start) all one in
    let three : Proves p three_leaves 3 2 = subst (λ k. Proves p three_leaves 3 k) last two in
    three (replicate 32 3 ∷ []) last_leaf

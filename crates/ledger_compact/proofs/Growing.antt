use Rattle.std.proofs.Common.{◌≡◌, ℕ, suc, ◌+◌, ◌-◌, ◌%◌, ◌^◌, ◌<◌, ◌≤◌, List, [], ◌∷◌, ◌++◌, length, take, drop, map, reverse, refl, sym, ap, subst, ◌∙◌, arith}
use Rattle.std.specs.Int.RustNames.{count_ones}
use Rattle.std.proofs.lemmas.List.{length-map}
use Rattle.ledger_merkle.specs.Tree.{leaf, root, push, grow}
use Rattle.ledger_merkle.specs.Range.{RangeOk}
use Rattle.ledger_merkle.specs.Leaves.{ListView, leaves_from, pushed, peaks_at, root_at}
use Rattle.ledger_merkle.specs.Levels.{tree, outside_below}
use Rattle.ledger_merkle.proofs.Joining.{push_length}
use Rattle.ledger_merkle.proofs.LastLeaf.{last_leaf}
use Rattle.ledger_merkle.proofs.Peaked.{peaks_are, proof_holds}
use Rattle.ledger_merkle.proofs.Ranges.{low_all}
use Rattle.ledger_log.proofs.Floors.{grow_ops}

module _ (hash : List ℕ → List ℕ) where
  -- there are as many peaks as binary ones
  pub length-grow : (n : ℕ) (ps xs : List (List ℕ)) → length ps ≡ count_ones n → length (grow hash n ps xs) ≡ count_ones (n + length xs)
  length-grow n ps [] c = let none : n ≡ n + 0 = omega arith in c ∙ ap count_ones none
  length-grow n ps (x ∷ xs) c =
      let next : n + 1 + length xs ≡ n + suc (length xs) = omega arith in
      length-grow (n + 1) (push hash n ps (leaf hash n x)) xs (push_length hash n ps (leaf hash n x) c) ∙ ap count_ones next

  -- the peaks before a leaf prove it
  pub last_proved : (m : ℕ) (pins : List (List ℕ)) (b : List ℕ) → length pins ≡ count_ones m → m + 1 ≤ 2 ^ 62 →
      RangeOk hash (root hash (m + 1) (push hash m pins (leaf hash m b))) (m + 1) 0 pins (m + 1) m (b ∷ [])
  last_proved m pins b c most =
      let d = leaf hash m b in
      let v : ListView = record { front = m; pinned = pins; leaves = d ∷ [] } in
      let trees = tree hash (reverse pins) m (d ∷ []) in
      let none : m - m ≡ 0 = omega arith in
      let one : m + 1 - m ≡ 1 = omega arith in
      let all : (m + 1) % 2 ^ 63 ≡ m + 1 = low_all (m + 1) most in
      let before : m % 2 ^ 63 ≡ m = low_all m (omega arith) in
      let whole : 0 + (m + 1) % 2 ^ 63 ≡ m + 1 = omega arith in
      let some : 0 < (m + 1) % 2 ^ 63 = omega arith in
      let low : m % 2 ^ 63 + 1 ≡ (m + 1) % 2 ^ 63 = omega arith in
      let peaks : peaks_at hash v m ≡ pins = ap (λ k. pushed hash m pins (take k (d ∷ []))) none in
      let digests : pins ≡ outside_below trees m (m + 1) (m + 1) 63 0 =
      sym (last_leaf trees m (m + 1) 63 0 refl whole some low ∙ (sym (peaks_are hash v m c (omega arith) (omega arith) (omega arith)) ∙ peaks)) in
      let leaves : leaves_from hash m (b ∷ []) ≡ take 1 (drop (m - m) (d ∷ [])) = ap (λ k. take 1 (drop k (d ∷ []))) (sym none) in
      let top : root_at hash v (m + 1) ≡ root hash (m + 1) (push hash m pins d) = ap (λ k. root hash (m + 1) (pushed hash m pins (take k (d ∷ [])))) one in
      subst (λ r. RangeOk hash r (m + 1) 0 pins (m + 1) m (b ∷ [])) top (proof_holds hash v (m + 1) m 1 pins (b ∷ []) c (omega arith) (omega arith) (omega arith) most digests leaves)

module _ {Op : Type 0} (hash : List ℕ → List ℕ) (spelling : Op → List ℕ) (n : ℕ) (ps : List (List ℕ)) (others : List Op) (last : Op)
    (size : ℕ) (nodes before : List (List ℕ)) (c : length ps ≡ count_ones n) (s : size ≡ n + length others + 1) (most : size ≤ 2 ^ 62)
    (b : before ≡ grow hash n ps (map spelling others)) (g : nodes ≡ grow hash n ps (map spelling (others ++ last ∷ []))) where
  many : length before ≡ count_ones (n + length others)
  many = ap length b ∙ (length-grow hash n ps (map spelling others) c ∙ ap (λ k. count_ones (n + k)) (length-map others spelling))

  -- the peaks behind a batch are those before its last operation, and that operation
  joined : nodes ≡ push hash (n + length others) before (leaf hash (n + length others) (spelling last))
  joined =
      g
      ∙ (grow_ops hash spelling n ps others (last ∷ [])
      ∙ ap (λ l. push hash (n + length others) l (leaf hash (n + length others) (spelling last))) (sym b))

  pub count_after : length nodes ≡ count_ones size
  count_after = ap length joined ∙ (push_length hash (n + length others) before (leaf hash (n + length others) (spelling last)) many ∙ ap count_ones (sym s))

  pub proved_after : RangeOk hash (root hash size nodes) size 0 before size (size - 1) (spelling last ∷ [])
  proved_after =
      let m = n + length others in
      let place : m ≡ size - 1 = omega arith in
      let first : RangeOk hash (root hash (m + 1) nodes) (m + 1) 0 before (m + 1) m (spelling last ∷ []) =
      subst (λ l. RangeOk hash (root hash (m + 1) l) (m + 1) 0 before (m + 1) m (spelling last ∷ [])) (sym joined) (last_proved hash m before (spelling last) many (omega arith)) in
      let second : RangeOk hash (root hash size nodes) size 0 before size m (spelling last ∷ []) =
      subst (λ k. RangeOk hash (root hash k nodes) k 0 before k m (spelling last ∷ [])) (sym s) first in
      subst (λ k. RangeOk hash (root hash size nodes) size 0 before size k (spelling last ∷ [])) place second

-- no binary ones
pub ones_none : count_ones 0 ≡ 0
unfolding lib.Count.ones
ones_none = refl

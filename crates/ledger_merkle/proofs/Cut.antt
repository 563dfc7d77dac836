use Rattle.std.proofs.Common.{◌≡◌, ℕ, zero, suc, ◌+◌, ◌-◌, ◌/◌, ◌%◌, ◌^◌, ◌≤◌, List, [], ◌∷◌, ◌++◌, length, take, drop, sym, ap, ◌∙◌, arith}
use Rattle.std.specs.Int.RustNames.{count_ones}
use Rattle.std.proofs.lemmas.List.{length-take-le, length-append}
use Rattle.std.proofs.Math.Seq.{take-append-add}
use Rattle.ledger_merkle.specs.Tree.{leaf}
use Rattle.ledger_merkle.specs.Leaves.{ListView, leaves_from, list_size}
use Rattle.ledger_merkle.specs.Levels.{pairs, full, nodes}
use Rattle.ledger_merkle.proofs.Levels.{half_pins, some_pin, length_up, length-leaves_from}
use Rattle.ledger_merkle.proofs.Kept.{half_first, over_one}
use Rattle.ledger_merkle.proofs.Pruned.{pairs_take}

module _ (hash : List ℕ → List ℕ) where
  -- the levels of a list without its last leaves
  pub cut_nodes : (h : ℕ) (pins : List (List ℕ)) (n size : ℕ) (xs : List (List ℕ)) → length pins ≡ count_ones n → n ≤ size → size ≤ n + length xs →
      nodes hash pins n (take (size - n) xs) h ≡ take (size / 2 ^ h - n / 2 ^ h) (nodes hash pins n xs h)
  cut_nodes zero pins n size xs c l m = let d : size - n ≡ size / 2 ^ 0 - n / 2 ^ 0 = omega (arith, over_one size, over_one n) in ap (λ i. take i xs) d
  cut_nodes (suc h) pins n size xs c l m =
      let f = full n pins xs in
      let ps = drop (n % 2) pins in
      let low = take (n % 2) pins in
      let long : length low ≡ n % 2 = length-take-le (n % 2) pins (some_pin n pins c) in
      let first : low ++ take (size - n) xs ≡ take (length low + (size - n)) f = sym (take-append-add low xs (size - n)) in
      let half : (length low + (size - n)) / 2 ≡ size / 2 - n / 2 = omega (arith, long) in
      let up : pairs hash (low ++ take (size - n) xs) ≡ take (size / 2 - n / 2) (pairs hash f) =
      ap (pairs hash) first ∙ (pairs_take hash (length low + (size - n)) f ∙ ap (λ i. take i (pairs hash f)) half) in
      let count : n / 2 + length (pairs hash f) ≡ (n + length xs) / 2 = length_up hash n pins xs c in
      ap (λ z. nodes hash ps (n / 2) z h) up
      ∙ (cut_nodes h ps (n / 2) (size / 2) (pairs hash f) (half_pins n pins c) (omega arith) (omega arith)
      ∙ (ap (λ i. take (i - n / 2 / 2 ^ h) (nodes hash ps (n / 2) (pairs hash f) h)) (sym (half_first size h))
      ∙ ap (λ i. take (size / 2 ^ suc h - i) (nodes hash ps (n / 2) (pairs hash f) h)) (sym (half_first n h))))

  -- one leaf more at the end
  pub leaves_from_one_more : (n : ℕ) (xs : List (List ℕ)) (x : List ℕ) → leaves_from hash n (xs ++ x ∷ []) ≡ leaves_from hash n xs ++ leaf hash (n + length xs) x ∷ []
  leaves_from_one_more n [] x = ap (λ k. leaf hash k x ∷ []) (omega arith)
  leaves_from_one_more n (y ∷ ys) x = ap (λ l. leaf hash n y ∷ l) (leaves_from_one_more (n + 1) ys x ∙ ap (λ k. leaves_from hash (n + 1) ys ++ leaf hash k x ∷ []) (omega arith))

  -- leaves in two runs
  pub leaves_from-append : (n : ℕ) (xs ys : List (List ℕ)) → leaves_from hash n (xs ++ ys) ≡ leaves_from hash n xs ++ leaves_from hash (n + length xs) ys
  leaves_from-append n [] ys = ap (λ k. leaves_from hash k ys) (omega arith)
  leaves_from-append n (x ∷ xs) ys = ap (λ l. leaf hash n x ∷ l) (leaves_from-append (n + 1) xs ys ∙ ap (λ k. leaves_from hash (n + 1) xs ++ leaves_from hash k ys) (omega arith))

  -- the size with the leaves of these items
  pub added_size : (v w : ListView) (items : List (List ℕ)) → w.front ≡ v.front → w.leaves ≡ v.leaves ++ leaves_from hash (list_size v) items → list_size w ≡ list_size v + length items
  added_size v w items f e = omega (arith, f, ap length e ∙ length-append v.leaves (leaves_from hash (list_size v) items), length-leaves_from hash (list_size v) items)

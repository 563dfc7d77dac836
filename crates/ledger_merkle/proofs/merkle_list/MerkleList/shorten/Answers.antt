use Rattle.std.proofs.Common.{◌≡◌, ℕ, ◌+◌, ◌-◌, ◌/◌, ◌≤◌, ◌^◌, [], length, get_or, take, reverse, count_ones, sym, ap, ◌∙◌, subst, arith}
use Rattle.std.proofs.lemmas.List.{length-take-le, length-reverse}
use Rattle.ledger_merkle.specs.Leaves.{ListView, list_size}
use Rattle.ledger_merkle.specs.Levels.{nodes}
use Rattle.ledger_merkle.proofs.Kept.{over_one}
use Rattle.ledger_merkle.proofs.Cut.{cut_nodes}
use Rattle.ledger_merkle.proofs.merkle_list.MerkleList.shorten.Goals as goal

pub invariant_of-self : goal.invariant_of-self
invariant_of-self g c =
    let hash = g.H.Hasher.digest in
    let front = c.self.inside.front in
    let pins = reverse c.self.inside.pinned.items in
    let old = c.self.inside.levels.items in
    let xs = get_or old 0 [] in
    let new = c.cut_levels.new.levels.items in
    let size = c.args.size in
    let a : c.get.result ≡ front = c.get.ensures.same in
    let b : c.get-2.result ≡ size = c.get-2.ensures.same in
    let least : front ≤ size = subst (λ (x : ListView). x.front ≤ size) (sym c.self.view_is) c.requires.least in
    let most : size ≤ front + length xs = subst (λ (x : ListView). size ≤ list_size x) (sym c.self.view_is) c.requires.most in
    let level = λ (h : ℕ). c.cut_levels.ensures h
    ∙ (ap (λ z. take (z / 2 ^ h - c.get.result / 2 ^ h) (get_or old h [])) b
    ∙ (ap (λ z. take (size / 2 ^ h - z / 2 ^ h) (get_or old h [])) a
    ∙ ap (take (size / 2 ^ h - front / 2 ^ h)) (c.self.invariant.2 h))) in
    let count : length pins ≡ count_ones front = length-reverse c.self.inside.pinned.items ∙ c.self.invariant.0 in
    let skip : size / 2 ^ 0 - front / 2 ^ 0 ≡ size - front = omega (arith, over_one size, over_one front) in
    let first : get_or new 0 [] ≡ take (size - front) xs = level 0 ∙ ap (λ z. take z xs) skip in
    let long : length (get_or new 0 []) ≡ size - front = ap length first ∙ length-take-le (size - front) xs (omega arith) in
    let small : front + length xs ≤ 2 ^ 62 = c.self.invariant.1 in (
      c.self.invariant.0,
      omega arith,
      λ h. level h ∙ (sym (cut_nodes hash h pins front size xs count least most) ∙ ap (λ z. nodes hash pins front z h) (sym first)),
    )

use Rattle.std.proofs.Common.{◌≡◌, ◌≢◌, ◌∙◌, sym, take}
use Rattle.ledger_merkle.specs.Tree.{leaf}
use Rattle.ledger_merkle.proofs.Inputs.{if_both, leaf_collides, told_equal, told_different}
use Rattle.ledger_merkle.proofs.binding.leaves_of.Goals as goal

pub returns-then-ne-clause-met : goal.returns-then-ne-clause-met
returns-then-ne-clause-met g c =
    let hash = g.H.Hasher.digest in
    let x = take c.leaf_bytes-len.result c.leaf_bytes-len.new.out in
    let y = take c.leaf_bytes-len-2.result c.leaf_bytes-len-2.new.out in
    let differ : x ≢ y = told_different x y c.ne.result c.ne.ensures c.if-ne.true in
    let same : leaf hash c.args.at x ≡ leaf hash c.args.at y =
    sym c.hash_leaf.ensures ∙ (told_equal c.hash_leaf.result c.hash_leaf-2.result c.eq.result c.eq.ensures c.if-eq.true ∙ c.hash_leaf-2.ensures) in
    c.inputs.ensures hash (if_both c.leaf_input-input.result c.leaf_input.result _ _ _ (λ a b p q. leaf_collides hash c.args.at x y a.items b.items differ same p q) c.leaf_input-input.ensures c.leaf_input.ensures)

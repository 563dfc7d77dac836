use Rattle.std.proofs.Common.{◌≡◌, ◌≢◌, ◌∙◌, sym, length}
use Rattle.ledger_merkle.specs.Tree.{node}
use Rattle.ledger_merkle.proofs.Inputs.{if_both, node_collides, told_equal, told_different}
use Rattle.ledger_merkle.proofs.binding.nodes_of.Goals.{then-ne, else-ne}
use Rattle.ledger_merkle.proofs.binding.nodes_of.Goals as goal

pub returns-then-ne-2-clause-met : goal.returns-then-ne-2-clause-met
returns-then-ne-2-clause-met g c =
    let hash = g.H.Hasher.digest in
    let l = c.args.left.now in
    let r = c.args.right.now in
    let x = c.args.one.now in
    let y = c.args.other.now in
    let long : length l ≡ length r = search in
    let differ : l ≡ r → x ≢ y =
    elim c.if-ne.branch [
      | then-ne w ↦ λ e. absurd (told_different l r c.ne.result c.ne.ensures w.if-ne.true e)
      | else-ne w ↦ λ e. told_different x y w.ne-else-ne.result w.ne-else-ne.ensures (sym w.value-is ∙ c.if-ne-2.true)
    ] in
    let same : node hash l x ≡ node hash r y =
    sym c.hash_node.ensures ∙ (told_equal c.hash_node.result c.hash_node-2.result c.eq.result c.eq.ensures c.if-eq.true ∙ c.hash_node-2.ensures) in
    c.inputs.ensures hash (if_both c.node_input-input.result c.node_input.result _ _ _ (λ a b p q. node_collides hash l r x y a.items b.items long differ same p q) c.node_input-input.ensures c.node_input.ensures)

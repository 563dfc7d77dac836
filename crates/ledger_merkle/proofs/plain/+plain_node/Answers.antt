use Rattle.std.proofs.Common.{rules, ◌≡◌, suc, ◌+◌, ◌-◌, ◌<◌, ◌≤◌, ◌^◌, [], length, get_or, sym, ap, ◌∙◌, arith}
use Rattle.std.proofs.Math.Pow.{pow_pos}
use Rattle.ledger_merkle.specs.Tree.{node}
use Rattle.ledger_merkle.specs.Levels.{tree}
use Rattle.ledger_merkle.proofs.Ranges.{two_halves}
use Rattle.ledger_merkle.proofs.Trees.{tree_leaf, tree_node}
use Rattle.ledger_merkle.proofs.plain.+plain_node.Goals as goal

pub returns-then-height-eq0 : goal.returns-then-height-eq0
returns-then-height-eq0 g t c =
    let trees = tree g.H.Hasher.digest [] 0 c.args.leaves.now in
    let none : 0 ≤ c.args.at = omega arith in
    let same : c.args.at - 0 ≡ c.args.at = omega arith in
    ap (λ i. get_or c.args.leaves.now i []) (sym same)
    ∙ (sym (tree_leaf g.H.Hasher.digest [] 0 c.args.leaves.now c.args.at none) ∙ ap (λ k. trees k c.args.at) (sym c.if-height-eq0.true))

pub plain_node-left-requires : goal.plain_node-left-requires
plain_node-left-requires g t c κs within =
    let i : c.args.height ≡ suc (c.args.height - 1) = omega arith in
    let two : 2 ^ c.args.height ≡ 2 ^ (c.args.height - 1) + 2 ^ (c.args.height - 1) = two_halves c.args.height (c.args.height - 1) i in
    let less : c.args.height - 1 < t = omega (arith, c.decreases) in
    let high : c.args.height - 1 ≤ 62 = omega (arith, c.requires.high) in
    let room : c.args.at + 2 ^ (c.args.height - 1) ≤ length c.args.leaves.now = omega (arith, c.requires.within) in
    search rules

pub plain_node-right-requires : goal.plain_node-right-requires
plain_node-right-requires g t c κs within =
    let i : c.args.height ≡ suc (c.args.height - 1) = omega arith in
    let two : 2 ^ c.args.height ≡ 2 ^ (c.args.height - 1) + 2 ^ (c.args.height - 1) = two_halves c.args.height (c.args.height - 1) i in
    let less : c.args.height - 1 < t = omega (arith, c.decreases) in
    let high : c.args.height - 1 ≤ 62 = omega (arith, c.requires.high) in
    let width : c.width_of.result ≡ 2 ^ (c.args.height - 1) = c.width_of.ensures.width in
    let room : c.args.at + c.width_of.result + 2 ^ (c.args.height - 1) ≤ length c.args.leaves.now = omega (arith, c.requires.within) in
    search rules

pub returns : goal.returns
returns g t c =
    let hash = g.H.Hasher.digest in
    let leaves = c.args.leaves.now in
    let trees = tree hash [] 0 leaves in
    let j = c.args.height - 1 in
    let at = c.args.at in
    let i : c.args.height ≡ suc j = omega arith in
    let some : 0 < 2 ^ suc j = pow_pos (suc j) in
    let past : 0 < at + 2 ^ suc j = omega arith in
    let left : c.plain_node-left.result ≡ trees j at = c.plain_node-left.ensures in
    let right : c.plain_node-right.result ≡ trees j (at + 2 ^ j) = c.plain_node-right.ensures ∙ ap (λ x. trees j (at + x)) c.width_of.ensures.width in
    c.hash_node.ensures
    ∙ (ap (λ x. node hash x c.plain_node-right.result) left
    ∙ (ap (node hash (trees j at)) right
    ∙ (sym (tree_node hash [] 0 leaves j at past) ∙ ap (λ k. trees k at) (sym i))))

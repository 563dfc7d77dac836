use Rattle.std.proofs.Common.{◌≡◌, ◌+◌, ◌∙◌, length, map, arith}
use Rattle.ledger_merkle.specs.Tree.{grow}
use Rattle.ledger_log.specs.View.{log_size}
use Rattle.ledger_raising.proofs.Grown.{root_grown}
use Rattle.ledger_raising.proofs.roots.root_behind.Goals as goal

pub returns : goal.returns
returns g c =
    let size : c.in_ok-extended.field-0.size ≡ log_size c.args.log.now + length c.args.ops.now = omega (arith, c.in_ok-extended.ensures.size, c.in_ok-peaks.ensures.size) in
    let nodes : c.in_ok-extended.field-0.nodes ≡ grow g.H.Hasher.digest (log_size c.args.log.now) c.in_ok-peaks.peaks.nodes (map g.F.Op.Leaf.spelling c.args.ops.now) =
    let a = c.in_ok-extended.ensures.nodes in
    let b = c.in_ok-peaks.ensures.size in
    cc in
    let grown = root_grown g.H.Hasher.digest g.F.Op.Leaf.spelling c.args.log.now c.args.ops.now c.in_ok-extended.field-0.size c.in_ok-peaks.peaks.nodes c.in_ok-extended.field-0.nodes c.in_ok-peaks.ensures.nodes size nodes in
    c.root-2.ensures ∙ grown

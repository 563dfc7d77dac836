use Rattle.std.proofs.Common.{◌≡◌, length, ap, ◌∙◌, arith}
use Rattle.std.specs.Int.RustNames.{count_ones}
use Rattle.ledger_merkle.proofs.Inputs.{ones_below}
use Rattle.ledger_merkle.proofs.binding.push_both.Goals as goal

pub replace_tail-requires-clause-room : goal.replace_tail-requires-clause-room
replace_tail-requires-clause-room g c =
    let count : length c.nodes.result.now ≡ count_ones c.args.size = ap length c.nodes.ensures ∙ c.requires.left in
    omega (arith, count, c.in_ok-kept.ensures.within, ones_below 62 c.args.size c.requires.most)

pub replace_tail-requires-2-clause-room : goal.replace_tail-requires-2-clause-room
replace_tail-requires-2-clause-room g c =
    let count : length c.nodes.result.now ≡ count_ones c.args.size = ap length c.nodes.ensures ∙ c.requires.left in
    omega (arith, count, c.in_ok-kept.ensures.within, ones_below 62 c.args.size c.requires.most)

use Rattle.std.proofs.Common.{◌≡◌, ◌+◌, ◌≤◌, ◌^◌, ◌∷◌, [], None, Some, length, map, sym, ap, ◌∙◌, arith}
use Rattle.std.specs.Int.RustNames.{count_ones}
use Rattle.ledger_merkle.specs.Tree.{grow}
use Rattle.ledger_compact.proofs.Growing.{ones_none, count_after, proved_after}
use Rattle.ledger_compact.proofs.compact.CompactLog.fresh.Goals as goal

pub invariant_of-result-2 : goal.invariant_of-result-2
invariant_of-result-2 g c =
    let hash = g.H.Hasher.digest in
    let spelling = g.F.Op.Leaf.spelling in
    let n = c.new.result.size in
    let ps = c.new.result.nodes in
    let last = c.commit-last.result in
    let p = c.in_ok-peaks.peaks in
    let zero : n ≡ 0 = c.new.ensures.0 in
    let none : ps ≡ [] = c.new.ensures.1 in
    let count : length ps ≡ count_ones n = ap length none ∙ (sym ones_none ∙ ap count_ones (sym zero)) in
    let size : p.size ≡ n + 0 + 1 = omega (arith, c.in_ok-peaks.ensures.size) in
    let most : p.size ≤ 2 ^ 62 = omega (arith, zero, size) in
    let before : c.new-2.result.items ≡ grow hash n ps (map spelling []) = c.new-2.ensures.items ∙ sym none in
    let nodes : p.nodes ≡ grow hash n ps (map spelling (last ∷ [])) = c.in_ok-peaks.ensures.nodes in
    let floor : g.F.Family.floor_of last ≡ Some 0 = ap g.F.Family.floor_of c.commit-last.ensures ∙ g.met.F.Family.commit_has_floor None 0 in (
      most,
      count_after hash spelling n ps [] last p.size p.nodes c.new-2.result.items count size most before nodes,
      floor,
      omega (arith, zero, size),
      proved_after hash spelling n ps [] last p.size p.nodes c.new-2.result.items count size most before nodes,
    )

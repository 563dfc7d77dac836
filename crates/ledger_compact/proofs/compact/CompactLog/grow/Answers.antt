use Rattle.std.proofs.Common.{◌≡◌, ◌+◌, ◌≤◌, ◌^◌, ◌∷◌, ◌++◌, [], length, ap, ◌∙◌, arith}
use Rattle.ledger_compact.specs.View.{CompactView, with_batch}
use Rattle.ledger_compact.proofs.Ends.{batch_last}
use Rattle.ledger_compact.proofs.Growing.{count_after, proved_after}
use Rattle.ledger_compact.proofs.Kept.{grown_view}
use Rattle.ledger_compact.proofs.compact.CompactLog.grow.Goals as goal

pub invariant_of-self : goal.invariant_of-self
invariant_of-self g c =
    let hash = g.H.Hasher.digest in
    let spelling = g.F.Op.Leaf.spelling in
    let n = c.self.inside.peaks.size in
    let ps = c.self.inside.peaks.nodes in
    let others = c.in-Some.others.now in
    let last = c.in-Some.last.now in
    let p = c.in_ok-grown.grown.peaks in
    let b = c.in_ok-grown.grown.before.items in
    let whole : c.args.ops.now ≡ others ++ last ∷ [] = c.in-Some.ensures.cases.0 in
    let long : length others + 1 ≡ length c.args.ops.now = c.in-Some.ensures.cases.1 in
    let old : n ≡ c.args.self.now.size = ap (λ (x : CompactView _). x.size) c.self.view_is in
    let size : p.size ≡ n + length others + 1 = c.in_ok-grown.ensures.size in
    let most : p.size ≤ 2 ^ 62 = omega (arith, c.requires.most) in
    let count = c.self.invariant.1 in (
      most,
      count_after hash spelling n ps others last p.size p.nodes b count size most c.in_ok-grown.ensures.before c.in_ok-grown.ensures.nodes,
      batch_last g.F.Family.floor_of c.args.ops.now others last c.args.floor whole c.requires.commit,
      omega (arith, c.requires.within),
      proved_after hash spelling n ps others last p.size p.nodes b count size most c.in_ok-grown.ensures.before c.in_ok-grown.ensures.nodes,
    )

pub returns-clause-ok : goal.returns-clause-ok
returns-clause-ok g c =
    let hash = g.H.Hasher.digest in
    let spelling = g.F.Op.Leaf.spelling in
    let n = c.self.inside.peaks.size in
    let ps = c.self.inside.peaks.nodes in
    let others = c.in-Some.others.now in
    let last = c.in-Some.last.now in
    let p = c.in_ok-grown.grown.peaks in
    let old : CompactView _ = record { size = n; nodes = ps; before = c.self.inside.before.items; last = c.self.inside.last } in
    grown_view hash spelling old c.args.ops.now others last p.size p.nodes c.in_ok-grown.grown.before.items c.in-Some.ensures.cases.0 c.in_ok-grown.ensures.size c.in_ok-grown.ensures.nodes c.in_ok-grown.ensures.before
    ∙ ap (λ (x : CompactView _). with_batch hash spelling x c.args.ops.now) c.self.view_is

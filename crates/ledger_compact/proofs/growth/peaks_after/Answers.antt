use Rattle.std.proofs.Common.{◌≡◌, ◌+◌, ◌∷◌, [], length, map, sym, ap, ◌∙◌}
use Rattle.ledger_merkle.specs.Tree.{grow, leaf, push}
use Rattle.ledger_merkle.specs.Views.{PeaksView}
use Rattle.ledger_log.proofs.Floors.{grow_ops}
use Rattle.ledger_compact.proofs.growth.peaks_after.Goals as goal

pub returns-clause-nodes : goal.returns-clause-nodes
returns-clause-nodes g c =
    let hash = g.H.Hasher.digest in
    let spelling = g.T.Leaf.spelling in
    let n = c.args.peaks.now.size in
    let ps = c.args.peaks.now.nodes in
    let others = c.args.others.now in
    let last = c.args.last.now in
    let e = c.in_ok-earlier.earlier in
    let size : e.size ≡ n + length others = c.in_ok-earlier.ensures.size ∙ ap (λ (x : PeaksView). x.size + length others) c.in_ok-copy.ensures in
    let nodes : e.nodes ≡ grow hash n ps (map spelling others) = c.in_ok-earlier.ensures.nodes ∙ ap (λ (x : PeaksView). grow hash x.size x.nodes (map spelling others)) c.in_ok-copy.ensures in
    c.in_ok-peaks.ensures.nodes
    ∙ (ap (λ k. push hash k e.nodes (leaf hash k (spelling last))) size
    ∙ (ap (λ l. push hash (n + length others) l (leaf hash (n + length others) (spelling last))) nodes ∙ sym (grow_ops hash spelling n ps others (last ∷ []))))

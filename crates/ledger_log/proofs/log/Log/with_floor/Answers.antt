use Rattle.std.proofs.Common.{◌≡◌, length, map, ap, subst, ◌∙◌}
use Rattle.std.proofs.lemmas.List.{length-map}
use Rattle.ledger_merkle.proofs.Levels.{length-leaves_from}
use Rattle.ledger_log.specs.Index.{IsIndex}
use Rattle.ledger_log.proofs.log.Log.with_floor.Goals as goal

pub invariant_of-result : goal.invariant_of-result
invariant_of-result g c =
    let hash = g.H.Hasher.digest in
    let spelling = g.F.Op.Leaf.spelling in
    let w = g.F.Family.write_of in
    let list = c.args.list in
    let ops = c.args.ops in
    let slice : c.as_slice.result.now ≡ ops = c.as_slice.ensures in
    let start : c.get.result ≡ list.front = c.get.ensures.same ∙ c.front.ensures.front in
    let many : length list.leaves ≡ length ops = ap length c.requires.leaves ∙ (length-leaves_from hash list.front (map spelling ops) ∙ length-map ops spelling) in
    let index : IsIndex w c.in_ok-index.index list.front ops =
    subst (λ z. IsIndex w c.in_ok-index.index list.front z) slice (subst (λ z. IsIndex w c.in_ok-index.index z c.as_slice.result.now) start c.in_ok-index.ensures) in (
      c.front.ensures.pins,
      c.requires.room,
      many,
      c.requires.leaves,
      c.requires.floor,
      c.requires.least,
      c.requires.most,
      index,
    )

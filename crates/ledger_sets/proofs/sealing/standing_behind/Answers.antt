use Rattle.std.proofs.Common.{◌≡◌, length, take, None, sym, ◌∙◌}
use Rattle.ledger_log.specs.View.{batch_floor}
use Rattle.ledger_log.specs.Faults.{batch_refusal}
use Rattle.ledger_log.specs.Immutable.{immutable_floor}
use Rattle.ledger_chain.proofs.Behind.{taken}
use Rattle.ledger_sets.specs.Meaning.{with_links, refusal}
use Rattle.ledger_sets.proofs.Links.{size_more, floor_more, refused_here, same_refusal}
use Rattle.ledger_sets.proofs.sealing.standing_behind.Goals as goal

pub loop-link-preserved : goal.loop-link-preserved
loop-link-preserved g c =
    let m = g.D.SetLog.meaning in
    let laws = g.met.D.SetLog.laws in
    let db = c.args.db.now in
    let links = c.args.links.now in
    let i = c.loop-link.link-index in
    let link = c.link-item.result in
    let here = c.loop-link-test.true in
    let at = c.link-item.is in
    let was = c.loop-link.invariant in
    let ops : c.ops.result.now ≡ c.link-item.result.ops = c.ops.ensures in
    let none : batch_refusal c.loop-link.standing.size c.loop-link.standing.floor (length c.ops.result.now) (batch_floor immutable_floor c.ops.result.now) ≡ None =
    taken (batch_refusal c.loop-link.standing.size c.loop-link.standing.floor (length c.ops.result.now) (batch_floor immutable_floor c.ops.result.now)) c.behind.result c.in-Ok.next c.behind.ensures.refusal c.in-Ok.is in
    let accepted : refusal g.D.SetLog.meaning (with_links g.D.SetLog.meaning c.args.db.now (take c.loop-link.link-index c.args.links.now)) c.link-item.result.ops ≡ None =
    sym (same_refusal m (with_links m db (take i links)) c.loop-link.standing.size c.loop-link.standing.floor link.ops c.ops.result.now was.size was.floor ops) ∙ none in
    record {
      size = size_more m db links i link here at laws c.loop-link.standing.size c.in-Ok.next.size c.ops.result.now was.size ops c.in-Ok.ensures.size;
      floor = floor_more m db links i link here at laws c.in-Ok.next.floor c.ops.result.now ops c.in-Ok.ensures.floor;
      rest = sym (refused_here m db links i link here at None accepted) ∙ was.rest;
    }

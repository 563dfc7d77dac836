use Rattle.std.proofs.Common.{◌≡◌, ◌≤◌, length, take, drop, None, sym, arith, ◌∙◌}
use Rattle.ledger_log.specs.View.{log_size, log_floor, batch_floor}
use Rattle.ledger_log.specs.Faults.{batch_refusal, append_refusal}
use Rattle.ledger_compact.specs.View.{with_ops}
use Rattle.ledger_chain.specs.Chain.{ops_of}
use Rattle.ledger_chain.proofs.Behind.{size_next, floor_next, refused_here, same_refusal, taken}
use Rattle.ledger_chain.proofs.standing.standing_behind.Goals as goal

pub loop-link-preserved : goal.loop-link-preserved
loop-link-preserved g c =
    let f = g.F.Family.floor_of in
    let log = c.args.log.now in
    let links = c.args.links.now in
    let i = c.loop-link.link-index in
    let link = c.link-item.result in
    let here = c.loop-link-test.true in
    let at = c.link-item.is in
    let was = c.loop-link.invariant in
    let ops : c.ops.result.now ≡ c.link-item.result.ops = c.ops.ensures in
    let none : batch_refusal c.loop-link.standing.size c.loop-link.standing.floor (length c.ops.result.now) (batch_floor g.F.Family.floor_of c.ops.result.now) ≡ None =
    taken (batch_refusal c.loop-link.standing.size c.loop-link.standing.floor (length c.ops.result.now) (batch_floor g.F.Family.floor_of c.ops.result.now)) c.behind.result c.in-Ok.next c.behind.ensures.refusal c.in-Ok.is in
    let accepted : append_refusal g.F.Family.floor_of (with_ops c.args.log.now (ops_of (take c.loop-link.link-index c.args.links.now))) c.link-item.result.ops ≡ None =
    sym (same_refusal f (with_ops log (ops_of (take i links))) c.loop-link.standing.size c.loop-link.standing.floor link.ops c.ops.result.now was.size was.floor ops) ∙ none in
    record {
      size = size_next links i link here at log c.loop-link.standing.size c.in-Ok.next.size c.ops.result.now was.size ops c.in-Ok.ensures.size;
      floor = floor_next links i link here at f log c.in-Ok.next.floor c.ops.result.now ops c.in-Ok.ensures.floor;
      least = omega (arith, was.least, c.in-Ok.ensures.least);
      low = c.in-Ok.ensures.low;
      room = c.in-Ok.ensures.room;
      rest = sym (refused_here links i link here at f log None accepted) ∙ was.rest;
    }

use Rattle.std.proofs.Common.{◌≡◌, take, None, sym, ap, ◌∙◌}
use Rattle.ledger_sets.specs.Meaning.{with_links, refusal}
use Rattle.ledger_sets.proofs.Links.{done_more, refused_here, taken_next, taken}
use Rattle.ledger_sets.proofs.applying.take_links.Goals as goal

pub loop-link-preserved : goal.loop-link-preserved
loop-link-preserved g c =
    let m = g.D.SetLog.meaning in
    let db = c.args.log.now in
    let links = c.args.links.now in
    let i = c.loop-link.link-index in
    let link = c.link-item.result in
    let here = c.loop-link-test.true in
    let at = c.link-item.is in
    let was = c.loop-link.invariant in
    let none : refusal g.D.SetLog.meaning c.loop-link.log c.ops.result.now ≡ None =
    taken (refusal m c.loop-link.log c.ops.result.now) c.take_batch.result c.in-Ok.field-0 c.take_batch.ensures.refusal c.in-Ok.is in
    let accepted : refusal g.D.SetLog.meaning (with_links g.D.SetLog.meaning c.args.log.now (take c.loop-link.link-index c.args.links.now)) c.link-item.result.ops ≡ None =
    sym (ap (λ z. refusal m z link.ops) was.now) ∙ sym (ap (refusal m c.loop-link.log) c.ops.ensures) ∙ none in
    record {
      now = c.in-Ok.ensures.ok ∙ ap (λ z. m.behind z c.ops.result.now) was.now ∙ ap (m.behind (with_links m db (take i links))) c.ops.ensures ∙ sym (done_more m db links i link here at);
      rest = sym (refused_here m db links i link here at None accepted) ∙ was.rest;
      taken = taken_next m db links i link here at accepted ∙ was.taken;
    }

use Rattle.std.proofs.Common.{◌≡◌, ◌∷◌, ◌++◌, Ok, ap, cond, true, sym, ◌∙◌}
use Rattle.std.specs.Prelude.{is_ok}
use Rattle.std.specs.Vec.Iter.{into_iter_items}
use Rattle.ledger_strategy.proofs.PartsLemmas.{pieces_more, pieces_all, fault_more}
use Rattle.ledger_strategy.proofs.lanes.joined.Goals as goal

pub loop-list-preserved : goal.loop-list-preserved
loop-list-preserved g c =
    let from = into_iter_items c.loop-list.list-iterator in
    let rest = into_iter_items c.next.new.self in
    let list = c.in-Ok.list in
    let whole = c.loop-list.whole.items in
    let is = c.in-Some.ensures.steps.0 ∙ ap (λ r. r ∷ rest) c.in-Ok.is in
    let ok : is_ok c.append.result ≡ true = c.if-is_err.ensures.negation in
    let items : c.append.new.self.items ≡ whole ++ list.items = c.append.ensures.items ∙ ap (λ b. cond b (whole ++ list.items) whole) ok in
    record {
      all = λ h. c.loop-list.invariant.all (pieces_all from rest list is h);
      refused = λ fault h. c.loop-list.invariant.refused fault (fault_more from rest c.in-Some.list fault c.in-Some.ensures.steps.0 h);
      whole = rw items (pieces_more whole from rest c.args.lists.items list is c.loop-list.invariant.whole);
    }

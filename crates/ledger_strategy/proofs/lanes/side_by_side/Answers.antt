use Rattle.std.proofs.Common.{sym, subst, ◌≡◌, arith}
use Rattle.ledger_strategy.specs.Parts.{AreResults}
use Rattle.ledger_strategy.proofs.PartsLemmas.{results_side_by_side, if_ok_both}
use Rattle.ledger_strategy.proofs.lanes.side_by_side.Goals as goal

pub returns : goal.returns
returns g c =
    let gives = goal.F-post g c.args.work.now in
    let parts = c.args.parts in
    if_ok_both c.joined.result _ _ _ (λ whole all is. subst (AreResults gives parts) (sym is)
    (results_side_by_side gives c.args.threads parts c.in_ok-rows.rows.items c.requires.some (omega (arith, c.in_ok-rows.rows.ok, c.in_ok-rows.ensures.len)) all (λ i d l. (c.in_ok-rows.ensures.each i d l).1.met))) c.joined.ensures.all c.joined.ensures.whole

use Rattle.std.proofs.Common.{◌≡◌, ◌+◌, ◌++◌, ◌∷◌, [], List, take, sym, ap, subst, ◌∙◌}
use Rattle.std.proofs.lemmas.List.{take_all}
use Rattle.std.proofs.lemmas.Result.{err_from_is_err_and}
use Rattle.std.specs.Map.{keys_of}
use Rattle.ledger_transfers.specs.declared.change.Change.{Change}
use Rattle.ledger_transfers.specs.Touches.{IsPlanOf, IsWithinSums}
use Rattle.ledger_transfers.specs.Registering.{touched}
use Rattle.ledger_transfers.proofs.OrderOfTouches.{touched_push}
use Rattle.ledger_transfers.proofs.PlanLemmas.{IsPlanOf-push, IsWithinSums-push, gather_fails_at, next_touches}
use Rattle.ledger_transfers.proofs.plan.add_touches.Goals as goal

pub returns-in_err-add_touch-clause-fails : goal.returns-in_err-add_touch-clause-fails
returns-in_err-add_touch-clause-fails g c =
    let p = err_from_is_err_and c.from_residual.result c.from_residual.ensures.1 in
    rw (p.1, p.2) (λ before more plan. gather_fails_at g.K.PartialEq.eq g.met.K.Eq.laws before c.args.all.now more c.loop-key.key-index c.loop-key-item.result c.loop-key.table.entries c.in_err-add_touch.field-0.0 c.loop-key-test.true c.loop-key-item.is
    (c.loop-key.invariant.plan before plan) c.in_err-add_touch.ensures.fails)

pub loop-key-preserved : goal.loop-key-preserved
loop-key-preserved g c =
    let eq = g.K.PartialEq.eq in
    let i = c.loop-key.key-index in
    let all = c.args.all.now in
    let t = c.loop-key-item.result in
    let more = λ (before : List (g.row.K.Denot × Change g.row.E.Denot)). next_touches before all i t c.loop-key-test.true c.loop-key-item.is in
    record {
      plan = λ before plan. subst (λ us. IsPlanOf eq us c.add_touch.new.table.entries) (more before)
          (IsPlanOf-push eq g.met.K.Eq.laws (before ++ take i all) t _ _ (c.loop-key.invariant.plan before plan) c.in_ok-add_touch.ensures.unique c.in_ok-add_touch.ensures.ok.0);
      order = λ before order. ap keys_of c.in_ok-add_touch.ensures.entries ∙ touched_push eq (before ++ take i all) t _ _ (c.loop-key.invariant.order before order) ∙ ap (touched eq []) (more before);
      within = λ before plan within. subst (IsWithinSums eq) (more before)
          (IsWithinSums-push eq g.met.K.Eq.laws (before ++ take i all) t _ (c.loop-key.invariant.plan before plan) c.in_ok-add_touch.ensures.fits (c.loop-key.invariant.within before plan within));
    }

pub returns-clause-plan : goal.returns-clause-plan
returns-clause-plan g c = λ before plan.
    subst (λ us. IsPlanOf g.K.PartialEq.eq (before ++ us) c.loop-key.table.entries) (take_all c.loop-key.key-index c.args.all.now c.loop-key-test.false) (c.loop-key.invariant.plan before plan)

pub returns-clause-order : goal.returns-clause-order
returns-clause-order g c = λ before order.
    subst (λ us. keys_of c.loop-key.table.entries ≡ touched g.K.PartialEq.eq [] (before ++ us)) (take_all c.loop-key.key-index c.args.all.now c.loop-key-test.false) (c.loop-key.invariant.order before order)

pub returns-clause-within : goal.returns-clause-within
returns-clause-within g c = λ before plan within.
    subst (λ us. IsWithinSums g.K.PartialEq.eq (before ++ us)) (take_all c.loop-key.key-index c.args.all.now c.loop-key-test.false) (c.loop-key.invariant.within before plan within)

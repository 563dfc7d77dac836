use Rattle.std.proofs.Common.{◌≡◌, ◌+◌, ◌++◌, ◌∷◌, [], take, drop, sym, ap, subst, ◌∙◌}
use Rattle.std.proofs.lemmas.List.{take_more, take_all, take-append-drop}
use Rattle.std.proofs.lemmas.Result.{err_from_is_err_and}
use Rattle.std.specs.Map.{keys_of}
use Rattle.ledger_transfers.specs.Adds.{GatherFails}
use Rattle.ledger_transfers.specs.Touches.{touches, IsPlanOf, IsWithinSums}
use Rattle.ledger_transfers.specs.Registering.{touched}
use Rattle.ledger_transfers.proofs.TouchesLemmas.{touches_append}
use Rattle.ledger_transfers.proofs.PlanLemmas.{batch_step, batch_whole}
use Rattle.ledger_transfers.proofs.plan.gather.Goals as goal

pub returns-in_err-add_touches-clause-fails : goal.returns-in_err-add_touches-clause-fails
returns-in_err-add_touches-clause-fails g c =
    let f = g.T.Transfer.changes_of in
    let ts = c.args.transfers.now in
    let i = c.loop-transfer.transfer-index in
    let here : c.as_slice.result.now ≡ touches f (c.transfer-item.result ∷ []) = c.as_slice.ensures.value ∙ c.in_ok-touches_into.ensures in
    let whole = batch_whole f ts i c.transfer-item.result c.as_slice.result.now c.loop-transfer-test.true c.transfer-item.is here in
    let p = err_from_is_err_and c.from_residual-in_err-add_touches.result c.from_residual-in_err-add_touches.ensures.1 in
    rw (p.1, p.2) (subst (λ us. GatherFails g.K.PartialEq.eq us c.in_err-add_touches.field-0.0) whole
    (c.in_err-add_touches.ensures.fails (touches f (take i ts)) (touches f (drop (i + 1) ts)) c.loop-transfer.invariant.plan))

pub loop-transfer-preserved : goal.loop-transfer-preserved
loop-transfer-preserved g c =
    let eq = g.K.PartialEq.eq in
    let f = g.T.Transfer.changes_of in
    let ts = c.args.transfers.now in
    let i = c.loop-transfer.transfer-index in
    let us = touches f (take i ts) in
    let here : c.as_slice.result.now ≡ touches f (c.transfer-item.result ∷ []) = c.as_slice.ensures.value ∙ c.in_ok-touches_into.ensures in
    let more : us ++ c.as_slice.result.now ≡ touches f (take (i + 1) ts) = batch_step f ts i c.transfer-item.result c.as_slice.result.now c.loop-transfer-test.true c.transfer-item.is here in
    record {
      plan = subst (λ vs. IsPlanOf eq vs c.add_touches.new.table.entries) more (c.in_ok-add_touches.ensures.plan us c.loop-transfer.invariant.plan);
      order = c.in_ok-add_touches.ensures.order us c.loop-transfer.invariant.order ∙ ap (touched eq []) more;
      within = subst (IsWithinSums eq) more (c.in_ok-add_touches.ensures.within us c.loop-transfer.invariant.plan c.loop-transfer.invariant.within);
    }

pub returns-clause-plan : goal.returns-clause-plan
returns-clause-plan g c =
    subst (λ us. IsPlanOf g.K.PartialEq.eq (touches g.T.Transfer.changes_of us) c.loop-transfer.table.entries) (take_all c.loop-transfer.transfer-index c.args.transfers.now c.loop-transfer-test.false) c.loop-transfer.invariant.plan

pub returns-clause-order : goal.returns-clause-order
returns-clause-order g c =
    subst (λ us. keys_of c.loop-transfer.table.entries ≡ touched g.K.PartialEq.eq [] (touches g.T.Transfer.changes_of us)) (take_all c.loop-transfer.transfer-index c.args.transfers.now c.loop-transfer-test.false) c.loop-transfer.invariant.order

pub returns-clause-within : goal.returns-clause-within
returns-clause-within g c =
    subst (λ us. IsWithinSums g.K.PartialEq.eq (touches g.T.Transfer.changes_of us)) (take_all c.loop-transfer.transfer-index c.args.transfers.now c.loop-transfer-test.false) c.loop-transfer.invariant.within

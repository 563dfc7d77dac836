use Rattle.std.proofs.Common.{subst}
use Rattle.std.proofs.lemmas.Result.{err_from_is_err_and}
use Rattle.ledger_settling.specs.Blocks.{meaning}
use Rattle.ledger_settling.specs.Slots.{BodyFails}
use Rattle.ledger_settling.proofs.RunLemmas.{body_block_fails}
use Rattle.ledger_settling.proofs.settle.settle_block.Goals as goal

pub returns-in_err-settle_body-in-Body-clause-fails : goal.returns-in_err-settle_body-in-Body-clause-fails
returns-in_err-settle_body-in-Body-clause-fails g c =
    let m = meaning g.T.Transfer.changes_of g.A.PartialEq.eq g.A.Account.rules g.A.AccountValue.values in
    let f = c.in_err-settle_body-in-Body.field-0.0 in
    let fails = subst (λ b. BodyFails m c.args.log.now c.args.place b f) c.as_slice.ensures c.in_err-settle_body-in-Body.ensures.fails in
    let p = err_from_is_err_and c.from_residual.result c.from_residual.ensures.1 in
    rw (p.1, p.2) (body_block_fails m c.args.log.now c.args.place c.in-Body.batch c.args.block.now f c.in-Body.is fails)

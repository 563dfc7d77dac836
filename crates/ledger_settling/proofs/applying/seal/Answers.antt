use Rattle.std.proofs.Common.{◌≡◌, ◌<◌, ◌≤◌, ap, ◌∙◌, arith}
use Rattle.ledger_log.specs.Any.{any_floor}
use Rattle.ledger_log.specs.View.{floor_or_zero, log_floor, log_size}
use Rattle.ledger_batches.specs.Batches.{SealedView}
use Rattle.ledger_log.specs.declared.any.AnyOp.{AnyOp}
use Rattle.ledger_settling.proofs.BatchLemmas.{ops_kept, taken_kept, fails_kept, law_kept}
use Rattle.ledger_settling.proofs.applying.seal.Goals as goal

pub returns-in-Ok-merkleize-clause-ops : goal.returns-in-Ok-merkleize-clause-ops
returns-in-Ok-merkleize-clause-ops c =
    ap (λ (b : SealedView AnyOp). b.own.ops) c.in-Ok-merkleize.ensures.ok
    ∙ ops_kept c.args.log.now c.args.staged c.in-Ok.slots.items c.len.result c.args.writes.items c.requires c.in-Ok.ensures

pub returns-in-Ok-merkleize-clause-may : goal.returns-in-Ok-merkleize-clause-may
returns-in-Ok-merkleize-clause-may c = taken_kept c.args.log.now c.args.staged c.in-Ok.slots.items c.len.result c.args.writes.items c.requires c.in-Ok.ensures c.in-Ok-merkleize.ensures.may

pub returns-in-Ok-merkleize-clause-law : goal.returns-in-Ok-merkleize-clause-law
returns-in-Ok-merkleize-clause-law c =
    law_kept c.args.log.now c.args.staged c.in-Ok.slots.items c.len.result c.args.writes.items c.requires c.in-Ok.ensures c.in-Ok-merkleize.batch.own.ops c.in-Ok-merkleize.ensures.law

pub returns-in-Err-merkleize-clause-fails : goal.returns-in-Err-merkleize-clause-fails
returns-in-Err-merkleize-clause-fails c =
    let log = c.args.log.now in
    let is : log_floor any_floor log ≡ c.floor-floor.result = ap floor_or_zero c.floor-floor.ensures.floor in
    let most : c.floor-floor.result < log_size log = c.floor-floor.ensures.most in
    let low : log_floor any_floor log ≤ log_size log = omega (arith, is, most) in
    fails_kept log c.args.staged c.in-Ok.slots.items c.len.result c.args.writes.items c.requires c.in-Ok.ensures low c.in-Err-merkleize.fault c.in-Err-merkleize.ensures.refuses

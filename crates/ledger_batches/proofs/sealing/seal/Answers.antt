use Rattle.std.proofs.Common.{ap, ◌∙◌}
use Rattle.ledger_log.specs.Faults.{append_refusal}
use Rattle.ledger_compact.specs.View.{with_ops}
use Rattle.ledger_batches.proofs.Taken.{floor_taken}
use Rattle.ledger_batches.proofs.sealing.seal.Goals as goal

pub sealed_of-requires-clause-floor : goal.sealed_of-requires-clause-floor
sealed_of-requires-clause-floor g c =
    let f = g.F.Family.floor_of in
    let log = with_ops c.args.log.now c.as_slice.result.now in
    floor_taken f log c.in-Ok-raise.batch.ops.items c.in-Ok-raise.batch.floor (ap (append_refusal f log) c.in-Ok-raise.ensures.ok ∙ c.in-Ok-raise.ensures.may) c.in-Ok-raise.ensures.floor

use Rattle.std.proofs.Common.{◌≡◌, length, Some, Err, sym, subst, ◌∙◌, MatchOption, IsOkUnless}
use Rattle.ledger_log.specs.declared.fault.LogFault.TheVariants.{OutOfMemory}
use Rattle.ledger_log.specs.Faults.{batch_refusal}
use Rattle.ledger_log.specs.View.{log_size, log_floor, last_floor, batch_floor}
use Rattle.ledger_log.proofs.Floors.{last_of_batch}
use Rattle.ledger_log.proofs.log.Log.append_batch.Goals as goal

pub returns-clause-refusal : goal.returns-clause-refusal
returns-clause-refusal g c =
    let f = g.F.Family.floor_of in
    let log = c.args.self.now in
    let ops = c.args.ops.now in
    let batch : batch_floor f ops ≡ Some c.in-Some._floor = sym c.in-Some.ensures.floor in
    let same : last_floor f ops ≡ batch_floor f ops = last_of_batch f ops c.in-Some._floor batch ∙ sym batch in
    subst (λ z. MatchOption (batch_refusal (log_size log) (log_floor f log) (length ops) z) (IsOkUnless c.append_batches.result OutOfMemory) (λ fault. c.append_batches.result ≡ Err fault)) same c.append_batches.ensures.refusal

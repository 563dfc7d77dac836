use Rattle.std.proofs.Common.{◌≡◌, length, Err, sym, subst, MatchOption, IsOkUnless}
use Rattle.std.specs.Prelude.{IfOk}
use Rattle.ledger_log.specs.declared.fault.LogFault.TheVariants.{OutOfMemory}
use Rattle.ledger_log.specs.View.{LogView, log_size, log_floor}
use Rattle.ledger_compact.specs.View.{with_ops}
use Rattle.ledger_examples.specs.Batches.{batches_of, with_batches}
use Rattle.ledger_examples.proofs.Runs.{run_taken, with_all, ok_alone}
use Rattle.ledger_examples.proofs.adding.append_run.Goals as goal

pub returns-clause-may : goal.returns-clause-may
returns-clause-may g c =
    let f = g.F.Family.floor_of in
    let log = c.args.log.now in
    let ops = c.args.ops.now in
    subst (λ z. MatchOption z (IsOkUnless c.append_batches.result OutOfMemory) (λ fault. c.append_batches.result ≡ Err fault)) (run_taken f (log_size log) (log_floor f log) ops c.requires.some c.requires.taken) c.append_batches.ensures.refusal

pub returns-clause-ok : goal.returns-clause-ok
returns-clause-ok g c =
    let f = g.F.Family.floor_of in
    let log = c.args.log.now in
    let ops = c.args.ops.now in
    ok_alone c.append_batches.result (c.append_batches.new.self ≡ with_batches with_ops log (batches_of f ops)) (subst (λ (z : LogView g.row.F-Op.Denot). IfOk c.append_batches.result (λ _. c.append_batches.new.self ≡ z)) (sym (with_all f log ops)) c.append_batches.ensures.ok)

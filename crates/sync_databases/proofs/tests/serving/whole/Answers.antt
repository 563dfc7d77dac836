use Rattle.std.proofs.Common.{◌≤◌, ap, subst, ◌∙◌}
use Rattle.ledger_compact.specs.View.{fresh_log}
use Rattle.ledger_log.specs.Any.{any_commit, any_floor, any_spelling}
use Rattle.ledger_sync.proofs.Bringing.{begins_so}
use Rattle.ledger_sync.specs.Brought.{idle}
use Rattle.sync_client.proofs.SentOperations.{any_sent}
use Rattle.sync_net.specs.Core.{data_of}
use Rattle.sync_databases.proofs.Fresh.{fresh_stands, fresh_whole, only_memory, target_told}
use Rattle.sync_databases.proofs.tests.serving.whole.Goals as goal

pub returns-in-Ok-clause-own : goal.returns-in-Ok-clause-own
returns-in-Ok-clause-own c =
    let e = c.new-machine.ensures ∙ ap idle c.new.ensures in
    let held = data_of any_spelling any_floor (fresh_log any_commit) in
    let target = c.in-Some.made.0 in
    let own = c.in-Ok.ensures.serving held fresh_stands any_sent (target_told target c.in-Some.ensures.target) (begins_so held c.new-machine.result _ e c.in-Some.ensures.serves) in
    own.0 ∙ fresh_whole

pub returns-clause-may : goal.returns-clause-may
returns-clause-may c =
    let e = c.new-machine.ensures ∙ ap idle c.new.ensures in
    let held = data_of any_spelling any_floor (fresh_log any_commit) in
    let target = c.in-Some.made.0 in
    let served = c.in-Err.ensures.serving held fresh_stands any_sent (target_told target c.in-Some.ensures.target) (begins_so held c.new-machine.result _ e c.in-Some.ensures.serves) in
    only_memory c.args.limits.now target (subst (λ n. n ≤ 64) c.outstanding-few.ensures.same c.outstanding-few.ensures.most) c.sync_log.new.machine _ _ _ _ c.new-machine.result e _ c.in-Err.fault c.in-Err.ensures.synced served (c.in-Err.ensures.steady c.in-Some.ensures.steady).1

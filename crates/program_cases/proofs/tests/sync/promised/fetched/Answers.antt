use Rattle.std.proofs.Common.{◌≤◌, Some, Ok, Err, ap, subst, ◌∙◌}
use Rattle.ledger_log.specs.Any.{any_floor, any_spelling}
use Rattle.ledger_log.specs.Spellings.{any_at}
use Rattle.ledger_sync.proofs.Bringing.{begins_so, full_can, served_may}
use Rattle.ledger_sync.specs.Brought.{idle, link_over}
use Rattle.ledger_sync.specs.Logs.{LogFetched}
use Rattle.sync_client.proofs.SentOperations.{any_sent}
use Rattle.sync_net.specs.Core.{data_of}
use Rattle.sync_net.specs.Service.{service_of}
use Rattle.sync_net.specs.View.{MachineView}
use Rattle.sync_program.specs.Fresh.{fresh_any}
use Rattle.sync_program.proofs.Serves.{fresh_stands}
use Rattle.sync_server.specs.Links.{service_told}
use Rattle.program_cases.proofs.Fetching.{only_memory, whole}
use Rattle.program_cases.proofs.tests.sync.promised.fetched.Goals as goal

pub returns-in-Ok-clause-own : goal.returns-in-Ok-clause-own
returns-in-Ok-clause-own c =
    let e = c.new-machine.ensures ∙ ap idle c.new.ensures in
    let held = data_of any_spelling any_floor fresh_any in
    let own = c.in-Ok.ensures.serving held fresh_stands any_sent (begins_so held c.new-machine.result _ e c.in-Some.ensures.serves) in
    own.0 ∙ whole

pub returns-clause-may : goal.returns-clause-may
returns-clause-may c =
    let e = c.new-machine.ensures ∙ ap idle c.new.ensures in
    let held = data_of any_spelling any_floor fresh_any in
    let link = c.in-Some.link in
    let later = c.fetch_log.new.link in
    let served = c.in-Err.ensures.serving held fresh_stands any_sent (begins_so held c.new-machine.result _ e c.in-Some.ensures.serves) in
    let over = link_over (service_of link.lost (service_told any_spelling any_floor link)) _ _ link.calls.faults later.calls.faults in
    let fetched = subst (λ (x : MachineView). LogFetched any_spelling any_floor c.args.limits.now (Err c.in-Err.fault) any_at any_spelling x c.fetch_log.new.machine over.wire over.wire_now over.count over.count_now) e c.in-Err.ensures.fetched in
    let can = full_can any_spelling any_floor any_at any_spelling over c.args.limits.now c.fetch_log.new.machine (subst (λ n. n ≤ 64) c.outstanding-few.ensures.same c.outstanding-few.ensures.most) c.in-Err.fault fetched in
    only_memory c.in-Err.fault link.calls.faults later.calls.faults (served_may any_spelling held fresh_any c.fetch_log.new.machine _ c.in-Err.fault can served) (c.in-Err.ensures.steady c.in-Some.ensures.steady).1

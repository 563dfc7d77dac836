use Rattle.std.proofs.Common.{◌≡◌, ◌∙◌, ap, ℕ, Option, Some, None, Result, Err, false, []}
use Rattle.ledger_log.specs.Any.{any_floor, any_spelling}
use Rattle.ledger_log.specs.declared.target.Target.{Target}
use Rattle.sync_client.specs.Owing.{Begins}
use Rattle.sync_client.specs.declared.fault.SyncFault.{SyncFault}
use Rattle.sync_net.specs.Core.{data_of}
use Rattle.sync_net.specs.Service.{Service, service_of}
use Rattle.sync_net.specs.View.{MachineView}
use Rattle.sync_server.specs.Links.{service_told}
use Rattle.follow_promises.specs.Four.{four_log}
use Rattle.follow_promises.proofs.Fours.{told_four, begins_new, fetch_may, fetch_spans}
use Rattle.follow_promises.proofs.tests.four.asked.Goals as goal

pub returns-in-Ok-clause-own : goal.returns-in-Ok-clause-own
returns-in-Ok-clause-own c =
    let l = c.in-Some.log in
    let e = c.in-Some.ensures in
    let link = c.link_to-link.result in
    let later = c.fetch_target.new.link in
    let before : Option Service = service_of link.lost (service_told any_spelling any_floor link) in
    let after : Option Service = service_of later.lost (service_told any_spelling any_floor later) in
    let new : c.new-machine.result ≡ record { next = Some 1; pending = []; held = []; closed = false } = c.new-machine.ensures ∙ ap (λ (n : Option ℕ). let m : MachineView = record { next = n; pending = []; held = []; closed = false } in m) c.new.ensures in
    let begins : Begins (data_of any_spelling any_floor l) c.new-machine.result before = begins_new l c.new-machine.result before new c.link_to-link.ensures.serves in
    fetch_spans l e c.fetch_target.new.machine after c.in-Ok.target (c.in-Ok.ensures.serving (data_of any_spelling any_floor l) (told_four l e) begins)

pub returns-clause-may : goal.returns-clause-may
returns-clause-may c =
    let l = c.in-Some.log in
    let e = c.in-Some.ensures in
    let link = c.link_to-link.result in
    let later = c.fetch_target.new.link in
    let before : Option Service = service_of link.lost (service_told any_spelling any_floor link) in
    let after : Option Service = service_of later.lost (service_told any_spelling any_floor later) in
    let new : c.new-machine.result ≡ record { next = Some 1; pending = []; held = []; closed = false } = c.new-machine.ensures ∙ ap (λ (n : Option ℕ). let m : MachineView = record { next = n; pending = []; held = []; closed = false } in m) c.new.ensures in
    let begins : Begins (data_of any_spelling any_floor l) c.new-machine.result before = begins_new l c.new-machine.result before new c.link_to-link.ensures.serves in
    let steady = c.in-Err.ensures.steady c.link_to-link.ensures.steady in
    let result : Result Target SyncFault = Err c.in-Err.fault in
    fetch_may (data_of any_spelling any_floor l) four_log c.new-machine.result c.fetch_target.new.machine after result None None link.calls.faults later.calls.faults new (c.in-Err.ensures.serving (data_of any_spelling any_floor l) (told_four l e) begins) steady.1 c.in-Err.ensures.fetched

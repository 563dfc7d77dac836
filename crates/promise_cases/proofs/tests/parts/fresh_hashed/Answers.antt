use Rattle.std.proofs.Common.{◌≡◌, ◌∙◌, ap, ℕ, Option, [], false}
use Rattle.ledger_log.specs.Keyless.{keyless_floor, keyless_spelling}
use Rattle.sync_net.specs.Service.{Service, service_of}
use Rattle.sync_net.specs.View.{MachineView}
use Rattle.sync_server.specs.Links.{service_told}
use Rattle.promise_cases.proofs.Fetches.{new_machine}
use Rattle.promise_cases.proofs.Parts.{hashed_whole, whole_is}
use Rattle.promise_cases.proofs.tests.parts.fresh_hashed.Goals as goal

pub returns : goal.returns
returns c =
    let link = c.link_to-link.result in
    let later = c.sync_hashed.new.link in
    let log = c.in_ok-log.log in
    let before : Option Service = service_of link.lost (service_told keyless_spelling keyless_floor link) in
    let after : Option Service = service_of later.lost (service_told keyless_spelling keyless_floor later) in
    let new : c.new-machine.result ≡ new_machine = c.new-machine.ensures ∙ ap (λ (n : Option ℕ). let m : MachineView = record { next = n; pending = []; held = []; closed = false } in m) c.new-2.ensures in
    let whole = whole_is log c.whole-target.result c.in_ok-log.ensures c.whole-target.ensures.root c.whole-target.ensures.start c.whole-target.ensures.end in
    hashed_whole log c.whole-target.result c.new-machine.result c.sync_hashed.new.machine before after link.calls.faults later.calls.faults c.in_ok-log.ensures whole new c.link_to-link.ensures.serves
    c.sync_hashed.result c.sync_hashed.ensures.serving (c.sync_hashed.ensures.steady c.link_to-link.ensures.steady).1 c.sync_hashed.ensures.took

use Rattle.std.proofs.Common.{◌≡◌, ◌∙◌, ap, ℕ, Option, None, false, []}
use Rattle.ledger_log.specs.Keyless.{keyless_floor, keyless_spelling}
use Rattle.sync_net.specs.Core.{data_of}
use Rattle.sync_net.specs.Service.{Service, service_of}
use Rattle.sync_net.specs.View.{MachineView}
use Rattle.sync_server.specs.Links.{service_told}
use Rattle.promise_cases.proofs.Fetches.{new_machine}
use Rattle.promise_cases.proofs.Refusals.{begins, refused}
use Rattle.promise_cases.proofs.tests.served.compact_target.Goals as goal

pub returns : goal.returns
returns c =
    let link = c.link_to-link.result in
    let later = c.fetch_compact_target.new.link in
    let held = data_of keyless_spelling keyless_floor c.args.log in
    let before : Option Service = service_of link.lost (service_told keyless_spelling keyless_floor link) in
    let after : Option Service = service_of later.lost (service_told keyless_spelling keyless_floor later) in
    let new : c.new-machine.result ≡ new_machine = c.new-machine.ensures ∙ ap (λ (n : Option ℕ). let m : MachineView = record { next = n; pending = []; held = []; closed = false } in m) c.new.ensures in
    refused _ _ held c.new-machine.result c.fetch_compact_target.new.machine after c.fetch_compact_target.result None None link.calls.faults later.calls.faults new
    (c.fetch_compact_target.ensures.serving held (begins held c.new-machine.result before new c.link_to-link.ensures.serves))
    (c.fetch_compact_target.ensures.steady c.link_to-link.ensures.steady).1 c.fetch_compact_target.ensures.fetched

use Rattle.std.proofs.Common.{◌≡◌, ℕ, [], Option, ap, refl, ◌∙◌, false}
use Rattle.sync_net.specs.View.{MachineView}
use Rattle.sync_client.proofs.Keyless.{keyless_begins, keyless_fetched}
use Rattle.sync_client.proofs.SentOperations.{keyless_sent}
use Rattle.sync_cases.proofs.tests.client.later.fetched.Goals as goal

pub returns-in-Ok : goal.returns-in-Ok
returns-in-Ok g c held h told =
    let e = c.new-machine.ensures ∙ ap (λ (n : Option ℕ). let m : MachineView = record { next = n; pending = []; held = []; closed = false } in m) c.new.ensures in
    let begins = keyless_begins held c.new-machine.result (g.L.Link.service c.args.link.now) e told in
    keyless_fetched held c.args.target.now c.in-Ok.synced.0 h c.in-Ok.synced.1 c.sync_full.new.machine (g.L.Link.service c.sync_full.new.link) c.in-Ok.ensures.took (c.in-Ok.ensures.serving held [] keyless_sent h begins refl tt)

use Rattle.std.proofs.Common.{◌≡◌, ◌∙◌, ap, ℕ, Option, [], false}
use Rattle.sync_net.specs.View.{MachineView}
use Rattle.promise_cases.proofs.Fetches.{new_machine}
use Rattle.promise_cases.proofs.Sessions.{first_sent, only_closes}
use Rattle.promise_cases.proofs.tests.sessions.part_of.Goals as goal

pub returns-clause-closed : goal.returns-clause-closed
returns-clause-closed c =
    let new : c.new-machine.result ≡ new_machine = c.new-machine.ensures ∙ ap (λ (n : Option ℕ). let m : MachineView = record { next = n; pending = []; held = []; closed = false } in m) c.new.ensures in
    only_closes c.args.target.now c.args.limits.now c.args.link.now c.sync_full.new.link c.requires.given c.requires.ended c.requires.sent c.sync_full.result c.new-machine.result c.sync_full.new.machine new _ _ c.sync_full.ensures.laws c.sync_full.ensures.ended

pub returns-clause-failed : goal.returns-clause-failed
returns-clause-failed c =
    let new : c.new-machine.result ≡ new_machine = c.new-machine.ensures ∙ ap (λ (n : Option ℕ). let m : MachineView = record { next = n; pending = []; held = []; closed = false } in m) c.new.ensures in
    first_sent c.args.target.now c.args.limits.now c.args.link.now c.sync_full.new.link c.requires.given c.requires.ended c.requires.sent c.sync_full.result c.new-machine.result c.sync_full.new.machine new _ _ c.sync_full.ensures.laws c.sync_full.ensures.ended

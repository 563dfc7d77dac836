use Rattle.std.proofs.Common.{◌≡◌, ◌∙◌, ap, ℕ, Option, [], false}
use Rattle.sync_net.specs.View.{MachineView}
use Rattle.promise_cases.proofs.Fetches.{new_machine, only_ends}
use Rattle.promise_cases.proofs.tests.links.only_target.Goals as goal

pub returns : goal.returns
returns c =
    let new : c.new-machine.result ≡ new_machine = c.new-machine.ensures ∙ ap (λ (n : Option ℕ). let m : MachineView = record { next = n; pending = []; held = []; closed = false } in m) c.new.ensures in
    only_ends c.fetch_target.result c.new-machine.result c.fetch_target.new.machine c.args.link.now c.fetch_target.new.link _ _ new c.requires.given c.requires.ended c.fetch_target.ensures.fetched c.fetch_target.ensures.one_way

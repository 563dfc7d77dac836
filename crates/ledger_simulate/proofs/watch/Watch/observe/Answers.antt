use Rattle.std.proofs.Common.{rules, ◌≡◌, ◌++◌, ◌∷◌, []}
use Rattle.ledger_simulate.proofs.Watching.{tracker_push, none_push}
use Rattle.ledger_simulate.proofs.watch.Watch.observe.Goals as goal

pub invariant_of-self : goal.invariant_of-self
invariant_of-self c =
    let grown : c.push.new.self.items ≡ c.self.inside.updates.items ++ c.args.update ∷ [] = search rules in (
      tracker_push c.self.inside.updates.items c.push.new.self.items c.args.update c.self.inside.tracker c.observe_copy.new.self c.self.invariant.0 c.in-Ok.ensures.ok grown,
      none_push c.self.inside.updates.items c.push.new.self.items c.args.update c.self.inside.tracker c.self.invariant.0 c.self.invariant.1 c.in-Ok.ensures.may grown,
    )

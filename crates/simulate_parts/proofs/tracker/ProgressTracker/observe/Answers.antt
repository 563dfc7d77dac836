use Rattle.std.proofs.Common.{rules, ◌≡◌, true, false, inr}
use Rattle.simulate_parts.specs.Tracker.{disagrees_at_height, disagrees_at_round}
use Rattle.simulate_parts.proofs.Observing.{fault_at_round}
use Rattle.simulate_parts.proofs.tracker.ProgressTracker.observe.Goals as goal

pub returns-then-disagrees-clause-refuses : goal.returns-then-disagrees-clause-refuses
returns-then-disagrees-clause-refuses c =
    let h : disagrees_at_height c.args.self.now c.args.update ≡ false = search rules in
    let r : disagrees_at_round c.args.self.now c.args.update ≡ true = search rules in
    inr (fault_at_round c.args.self.now c.args.update h r)

use Rattle.std.proofs.Common.{◌≡◌, None, ap, ◌∙◌}
use Rattle.std.proofs.lemmas.List.{drop_all}
use Rattle.simulate_parts.specs.Tracker.{fault_from, first_fault}
use Rattle.simulate_parts.proofs.Agreement.{agree_of}
use Rattle.simulate_parts.proofs.tracker.ProgressTracker.of.Goals as goal

pub returns-clause-agree : goal.returns-clause-agree
returns-clause-agree c =
    let none : first_fault c.args.updates.now ≡ None =
    c.loop-update.invariant.faults ∙ ap (fault_from c.loop-update.tracker) (drop_all _ c.args.updates.now c.loop-update-test.false) in
    agree_of c.args.updates.now none

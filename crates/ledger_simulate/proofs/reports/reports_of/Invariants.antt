use Rattle.std.proofs.Common.{◌≡◌, ◌++◌}
use Rattle.std.specs.Vec.Iter.{into_iter_items}
use Rattle.simulate_parts.specs.Engine.{updates_of}
use Rattle.ledger_simulate.proofs.reports.reports_of.Given as goal

abbrev pub invariant-loop-block : goal.invariant-loop-block
invariant-loop-block l = l.updates.items ++ updates_of l.pk (into_iter_items l.block-iterator) ≡ updates_of l.pk l.fn.finalized.items

use Rattle.std.proofs.Common.{◌≡◌}
use Rattle.std.specs.Vec.Iter.{into_iter_items}
use Rattle.ledger_simulate.specs.Queue.{queued_all}
use Rattle.ledger_simulate.proofs.queue.Queue.add_all.Given as goal

abbrev pub invariant-loop-entry : goal.invariant-loop-entry
invariant-loop-entry l = queued_all l.self l.now (into_iter_items l.entry-iterator) ≡ queued_all l.initial.self l.now l.fn.events.items

use Rattle.std.proofs.Common.{◌≡◌, ◌++◌, map, take, drop}
use Rattle.ledger_examples.proofs.adding.set_floors.Given as goal

abbrev pub invariant-loop-op : goal.invariant-loop-op
invariant-loop-op g l = l.ops ≡ map (g.F.ExampleFamily.added_of l.floor) (take l.op-index l.initial.ops) ++ drop l.op-index l.initial.ops

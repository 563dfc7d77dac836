use Rattle.std.proofs.Common.{◌≡◌, take, filter_map}
use Rattle.ledger_chain.specs.Writes.{settled}
use Rattle.ledger_chain.proofs.link.writes_of.Given as goal

abbrev pub invariant-loop-op : goal.invariant-loop-op
invariant-loop-op g l = l.writes ≡ settled (filter_map g.F.Family.write_of (take l.op-index l.ops))

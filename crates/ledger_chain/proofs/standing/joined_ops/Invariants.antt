use Rattle.std.proofs.Common.{◌≡◌, take}
use Rattle.ledger_chain.specs.Chain.{ops_of}
use Rattle.ledger_chain.proofs.standing.joined_ops.Given as goal

abbrev pub invariant-loop-link : goal.invariant-loop-link
invariant-loop-link g l = l.ops.items ≡ ops_of (take l.link-index l.links)

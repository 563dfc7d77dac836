use Rattle.std.proofs.Common.{◌≡◌, take, filter_map}
use Rattle.ledger_chain.specs.Chain.{ops_of}
use Rattle.ledger_chain.specs.Writes.{last_write}
use Rattle.ledger_chain.proofs.chain.last_of.Given as goal

abbrev pub invariant-loop-link : goal.invariant-loop-link
invariant-loop-link g l = l.found ≡ last_write l.key (filter_map g.F.Family.write_of (ops_of (take l.link-index l.links)))

use Rattle.std.proofs.Common.{◌≡◌, take}
use Rattle.ledger_chain.proofs.chain.copy_of.Given as goal

abbrev pub invariant-loop-link : goal.invariant-loop-link
invariant-loop-link g l = l.copy.items ≡ take l.link-index l.links

use Rattle.std.proofs.Common.{◌≡◌, ◌++◌, take}
use Rattle.ledger_chain.specs.Writes.{settled}
use Rattle.ledger_chain.proofs.writes.Writes.put_all.Given as goal

abbrev pub invariant-loop-write : goal.invariant-loop-write
invariant-loop-write l = l.self ≡ settled (l.initial.self ++ take l.write-index l.writes)

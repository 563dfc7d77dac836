use Rattle.std.proofs.Common.{◌≡◌, ◌++◌, false, replicate, []}
use Rattle.ledger_merkle.specs.Tree.{grow}
use Rattle.ledger_activity.specs.Chunks.{first_chunks}
use Rattle.ledger_activity.proofs.chunks.root_of_bits.Given as goal

abbrev pub invariant-loop-index : goal.invariant-loop-index
invariant-loop-index g l = record { size : l.peaks.size ≡ l.index; nodes : l.peaks.nodes ≡ grow g.H.Hasher.digest 0 [] (first_chunks (replicate l.front false ++ l.bits) l.index) }

use Rattle.std.proofs.Common.{◌≡◌, ◌++◌, false, replicate, length, take}
use Rattle.ledger_activity.specs.Chunks.{bytes_of}
use Rattle.ledger_activity.proofs.chunks.chunk_at.Given as goal

abbrev pub invariant-loop-index : goal.invariant-loop-index
invariant-loop-index l = record { long : length l.chunk ≡ 32; done : take l.index l.chunk ≡ bytes_of (replicate l.front false ++ l.bits) l.at l.index }

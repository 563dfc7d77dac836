use Rattle.std.proofs.Common.{◌≡◌, take, flat_map}
use Rattle.sync_client.proofs.joining.joined.Given as goal

abbrev pub invariant-loop-piece : goal.invariant-loop-piece
invariant-loop-piece g l = l.ops.items ≡ flat_map (λ p. p.ops) (take l.piece-index l.pieces)

use Rattle.std.proofs.Common.{◌≡◌, take, map, bytes_eq}
use Rattle.ledger_settling.specs.Blocks.{firsts}
use Rattle.ledger_settling.proofs.slots.touched_keys.Given as goal

abbrev pub invariant-loop-key : goal.invariant-loop-key
invariant-loop-key g l = l.set.keys ≡ firsts bytes_eq (map (λ t. t.0) (take l.key-index l.touched))

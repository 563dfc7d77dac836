use Rattle.std.proofs.Common.{◌≡◌, take, map, position, bytes_eq}
use Rattle.ledger_settling.proofs.rounds.places_of.Given as goal

abbrev pub invariant-loop-key : goal.invariant-loop-key
invariant-loop-key g l = l.places.items ≡ map (λ key. position (bytes_eq key) l.selection.0) (take l.key-index l.keys)

use Rattle.std.proofs.Common.{◌≡◌, ◌++◌, take}
use Rattle.std.specs.List.{flat_map}
use Rattle.ledger_transfers.specs.Greedy.{taken}
use Rattle.ledger_settling.proofs.rounds.push_round.Given as goal

abbrev pub invariant-loop-place : goal.invariant-loop-place
invariant-loop-place g l = l.changes.items ≡ l.fn.changes.items ++ flat_map g.T.Transfer.changes_of (taken (take l.place l.round) (take l.place l.verdicts))

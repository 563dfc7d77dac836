use Rattle.std.proofs.Common.{◌≡◌, ◌++◌, take, map, length}
use Rattle.std.specs.List.{flat_map}
use Rattle.ledger_transfers.specs.Greedy.{taken}
use Rattle.ledger_settling.specs.Blocks.{joined}
use Rattle.ledger_settling.specs.Rounds.{AreOpened, AreChosen}
use Rattle.ledger_settling.specs.Slots.{fresh_batch}
use Rattle.ledger_settling.proofs.rounds.choose_rounds.Given as goal

abbrev pub invariant-loop-round : goal.invariant-loop-round
invariant-loop-round g l = record {
  staged : l.staged.batch ≡ fresh_batch l.log;
  opened : AreOpened g.A.PartialEq.eq l.accounts l.selection.0 l.selection.1;
  cut : map length l.verdicts.items ≡ map length (take l.round-index l.rounds);
  many : length (joined l.verdicts.items) ≡ length (joined (take l.round-index l.rounds));
  chosen : AreChosen g.A.PartialEq.eq g.A.Account.rules g.T.Transfer.changes_of l.accounts l.fn.selection.1 l.selection.1 (joined (take l.round-index l.rounds)) (joined l.verdicts.items);
  changes : l.changes.items ≡ l.fn.changes.items ++ flat_map g.T.Transfer.changes_of (taken (joined (take l.round-index l.rounds)) (joined l.verdicts.items));
}

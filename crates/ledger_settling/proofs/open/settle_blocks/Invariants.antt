use Rattle.std.proofs.Common.{◌≡◌, take}
use Rattle.ledger_settling.specs.Blocks.{meaning, RunsTo}
use Rattle.ledger_settling.specs.Reports.{IsReplay}
use Rattle.ledger_settling.specs.Slots.{StaysProper}
use Rattle.ledger_settling.proofs.open.settle_blocks.Given as goal

abbrev pub invariant-loop-place : goal.invariant-loop-place
invariant-loop-place g l = record {
  runs : RunsTo (meaning g.T.Transfer.changes_of g.A.PartialEq.eq g.A.Account.rules g.A.AccountValue.values) l.target.start l.fn.log.ops (take l.place l.blocks) l.verdicts.items l.log.ops;
  accounts : IsReplay g.A.PartialEq.eq g.A.AccountValue.values l.accounts l.log.ops;
  initial : StaysProper g.A.PartialEq.eq g.A.Account.rules l.fn.accounts l.accounts;
  front : l.log.front ≡ l.fn.log.front;
  nodes : l.log.pinned ≡ l.fn.log.pinned;
}

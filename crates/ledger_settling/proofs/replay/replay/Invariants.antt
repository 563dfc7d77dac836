use Rattle.std.proofs.Common.{take, All}
use Rattle.ledger_settling.specs.Blocks.{IsReadable}
use Rattle.ledger_settling.specs.Reports.{IsReplay}
use Rattle.ledger_settling.proofs.replay.replay.Given as goal

abbrev pub invariant-loop-place : goal.invariant-loop-place
invariant-loop-place g l = record {
  replay : IsReplay g.A.PartialEq.eq g.A.AccountValue.values l.accounts (take l.place l.log.ops);
  readable : All (IsReadable g.A.AccountValue.values) (take l.place l.log.ops);
}

use Rattle.std.proofs.Common.{Option, subst, sym}
use Rattle.std.specs.Prelude.{IfSome}
use Rattle.ledger_program.specs.Run.{Wrote, LineOut}
use Rattle.ledger_settling.specs.declared.report.Report.{Report}
use Rattle.ledger_transfers.specs.declared.sequenced.Sequenced.{Sequenced}
use Rattle.ledger_program.proofs.program.act.Goals as goal

pub returns-in-Ok-clause-wrote : goal.returns-in-Ok-clause-wrote
returns-in-Ok-clause-wrote g c =
    subst (λ (r : Option (Report Sequenced)). Wrote (g.K.Sink.written c.args.out.now) (g.K.Sink.written c.reported.new.out) r c.reported.result.fault) (sym c.reported.ensures.report) c.reported.ensures.wrote

pub returns-in-Ok-clause-line : goal.returns-in-Ok-clause-line
returns-in-Ok-clause-line g c =
    subst (λ (r : Option (Report Sequenced)). IfSome c.reported.result.fault (LineOut g.K.Sink.grows (g.K.Sink.written c.args.out.now) (g.K.Sink.written c.reported.new.out) (g.K.Sink.faults c.args.out.now) (g.K.Sink.faults c.reported.new.out) r))
    (sym c.reported.ensures.report) c.reported.ensures.line

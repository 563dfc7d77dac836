use Rattle.std.proofs.Common.{Option, Some, subst, sym}
use Rattle.std.specs.Prelude.{IfSome}
use Rattle.ledger_program.specs.Run.{LineOut, text_if}
use Rattle.ledger_program.specs.declared.outcome.RunFault.{RunFault}
use Rattle.ledger_program.proofs.program.reported.Goals as goal

pub returns-in-Err-clause-line : goal.returns-in-Err-clause-line
returns-in-Err-clause-line g c =
    subst (λ (f : Option RunFault). IfSome f (LineOut g.K.Sink.grows (g.K.Sink.written c.args.out.now) (g.K.Sink.written c.unprinted.new.out) (g.K.Sink.faults c.args.out.now) (g.K.Sink.faults c.unprinted.new.out) (Some c.args.report)))
    (sym c.unprinted.ensures.fault) (c.unprinted.ensures.line (text_if (Some c.args.report)))

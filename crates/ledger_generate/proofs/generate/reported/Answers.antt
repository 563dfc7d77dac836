use Rattle.std.proofs.Common.{Option, subst, sym}
use Rattle.std.specs.Prelude.{IfSome}
use Rattle.ledger_program.specs.Run.{LineBehind}
use Rattle.ledger_program.specs.declared.outcome.RunFault.{RunFault}
use Rattle.ledger_generate.specs.Text.{lines_of}
use Rattle.ledger_generate.proofs.generate.reported.Goals as goal

pub returns-in-Err-clause-line : goal.returns-in-Err-clause-line
returns-in-Err-clause-line g c =
    subst (λ (f : Option RunFault). IfSome f (LineBehind g.K.Sink.grows (g.K.Sink.written c.args.out.now) (g.K.Sink.written c.unprinted.new.out) (g.K.Sink.faults c.args.out.now) (g.K.Sink.faults c.unprinted.new.out) (lines_of c.args.sizes c.args.report)))
    (sym c.unprinted.ensures.fault) (c.unprinted.ensures.line (lines_of c.args.sizes c.args.report))

use Rattle.std.proofs.Common.{◌≡◌, ℕ, List, Option, Some, subst, sym}
use Rattle.std.specs.Prelude.{IfSome}
use Rattle.ledger_program.specs.Run.{WroteText, LineBehind}
use Rattle.ledger_settling.specs.declared.report.Report.{Report}
use Rattle.ledger_transfers.specs.declared.sequenced.Sequenced.{Sequenced}
use Rattle.ledger_generate.specs.Runs.{lines_if}
use Rattle.ledger_generate.specs.Sizes.{SizesView}
use Rattle.ledger_generate.specs.Text.{lines_of}
use Rattle.ledger_generate.proofs.generate.run_generate.Goals as goal

-- the lines of a form's report
the_lines : (form : Option SizesView) (there : Option (Report Sequenced)) (sizes : SizesView) (report : Report Sequenced) → Some sizes ≡ form → there ≡ Some report → lines_of sizes report ≡ lines_if form there
the_lines form there sizes report f r = λ i. lines_if (f i) (sym r i)

pub returns-in-Ok-clause-wrote : goal.returns-in-Ok-clause-wrote
returns-in-Ok-clause-wrote g c =
    subst (λ (t : List ℕ). WroteText (g.K.Sink.written c.args.out.now) (g.K.Sink.written c.reported.new.out) t c.reported.result.fault)
    (the_lines _ c.reported.result.report c.in-Some.sizes c.in-Ok.report c.in-Some.ensures c.reported.ensures.report) c.reported.ensures.wrote

pub returns-in-Ok-clause-line : goal.returns-in-Ok-clause-line
returns-in-Ok-clause-line g c =
    subst (λ (t : List ℕ). IfSome c.reported.result.fault (LineBehind g.K.Sink.grows (g.K.Sink.written c.args.out.now) (g.K.Sink.written c.reported.new.out) (g.K.Sink.faults c.args.out.now) (g.K.Sink.faults c.reported.new.out) t))
    (the_lines _ c.reported.result.report c.in-Some.sizes c.in-Ok.report c.in-Some.ensures c.reported.ensures.report) c.reported.ensures.line

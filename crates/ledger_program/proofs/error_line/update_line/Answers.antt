use Rattle.std.proofs.Common.{◌∷◌, [], codes, subst}
use Rattle.std.specs.Fmt.{decimal}
use Rattle.std.specs.List.{concat}
use Rattle.ledger_program.specs.ErrorLines.{update_line}
use Rattle.ledger_program.specs.Writing.{Writes}
use Rattle.ledger_program.proofs.error_line.update_line.Goals as goal

pub returns : goal.returns
unfolding update_line
returns g c =
    subst (λ text. Writes g.K.Sink.grows (g.K.Sink.written c.args.out.now) (g.K.Sink.written c.text_line.new.out) (g.K.Sink.faults c.args.out.now) (g.K.Sink.faults c.text_line.new.out)
    (concat (codes "error " ∷ codes "update" ∷ codes " " ∷ decimal c.args.start ∷ codes " " ∷ text ∷ codes "\n" ∷ [])) c.text_line.result) c.decimal_digits-end.ensures c.text_line.ensures

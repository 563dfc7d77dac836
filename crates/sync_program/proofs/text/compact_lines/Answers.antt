use Rattle.std.proofs.Common.{subst}
use Rattle.std.specs.Fmt.{decimal}
use Rattle.ledger_program.specs.Writing.{Writes}
use Rattle.sync_program.specs.Text.{compact_text}
use Rattle.sync_program.proofs.text.compact_lines.Goals as goal

pub returns : goal.returns
returns g c =
    subst (λ t. Writes g.K.Sink.grows (g.K.Sink.written c.args.out.now) (g.K.Sink.written c.write_compact.new.out) (g.K.Sink.faults c.args.out.now) (g.K.Sink.faults c.write_compact.new.out) (compact_text c.args.family.now t (decimal c.args.floor) c.args.digits.now) c.write_compact.result) c.decimal_digits-size.ensures
    (subst (λ t. Writes g.K.Sink.grows (g.K.Sink.written c.args.out.now) (g.K.Sink.written c.write_compact.new.out) (g.K.Sink.faults c.args.out.now) (g.K.Sink.faults c.write_compact.new.out) (compact_text c.args.family.now c.decimal_digits-size.result.now t c.args.digits.now) c.write_compact.result) c.decimal_digits-floor.ensures c.write_compact.ensures)

use Rattle.std.proofs.Common.{◌-◌, ◌≤◌, length, take, Ok}
use Rattle.ledger_program.specs.ErrorLines.{printable}
use Rattle.ledger_program.specs.Writing.{Writes}
use Rattle.ledger_program.proofs.printable.write_printed.Given as goal

abbrev pub invariant-pieces : goal.invariant-pieces
invariant-pieces g l = record {
  within : l.done ≤ length l.text;
  wrote : Writes g.K.Sink.grows (g.K.Sink.written l.initial.out) (g.K.Sink.written l.out) (g.K.Sink.faults l.initial.out) (g.K.Sink.faults l.out) (printable (take l.done l.text)) (Ok tt);
}

abbrev pub decreases-pieces : goal.decreases-pieces
decreases-pieces g l = length l.text - l.done

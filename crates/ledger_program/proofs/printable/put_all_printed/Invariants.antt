use Rattle.std.proofs.Common.{◌≡◌, ◌≤◌, take}
use Rattle.ledger_program.specs.ErrorLines.{printable}
use Rattle.ledger_program.proofs.printable.put_all_printed.Given as goal

abbrev pub invariant-each : goal.invariant-each
invariant-each l = record {
  most : l.count ≤ l.byte-index;
  bytes : take l.count l.buffer ≡ printable (take l.byte-index l.text);
}

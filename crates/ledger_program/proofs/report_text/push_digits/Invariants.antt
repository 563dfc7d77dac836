use Rattle.std.proofs.Common.{◌≡◌, ◌++◌, take, string_bytes}
use Rattle.ledger_program.specs.Text.{digits_of}
use Rattle.ledger_program.proofs.report_text.push_digits.Given as goal

abbrev pub invariant-each : goal.invariant-each
invariant-each l = string_bytes l.out ≡ string_bytes l.initial.out ++ digits_of (take l.verdict-index l.verdicts)

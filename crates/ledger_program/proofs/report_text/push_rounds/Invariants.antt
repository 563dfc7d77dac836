use Rattle.std.proofs.Common.{◌≡◌, ◌++◌, take, string_bytes}
use Rattle.ledger_program.specs.Text.{round_fields}
use Rattle.ledger_program.proofs.report_text.push_rounds.Given as goal

abbrev pub invariant-each : goal.invariant-each
invariant-each l = string_bytes l.out ≡ string_bytes l.initial.out ++ round_fields (take l.round-index l.rounds)

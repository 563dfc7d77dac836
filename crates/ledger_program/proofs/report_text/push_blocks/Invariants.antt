use Rattle.std.proofs.Common.{◌≡◌, ◌++◌, take, string_bytes}
use Rattle.ledger_program.specs.Text.{block_lines}
use Rattle.ledger_program.proofs.report_text.push_blocks.Given as goal

abbrev pub invariant-each : goal.invariant-each
invariant-each l = string_bytes l.out ≡ string_bytes l.initial.out ++ block_lines 0 (take l.place l.verdicts)

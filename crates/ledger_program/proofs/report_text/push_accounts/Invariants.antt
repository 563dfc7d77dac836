use Rattle.std.proofs.Common.{◌≡◌, ◌++◌, string_bytes}
use Rattle.std.specs.List.{flat_map}
use Rattle.ledger_program.specs.Text.{account_line}
use Rattle.ledger_program.proofs.report_text.push_accounts.Given as goal

abbrev pub invariant-accounts : goal.invariant-accounts
invariant-accounts l = string_bytes l.out ++ flat_map account_line l.key-iterator ≡ string_bytes l.initial.out ++ flat_map account_line l.accounts.entries

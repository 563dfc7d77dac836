use Rattle.std.proofs.Common.{◌≡◌, take, string_bytes}
use Rattle.ledger_program.proofs.key_text.name_text.Given as goal

abbrev pub invariant-bytes : goal.invariant-bytes
invariant-bytes l = string_bytes l.text ≡ take l.byte-index l.name

use Rattle.std.proofs.Common.{rules, ◌≡◌, ℕ, ◌<◌, length, get_or}
use Rattle.ledger_numbers.specs.Laws.{written_as}
use Rattle.ledger_numbers.proofs.numbers.Numbers.from_value.Goals as goal

pub returns-clause-again : goal.returns-clause-again
returns-clause-again c =
    let v = c.args.value.now in
    let long : length v ≡ 32 = search rules in
    let bytes : (i : ℕ) → get_or v i 0 < 256 = search rules in
    written_as v c.copy_from_slice.new.self c.copy_from_slice-2.new.self c.copy_from_slice-3.new.self c.copy_from_slice-4.new.self c.from_be_bytes.result c.from_be_bytes-2.result c.from_be_bytes-3.result c.from_be_bytes-4.result
    (long, bytes) c.copy_from_slice.ensures.after c.copy_from_slice-2.ensures.after c.copy_from_slice-3.ensures.after c.copy_from_slice-4.ensures.after
    c.from_be_bytes.ensures c.from_be_bytes-2.ensures c.from_be_bytes-3.ensures c.from_be_bytes-4.ensures

use Rattle.std.proofs.Common.{◌∙◌, ap, sym, ℕ}
use Rattle.ledger_codec.specs.Parsing.{Parsed, ◌>>=◌}
use Rattle.sync_net.specs.Fields.{non_zero, non_zero_at, non_zero_as}
use Rattle.sync_net.proofs.fields.read_non_zero.Goals as goal

pub returns-in-Some : goal.returns-in-Some
returns-in-Some c =
    ap non_zero_at (sym c.fork-at.ensures)
    ∙ ap (λ (r : Parsed ℕ). r >>= non_zero) c.in_ok-number.ensures.reads
    ∙ non_zero_as c.in-Some.value c.in_ok-number.number c.read_u64.new.self c.in-Some.ensures

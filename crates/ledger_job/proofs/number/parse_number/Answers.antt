use Rattle.std.proofs.Common.{◌∙◌, sym, subst}
use Rattle.std.specs.Str.Parse.{ParsesUnsigned}
use Rattle.ledger_job.proofs.Numbers.{number_none, plain_utf8, number_parsed}
use Rattle.ledger_job.proofs.number.parse_number.Goals as goal

pub returns-then-not-is_plain_decimal : goal.returns-then-not-is_plain_decimal
returns-then-not-is_plain_decimal c = number_none c.args.text.now (sym c.if-not-is_plain_decimal.ensures)

pub returns-in-Ok : goal.returns-in-Ok
returns-in-Ok c = c.ok.ensures.value ∙ number_parsed c.args.text.now c.parse.result (sym c.if-not-is_plain_decimal.ensures) (subst (λ t. ParsesUnsigned 64 10 t c.parse.result) c.in-Ok.ensures.cases.0 c.parse.ensures.value.0)

pub returns-in-Err : goal.returns-in-Err
returns-in-Err c = absurd (c.in-Err.ensures.cases.0 (plain_utf8 c.args.text.now (sym c.if-not-is_plain_decimal.ensures)))

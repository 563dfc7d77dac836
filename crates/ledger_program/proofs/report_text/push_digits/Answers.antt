use Rattle.ledger_program.proofs.Lines.{digit_more}
use Rattle.ledger_program.proofs.report_text.push_digits.Goals as goal

pub each-preserved : goal.each-preserved
each-preserved c = digit_more _ _ _ c.args.verdicts.now c.each.verdict-index _ c.each-test.true c.each.invariant c.in_ok-push_digit.ensures

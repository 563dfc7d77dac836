use Rattle.std.proofs.Common.{◌∙◌, ◌++◌, ap, string_bytes}
use Rattle.ledger_program.specs.Text.{block_line}
use Rattle.ledger_program.proofs.Lines.{block_more}
use Rattle.ledger_program.proofs.report_text.push_blocks.Goals as goal

pub each-preserved : goal.each-preserved
each-preserved c = block_more _ _ _ c.args.verdicts.now c.each.place _ c.each-test.true c.each.invariant (c.in_ok-push_block.ensures ∙ ap (λ v. string_bytes c.each.out ++ block_line c.each.place v) c.index-verdicts-place.is)

use Rattle.std.proofs.Common.{◌∙◌, sym, subst}
use Rattle.ledger_job.specs.Gathered.{seen}
use Rattle.ledger_job.specs.Gathering.{Offends}
use Rattle.ledger_job.proofs.Offences.{Here, here_first, here_more, here_unread, here_misplaced, here_last, here_lacking}
use Rattle.ledger_job.proofs.job.gather.Goals as goal

pub each-init : goal.each-init
each-init c = here_first c.args.kind c.args.text.now _ _ c.all_lines-left.ensures.lines c.all_lines-left.ensures.size c.new-gathered.ensures

pub returns-in_default-parse_line-clause-bad : goal.returns-in_default-parse_line-clause-bad
returns-in_default-parse_line-clause-bad c = λ n h.
    let here = subst (λ left. Here c.args.kind c.args.text.now left c.each.number (seen c.each.gathered)) c.in-Some.is c.each.invariant in
    subst (Offends c.args.kind c.args.text.now) (cc) (here_unread c.args.kind c.args.text.now c.in-Some.rest c.cut.result.1 _ c.each.number _ here c.cut.ensures.parts (sym c.parse_line.ensures ∙ c.in_default-parse_line.is))

pub returns-then-not-takes-clause-bad : goal.returns-then-not-takes-clause-bad
returns-then-not-takes-clause-bad c = λ n h.
    let here = subst (λ left. Here c.args.kind c.args.text.now left c.each.number (seen c.each.gathered)) c.in-Some.is c.each.invariant in
    subst (Offends c.args.kind c.args.text.now) (cc) (here_misplaced c.args.kind c.args.text.now c.in-Some.rest c.cut.result.1 _ c.each.number _ here c.cut.ensures.parts c.in-Some-parse_line.line (sym c.parse_line.ensures ∙ c.in-Some-parse_line.is) (sym c.if-not-takes.ensures))

pub each-preserved : goal.each-preserved
each-preserved c =
    let here = subst (λ left. Here c.args.kind c.args.text.now left c.each.number (seen c.each.gathered)) c.in-Some.is c.each.invariant in
    here_more c.args.kind c.args.text.now c.in-Some.rest c.cut.result.1 _ c.each.number _ here c.cut.ensures.parts c.in-Some-parse_line.line (sym c.parse_line.ensures ∙ c.in-Some-parse_line.is) _ (sym c.if-not-takes.ensures) c.in_ok-push.ensures c.cut.ensures.size

pub returns-then-lacks_target-clause-bad : goal.returns-then-lacks_target-clause-bad
returns-then-lacks_target-clause-bad c = λ n h.
    let here = subst (λ left. Here c.args.kind c.args.text.now left c.each.number (seen c.each.gathered)) c.in_default.is c.each.invariant in
    subst (Offends c.args.kind c.args.text.now) (cc) (here_lacking c.args.kind c.args.text.now c.each.number _ here (sym c.if-lacks_target.ensures))

pub returns-clause-stands : goal.returns-clause-stands
returns-clause-stands c = here_last c.args.kind c.args.text.now c.each.number _ (subst (λ left. Here c.args.kind c.args.text.now left c.each.number (seen c.each.gathered)) c.in_default.is c.each.invariant) (sym c.if-lacks_target.ensures)

use Rattle.std.proofs.Common.{◌≤◌, ◌^◌, ◌∙◌, ap, sym, subst}
use Rattle.ledger_job.specs.Ranges.{target_of}
use Rattle.ledger_job.proofs.Targets.{beyond, begins_beyond, made, new_none, new_some}
use Rattle.ledger_job.proofs.target.target_of.Goals as goal

pub returns-in_err-start : goal.returns-in_err-start
returns-in_err-start c = c.from_residual.ensures ∙ begins_beyond c.args.root c.args.start c.args.end (new_none _ _ c.in_err-start.was c.new.ensures)

pub returns-in_err-end : goal.returns-in_err-end
returns-in_err-end c = c.from_residual-in_err-end.ensures ∙ beyond c.args.root c.args.start c.args.end (new_none _ _ c.in_err-end.was c.new-2.ensures)

pub returns : goal.returns
returns c =
    let start = new_some _ _ c.in_ok-start.start c.in_ok-start.was c.new.ensures in
    let end = new_some _ _ c.in_ok-end.end c.in_ok-end.was c.new-2.ensures in
    made c.args.root c.in_ok-start.start c.in_ok-end.end c.new-3.result (subst (λ n. n ≤ 2 ^ 62) (sym end.1) end.0) c.new-3.ensures
    ∙ (ap (λ n. target_of c.args.root n c.in_ok-end.end) start.1 ∙ ap (λ n. target_of c.args.root c.args.start n) end.1)

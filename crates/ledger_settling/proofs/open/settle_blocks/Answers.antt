use Rattle.std.proofs.Common.{◌++◌, ◌∷◌, [], take, refl, sym, ap, subst, ◌∙◌}
use Rattle.std.proofs.lemmas.List.{take_all, take_more}
use Rattle.std.proofs.lemmas.Option.{slice_get_read}
use Rattle.std.proofs.lemmas.Result.{err_from_is_err_and}
use Rattle.ledger_settling.specs.Blocks.{meaning, batch_of, grown, RunsTo}
use Rattle.ledger_settling.proofs.RunLemmas.{RunsTo-push, run_fails}
use Rattle.ledger_settling.proofs.open.settle_blocks.Goals as goal

pub loop-place-preserved : goal.loop-place-preserved
loop-place-preserved g c =
    let m = meaning g.T.Transfer.changes_of g.A.PartialEq.eq g.A.Account.rules g.A.AccountValue.values in
    let blocks = c.args.blocks.now in
    let i = c.loop-place.place in
    let b = c.index-blocks-place.result in
    let more = take_more blocks i b c.loop-place-test.true ∙ ap (λ x. take i blocks ++ x ∷ []) (sym c.index-blocks-place.is) in
    let grows = c.in_ok-verdict.ensures.grown in
    let old = c.loop-place.log.ops in
    let ops = c.args.log.now.ops in
    let vs = c.loop-place.verdicts.items in
    let v = c.in_ok-verdict.verdict in
    let start = c.args.target.now.start in
    let front = c.loop-place.invariant.front ∙ c.requires.front in
    let grew = ap (λ l. l.ops) grows ∙ ap (λ n. grown m n old (batch_of b v)) front in
    let pushed = RunsTo-push m start (take i blocks) vs ops old b v c.loop-place.invariant.runs c.in_ok-verdict.ensures.settles in
    record {
      runs = subst (λ bs. RunsTo m start ops bs c.push.new.self.items c.settle_block.new.log.ops) (sym more)
          (subst (λ ws. RunsTo m start ops (take i blocks ++ b ∷ []) ws c.settle_block.new.log.ops) (sym c.in_ok-push.ensures.items)
          (subst (λ all. RunsTo m start ops (take i blocks ++ b ∷ []) (vs ++ v ∷ []) all) (sym grew) pushed));
      accounts = c.in_ok-verdict.ensures.accounts;
      initial = λ h. c.in_ok-verdict.ensures.initial (c.loop-place.invariant.initial h);
      front = ap (λ l. l.front) grows ∙ c.loop-place.invariant.front;
      nodes = ap (λ l. l.pinned) grows ∙ c.loop-place.invariant.nodes;
    }

pub returns-in_err-verdict-clause-fails : goal.returns-in_err-verdict-clause-fails
returns-in_err-verdict-clause-fails g c =
    let m = meaning g.T.Transfer.changes_of g.A.PartialEq.eq g.A.Account.rules g.A.AccountValue.values in
    let blocks = c.args.blocks.now in
    let i = c.loop-place.place in
    let at = slice_get_read blocks _ i c.index-blocks-place.result refl c.loop-place-test.true c.index-blocks-place.is in
    let p = err_from_is_err_and c.from_residual.result c.from_residual.ensures.1 in
    rw (p.1, p.2) (run_fails m c.args.target.now c.args.log.now.ops blocks c.loop-place.verdicts.items c.loop-place.log i c.index-blocks-place.result c.in_err-verdict.field-0.0 c.requires.whole c.requires.readable c.loop-place.invariant.runs at
    (c.loop-place.invariant.front ∙ c.requires.front) c.size-within.ensures.most c.in_err-verdict.ensures.fails)

pub returns-clause-runs : goal.returns-clause-runs
returns-clause-runs g c =
    let m = meaning g.T.Transfer.changes_of g.A.PartialEq.eq g.A.Account.rules g.A.AccountValue.values in
    subst (λ bs. RunsTo m c.args.target.now.start c.args.log.now.ops bs c.loop-place.verdicts.items c.loop-place.log.ops) (take_all c.loop-place.place c.args.blocks.now c.loop-place-test.false) c.loop-place.invariant.runs

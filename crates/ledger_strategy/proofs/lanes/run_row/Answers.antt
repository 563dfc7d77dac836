use Rattle.std.proofs.Common.{◌≡◌, subst, sym, arith}
use Rattle.ledger_strategy.specs.Parts.{AreResultsFrom}
use Rattle.ledger_strategy.proofs.PartsLemmas.{AreResultsFrom-none, AreResultsFrom-push}
use Rattle.ledger_strategy.proofs.lanes.run_row.Goals as goal

pub loop-part-init : goal.loop-part-init
loop-part-init g c = rw c.in_ok-answers.ensures.items (AreResultsFrom-none _ c.args.from)

pub loop-part-preserved : goal.loop-part-preserved
loop-part-preserved g c = rw c.in_ok-push.ensures.items (AreResultsFrom-push _ _ _ _ _ c.loop-part.invariant c.work.ensures)

pub returns : goal.returns
returns g c =
    let end : c.loop-part.part ≡ c.args.upto = omega (arith, c.loop-part-test.false, c.loop-part.auto.part-end) in
    subst (λ n. AreResultsFrom (goal.F-post g c.args.work.now) c.args.from n c.loop-part.answers.items) end c.loop-part.invariant

use Rattle.ledger_strategy.proofs.PartsLemmas.{AreResults-push}
use Rattle.ledger_strategy.proofs.strategy.one_by_one.Goals as goal

pub loop-part-preserved : goal.loop-part-preserved
loop-part-preserved g c = rw c.in_ok-push.ensures.items (AreResults-push _ _ _ _ c.loop-part.invariant c.work.ensures)

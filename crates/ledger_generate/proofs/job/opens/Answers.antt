use Rattle.ledger_generate.proofs.Making.{one_open_more}
use Rattle.ledger_generate.proofs.job.opens.Goals as goal

pub loop-number-preserved : goal.loop-number-preserved
loop-number-preserved c = one_open_more c.args.sizes c.loop-number.number _ _ _ _ c.loop-number.invariant c.in_ok-key.ensures c.opening_balance-balance.ensures c.in_ok-push.ensures.items

use Rattle.ledger_generate.proofs.Making.{one_payment_more}
use Rattle.ledger_generate.proofs.job.payments.Goals as goal

pub loop-place-preserved : goal.loop-place-preserved
loop-place-preserved c = one_payment_more c.args.sizes c.loop-place.place _ _ _ c.loop-place.invariant c.payment_at.ensures c.in_ok-push.ensures.items

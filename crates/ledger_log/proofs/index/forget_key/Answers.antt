use Rattle.std.proofs.Common.{None, refl}
use Rattle.ledger_log.proofs.Indexing.{stale_gone}
use Rattle.ledger_log.proofs.index.forget_key.Goals as goal

pub returns-then-is_stale : goal.returns-then-is_stale
returns-then-is_stale c = stale_gone c.args.index.now c.remove.new.self c.in-Some.key None c.remove.ensures.updates.0 c.args.front refl (c.is_stale.ensures c.if-is_stale.true)

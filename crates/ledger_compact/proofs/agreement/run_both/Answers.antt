use Rattle.ledger_compact.proofs.Kept.{kept_floor}
use Rattle.ledger_compact.proofs.agreement.run_both.Goals as goal

pub returns-clause-floor : goal.returns-clause-floor
returns-clause-floor g c = kept_floor g.H.Hasher.digest g.F.Op.Leaf.spelling c.loop-batch.full c.loop-batch.compact c.loop-batch.invariant.twins g.F.Family.floor_of

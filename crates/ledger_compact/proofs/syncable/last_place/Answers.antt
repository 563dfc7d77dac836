use Rattle.ledger_compact.proofs.States.{told_again}
use Rattle.ledger_compact.proofs.syncable.last_place.Goals as goal

pub returns-clause-taken : goal.returns-clause-taken
returns-clause-taken g c =
    told_again g.H.Hasher.digest g.F.Op.Leaf.spelling g.F.Family.floor_of c.args.log.now c.floor-floor.result c.front-front.ensures.pins c.size.ensures.most c.floor-floor.ensures.floor c.floor-floor.ensures.most

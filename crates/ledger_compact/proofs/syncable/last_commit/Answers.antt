use Rattle.std.proofs.Common.{◌-◌, arith}
use Rattle.ledger_compact.proofs.Ends.{last_at}
use Rattle.ledger_compact.proofs.syncable.last_commit.Goals as goal

pub returns : goal.returns
returns g c =
    let log = c.args.log.now in
    last_at log.ops (c.last_place.result - log.front) c.in-Some.op.now (omega (arith, c.last_place.ensures.next, c.last_place.ensures.least)) c.in-Some.ensures.1

use Rattle.std.proofs.Common.{ap, filter_map}
use Rattle.ledger_chain.specs.Writes.{last_write}
use Rattle.ledger_chain.proofs.Settled.{last_settled}
use Rattle.ledger_chain.proofs.link.Sealed.last.Goals as goal

pub returns : goal.returns
returns g c =
    let key = c.args.key.now in
    let held = ap (last_write key) c.self.invariant.0 in
    let same = last_settled (filter_map g.F.Family.write_of c.self.inside.ops.items) key in
    let view = c.self.view_is in
    let found = c.last.ensures in
    cc

use Rattle.ledger_chain.proofs.Newest.{last_more}
use Rattle.ledger_chain.proofs.chain.last_of.Goals as goal

pub loop-link-preserved : goal.loop-link-preserved
loop-link-preserved g c =
    let e = last_more g.F.Family.write_of c.args.key.now c.args.links.now c.loop-link.link-index c.link-item.result c.loop-link-test.true c.link-item.is in
    cc

use Rattle.ledger_chain.proofs.Newest.{writes_more}
use Rattle.ledger_chain.proofs.link.writes_of.Goals as goal

pub loop-op-preserved : goal.loop-op-preserved
loop-op-preserved g c =
    writes_more g.F.Family.write_of c.args.ops.now c.loop-op.op-index c.op-item.result c.loop-op.writes c.put_op.new.writes c.loop-op-test.true c.op-item.is c.loop-op.invariant c.in_ok-put_op.ensures

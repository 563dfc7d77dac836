use Rattle.ledger_chain.proofs.Newest.{put_more}
use Rattle.ledger_chain.proofs.writes.Writes.put_all.Goals as goal

pub loop-write-preserved : goal.loop-write-preserved
loop-write-preserved c =
    put_more c.args.self.now c.args.writes.now c.loop-write.write-index _ c.loop-write.self c.put_write.new.self c.loop-write-test.true c.loop-write.invariant c.in_ok-put_write.ensures

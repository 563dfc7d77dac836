use Rattle.sync_server.proofs.Counting.{count_cause}
use Rattle.sync_server.proofs.Serving.{service_after}
use Rattle.sync_server.proofs.memory.MemoryLinkLink.send.Goals as goal

pub returns-clause-cause : goal.returns-clause-cause
returns-clause-cause g c = count_cause _ _ _ c.owe.ensures.later c.owe.ensures.counted

pub returns-clause-service_now : goal.returns-clause-service_now
returns-clause-service_now g c = service_after g.F.Op.Leaf.spelling g.F.Family.floor_of c.owe.result c.args.bytes.now c.args.self.now c.owe.new.self c.owe.ensures.owed

use Rattle.sync_server.proofs.Counting.{count_cause}
use Rattle.sync_server.proofs.memory.MemoryLinkLink.recv.Goals as goal

pub returns-clause-cause : goal.returns-clause-cause
returns-clause-cause g c = count_cause _ _ _ c.deliver.ensures.later c.deliver.ensures.counted

use Rattle.sync_server.proofs.Counting.{count_cause}
use Rattle.sync_server.proofs.tape.TapeLinkLink.recv.Goals as goal

pub returns-clause-cause : goal.returns-clause-cause
returns-clause-cause c = count_cause _ _ _ c.give.ensures.later c.give.ensures.counted

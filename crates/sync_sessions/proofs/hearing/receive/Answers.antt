use Rattle.std.specs.Prelude.{take}
use Rattle.sync_sessions.proofs.Adding.{since_given}
use Rattle.sync_sessions.proofs.hearing.receive.Goals as goal

pub returns-in-Err-clause-receives : goal.returns-in-Err-clause-receives
returns-in-Err-clause-receives g c = (take c.in-Ok.count c.recv.new.buffer, since_given (g.L.Link.wire c.args.link.now) (g.L.Link.wire c.recv.new.self) c.in-Ok.count c.recv.new.buffer c.in-Ok.count-test.1 c.in-Ok.ensures.wire_now)

use Rattle.std.proofs.Common.{◌<◌, ◌≤◌, length, arith}
use Rattle.sync_client.proofs.Given.{received}
use Rattle.sync_client.proofs.receiving.receive.Goals as goal

pub returns-in-Ok-clause-receives : goal.returns-in-Ok-clause-receives
returns-in-Ok-clause-receives g c =
    let most : length c.recv.new.buffer ≤ 4096 = omega (arith, c.requires.most, c.recv.auto.buffer) in
    let some : 0 < c.in-Ok.count = (let t = c.in-Ok.count-test in omega (arith, t)) in
    received c.args.machine.now c.take_in.new.machine c.recv.new.buffer c.in-Ok.count (g.L.Link.wire c.args.link.now) (g.L.Link.wire c.recv.new.self) (g.L.Link.faults c.args.link.now) (g.L.Link.faults c.recv.new.self)
    some c.in-Ok.ensures.bound most c.in-Ok.ensures.wire_now c.in-Ok.ensures.cause.later c.take_in.result c.take_in.ensures.takes

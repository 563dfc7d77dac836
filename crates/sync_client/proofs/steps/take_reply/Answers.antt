use Rattle.sha2.specs.Sha256.{sha256}
use Rattle.sync_client.specs.Asking.{judged_by}
use Rattle.sync_client.proofs.Heeding.{replies_heeded}
use Rattle.sync_client.proofs.steps.take_reply.Goals as goal

pub returns-in-Ok-clause-replies : goal.returns-in-Ok-clause-replies
returns-in-Ok-clause-replies g c =
    let a = c.in-Ok.ensures.accepts in
    replies_heeded c.heed.result (judged_by sha256 g.Op.Leaf.spelling) c.args.asked c.args.number c.args.response c.args.collector.now c.accept.new.self c.heed.new.collector (g.Ts.Targets.answers c.args.updates.now) (g.Ts.Targets.answers c.heed.new.updates) a.0 a.1 c.heed.ensures.heeds

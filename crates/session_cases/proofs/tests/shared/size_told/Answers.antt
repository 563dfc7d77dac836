use Rattle.sync_net.specs.declared.message.Message.TheVariants.{GetSyncTargetRequest}
use Rattle.sync_shared.proofs.Replying.{served_belongs}
use Rattle.session_cases.proofs.Callers.{served_caller}
use Rattle.session_cases.proofs.tests.shared.size_told.Goals as goal

pub returns-clause-belongs : goal.returns-clause-belongs
returns-clause-belongs g c =
    served_belongs g.F.Family.floor_of c.args.shared.now.opening c.args.shared.now.from c.args.pass.now c.serve-reply.new.pass c.requires g.F.Op.Leaf.spelling (GetSyncTargetRequest (record { request_id = 9 })) c.serve-reply.result c.serve-reply.ensures.answer

pub returns-clause-caller : goal.returns-clause-caller
returns-clause-caller g c =
    served_caller g.F.Family.floor_of c.args.shared.now.opening g.F.Op.Leaf.spelling c.args.pass.now c.serve-reply.new.pass (GetSyncTargetRequest (record { request_id = 9 })) c.serve-reply.result c.serve-reply.ensures.answer

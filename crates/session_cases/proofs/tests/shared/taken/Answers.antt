use Rattle.sync_shared.proofs.Replying.{appended_belongs}
use Rattle.session_cases.proofs.tests.shared.taken.Goals as goal

pub returns-in-Ok : goal.returns-in-Ok
returns-in-Ok g c = appended_belongs g.F.Family.floor_of c.args.shared.now.opening c.args.shared.now.from c.args.pass.now c.append-answer.new.pass c.requires c.args.ops.now c.append-answer.result c.append-answer.ensures.answer

pub returns-in-Err : goal.returns-in-Err
returns-in-Err g c = appended_belongs g.F.Family.floor_of c.args.shared.now.opening c.args.shared.now.from c.args.pass.now c.append-answer.new.pass c.requires c.args.ops.now c.append-answer.result c.append-answer.ensures.answer

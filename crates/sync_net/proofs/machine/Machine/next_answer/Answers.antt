use Rattle.sync_net.proofs.Answering.{answered, refused, unread}
use Rattle.sync_net.proofs.machine.Machine.next_answer.Goals as goal

pub returns-in-Ok-answer_to-clause-answers : goal.returns-in-Ok-answer_to-clause-answers
returns-in-Ok-answer_to-clause-answers g c =
    let f = rw c.in-Ok-Some.field-0-is at c.in-Ok-Some.ensures.front in
    answered g.Op.Spell.reading c.args.self.now c.self.inside.numbers c.self.inside.pending.items c.answer_to.new.pending.items c.self.inside.frames c.skip.new.self c.in-Ok-Some.count c.self.inside.closed c.in-Ok-Some.body.now c.in-Ok.message c.in-Ok-answer_to.answer
    c.self.view_is c.if-self.false c.self.invariant.limit f c.in-Ok.ensures.value c.in-Ok-answer_to.ensures.replies.0 c.in-Ok-answer_to.ensures.replies.1 c.skip.ensures

pub returns-in-Err-answer_to-clause-answers : goal.returns-in-Err-answer_to-clause-answers
returns-in-Err-answer_to-clause-answers g c =
    let f = rw c.in-Ok-Some.field-0-is at c.in-Ok-Some.ensures.front in
    refused g.Op.Spell.reading c.args.self.now c.close.new.self c.self.inside.numbers c.self.inside.pending.items c.answer_to.new.pending.items c.self.inside.frames c.in-Ok-Some.count c.self.inside.closed c.in-Ok-Some.body.now c.in-Ok.message c.in-Err-answer_to.fault
    c.self.view_is c.if-self.false c.self.invariant.limit f c.in-Ok.ensures.value c.in-Err-answer_to.ensures.replies.0 c.in-Err-answer_to.ensures.replies.1 c.close.ensures

pub returns-in_default-clause-answers : goal.returns-in_default-clause-answers
returns-in_default-clause-answers g c =
    let f = rw c.in-Ok-Some.field-0-is at c.in-Ok-Some.ensures.front in
    unread g.Op.Spell.reading c.args.self.now c.close-in_default.new.self c.self.inside.numbers c.self.inside.pending.items c.self.inside.frames c.in-Ok-Some.count c.self.inside.closed c.in-Ok-Some.body.now c.in-Err-decode.fault
    c.self.view_is c.if-self.false c.self.invariant.limit f c.in_default.not-OutOfMemory c.in-Err-decode.ensures.value c.close-in_default.ensures

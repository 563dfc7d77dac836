use Rattle.std.proofs.Common.{ap, ◌∙◌}
use Rattle.ledger_codec.specs.Sequences.{string_written}
use Rattle.sync_server.proofs.Framing.{framed_reply_is}
use Rattle.sync_server.proofs.framed.framed_reply.Goals as goal

pub returns-in_ok-frame-in-Some-clause-reply : goal.returns-in_ok-frame-in-Some-clause-reply
returns-in_ok-frame-in-Some-clause-reply g c =
    framed_reply_is g.F.Op.Spell.written g.F.Op.Leaf.spelling g.F.Family.floor_of c.args.log.now c.in_ok-request_of.field-0 c.in-Some.request c.in_ok-reply-in-Some.reply c.args.bytes.now c.in_ok-body-in-Some.body.items c.in_ok-frame-in-Some.frame
    g.met.F.SentFamily.same c.in_ok-request_of.ensures.asked c.in_ok-request_of.ensures.request c.in-Some.is c.in_ok-reply-in-Some.ensures.answer c.in_ok-body-in-Some.ensures.written (c.in_ok-frame-in-Some.ensures ∙ ap string_written c.deref.ensures.value)

use Rattle.std.proofs.Common.{◌≡◌, ◌≤◌, length, ap, arith, ◌∙◌}
use Rattle.sync_net.specs.Messages.{message_written}
use Rattle.sync_net.specs.Asks.{request_of}
use Rattle.sync_net.proofs.Short.{request_short}
use Rattle.sync_net.proofs.machine.frame_of.Goals as goal

pub frame-requires : goal.frame-requires
frame-requires g c =
    let seen : length c.deref.result.now ≡ length (message_written g.Op.Spell.written (request_of c.args.number c.args.ask.now)) =
    ap length (c.deref.ensures.value ∙ c.in_ok-body.ensures.written) ∙ ap (λ m. length (message_written g.Op.Spell.written m)) c.request-request.ensures.request in
    let short : length (message_written g.Op.Spell.written (request_of c.args.number c.args.ask.now)) ≤ 10485760 = request_short g.Op.Spell.written c.args.number c.args.ask.now c.request-request.ensures.sound in
    omega (arith, seen, short)

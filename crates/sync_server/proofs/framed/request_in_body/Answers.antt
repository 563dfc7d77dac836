use Rattle.std.proofs.Common.{sym, ◌∙◌}
use Rattle.sync_server.proofs.Framing.{read_is, unread_is, no_request}
use Rattle.sync_server.proofs.framed.request_in_body.Goals as goal

pub returns-then-is_request-clause-read : goal.returns-then-is_request-clause-read
returns-then-is_request-clause-read g c = read_is g.Op.Spell.reading c.args.body.now c.in-Ok.message c.in-Ok.ensures.value

pub returns-else-is_request-clause-read : goal.returns-else-is_request-clause-read
returns-else-is_request-clause-read g c =
    read_is g.Op.Spell.reading c.args.body.now c.in-Ok.message c.in-Ok.ensures.value ∙ no_request c.in-Ok.message (sym c.is_request.ensures ∙ c.if-is_request.false)

pub returns-in_default : goal.returns-in_default
returns-in_default g c = record { read = unread_is g.Op.Spell.reading c.args.body.now c.in-Err.fault c.in-Err.ensures.value c.in_default.not-OutOfMemory; request = tt }

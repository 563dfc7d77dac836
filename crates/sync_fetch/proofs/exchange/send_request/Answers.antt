use Rattle.std.proofs.Common.{◌∙◌, ap, ℕ, List, Err, Result, inr}
use Rattle.std.specs.Prelude.{option_map}
use Rattle.sync_net.specs.Wire.{with_sent}
use Rattle.sync_net.specs.declared.link.LinkError.{LinkError}
use Rattle.sync_fetch.proofs.Owed.{sent_so}
use Rattle.sync_fetch.proofs.exchange.send_request.Goals as goal

abbrev failure : LinkError → Result (Unit {0}) LinkError
failure x = Err x

pub returns-in-Ok-send-clause-sends : goal.returns-in-Ok-send-clause-sends
returns-in-Ok-send-clause-sends g c =
    (c.in-Ok.submitted, c.in-Ok.is, c.in-Ok-send.ensures.wire_now ∙ ap (λ (b : List ℕ). option_map (with_sent b) (g.L.Link.wire c.args.link.now)) c.deref.ensures.value, c.in-Ok-send.ensures.cause.later)

pub returns-in-Err-Failed-clause-sends : goal.returns-in-Err-Failed-clause-sends
returns-in-Err-Failed-clause-sends g c =
    (c.in-Ok.submitted, c.in-Ok.is, c.in-Err-Failed.ensures.wire_now, c.in-Err-Failed.ensures.cause.failed (ap (λ (x : LinkError). failure x) c.in-Err-Failed.field-0-is))

pub returns-clause-sends : goal.returns-clause-sends
returns-clause-sends g c = (c.in-Err-OutOfMemory-send.ensures.wire_now, c.in-Err-OutOfMemory-send.ensures.cause.later, inr (c.in-Ok.submitted, c.in-Ok.is))

pub returns-in-Ok-send-clause-serving : goal.returns-in-Ok-send-clause-serving
returns-in-Ok-send-clause-serving g c =
    sent_so c.args.made c.in-Ok.submitted tt _ (g.L.Link.service c.args.link.now) (g.L.Link.service c.send.new.self) c.in-Ok.is c.deref.ensures.value c.in-Ok-send.ensures.service_now

use Rattle.std.proofs.Common.{refl, subst}
use Rattle.sync_net.specs.declared.ask.Ask.TheVariants as asks
use Rattle.sync_net.specs.declared.message.Message.{Message}
use Rattle.sync_fetch.specs.Told.{FetchCame}
use Rattle.sync_fetch.proofs.Fetched.{send_stops, fetch_stops, fetch_came}
use Rattle.sync_fetch.proofs.Single.{one_way}
use Rattle.sync_fetch.proofs.States.{is_state}
use Rattle.sync_fetch.proofs.state.fetch_state.Goals as goal

pub returns-in-Err-await_reply-clause-fetched : goal.returns-in-Err-await_reply-clause-fetched
returns-in-Err-await_reply-clause-fetched g c =
    fetch_stops g.Op.Spell.reading g.Op.Spell.written (asks.CompactState c.args.target.now) c.args.machine.now c.submit_compact_state-made.new.self c.await_reply.new.machine c.submit_compact_state-made.result c.in-Ok.field-0 (g.L.Link.wire c.args.link.now) (g.L.Link.wire c.send_request.new.link) (g.L.Link.wire c.await_reply.new.link) (g.L.Link.faults c.args.link.now) (g.L.Link.faults c.send_request.new.link) (g.L.Link.faults c.await_reply.new.link) c.in-Err-await_reply.fault c.requires c.submit_compact_state-made.ensures c.in-Ok.ensures.sends c.in-Err-await_reply.ensures.awaits

pub unreachable-requires : goal.unreachable-requires
unreachable-requires g c =
    let f = fetch_came g.Op.Spell.reading g.Op.Spell.written (asks.CompactState c.args.target.now) c.args.machine.now c.submit_compact_state-made.new.self c.await_reply.new.machine c.submit_compact_state-made.result c.in-Ok.field-0 (g.L.Link.wire c.args.link.now) (g.L.Link.wire c.send_request.new.link) (g.L.Link.wire c.await_reply.new.link) (g.L.Link.faults c.args.link.now) (g.L.Link.faults c.send_request.new.link) (g.L.Link.faults c.await_reply.new.link) c.in-Ok-await_reply.message c.requires c.submit_compact_state-made.ensures c.in-Ok.ensures.sends c.in-Ok-await_reply.ensures.awaits in
    let k = is_state c.args.target.now c.in-Ok-await_reply.message f.3.kind in
    c.in_default.not-GetCompactStateResponse k.0 k.1

pub returns-clause-fetched : goal.returns-clause-fetched
returns-clause-fetched g c =
    let f = fetch_came g.Op.Spell.reading g.Op.Spell.written (asks.CompactState c.args.target.now) c.args.machine.now c.submit_compact_state-made.new.self c.await_reply.new.machine c.submit_compact_state-made.result c.in-Ok.field-0 (g.L.Link.wire c.args.link.now) (g.L.Link.wire c.send_request.new.link) (g.L.Link.wire c.await_reply.new.link) (g.L.Link.faults c.args.link.now) (g.L.Link.faults c.send_request.new.link) (g.L.Link.faults c.await_reply.new.link) c.in-Ok-await_reply.message c.requires c.submit_compact_state-made.ensures c.in-Ok.ensures.sends c.in-Ok-await_reply.ensures.awaits in
    (c.in-GetCompactStateResponse.answer, refl, subst (λ (x : Message g.row.Op.Denot). FetchCame g.Op.Spell.reading g.Op.Spell.written (asks.CompactState c.args.target.now) x c.args.machine.now c.await_reply.new.machine (g.L.Link.wire c.args.link.now) (g.L.Link.wire c.await_reply.new.link)) c.in-GetCompactStateResponse.is f)

pub returns-in-Err-clause-fetched : goal.returns-in-Err-clause-fetched
returns-in-Err-clause-fetched g c =
    send_stops g.Op.Spell.reading g.Op.Spell.written (asks.CompactState c.args.target.now) c.args.machine.now c.submit_compact_state-made.new.self c.submit_compact_state-made.result (g.L.Link.wire c.args.link.now) (g.L.Link.wire c.send_request.new.link) (g.L.Link.faults c.args.link.now) (g.L.Link.faults c.send_request.new.link) c.in-Err.fault c.requires c.submit_compact_state-made.ensures c.in-Err.ensures.sends

pub returns-in-Err-clause-one_way : goal.returns-in-Err-clause-one_way
returns-in-Err-clause-one_way g c = one_way g.Op.Spell.reading

pub returns-in-Err-await_reply-clause-one_way : goal.returns-in-Err-await_reply-clause-one_way
returns-in-Err-await_reply-clause-one_way g c = one_way g.Op.Spell.reading

pub returns-clause-one_way : goal.returns-clause-one_way
returns-clause-one_way g c = one_way g.Op.Spell.reading

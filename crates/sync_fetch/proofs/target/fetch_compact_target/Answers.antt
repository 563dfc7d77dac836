use Rattle.std.proofs.Common.{Err, refl, subst, arith}
use Rattle.sync_net.specs.declared.ask.Ask.TheVariants as asks
use Rattle.sync_net.specs.declared.message.Message.{Message}
use Rattle.sync_client.specs.declared.fault.SyncFault.{SyncFault}
use Rattle.sync_fetch.specs.Served.{RefusesCompact}
use Rattle.sync_fetch.specs.Told.{FetchCame}
use Rattle.sync_fetch.proofs.Fetched.{send_stops, fetch_stops, fetch_came, is_compact_target}
use Rattle.sync_fetch.proofs.Single.{one_way}
use Rattle.sync_fetch.proofs.Owed.{compact_came, compact_didnt, unsent_may_stop}
use Rattle.sync_fetch.proofs.target.fetch_compact_target.Goals as goal

pub returns-in-Err-await_reply-clause-fetched : goal.returns-in-Err-await_reply-clause-fetched
returns-in-Err-await_reply-clause-fetched g c =
    fetch_stops g.Op.Spell.reading g.Op.Spell.written asks.CompactTarget c.args.machine.now c.submit_compact_target-made.new.self c.await_reply.new.machine c.submit_compact_target-made.result c.in-Ok.field-0 (g.L.Link.wire c.args.link.now) (g.L.Link.wire c.send_request.new.link) (g.L.Link.wire c.await_reply.new.link) (g.L.Link.faults c.args.link.now) (g.L.Link.faults c.send_request.new.link) (g.L.Link.faults c.await_reply.new.link) c.in-Err-await_reply.fault c.requires c.submit_compact_target-made.ensures c.in-Ok.ensures.sends c.in-Err-await_reply.ensures.awaits

pub unreachable-requires : goal.unreachable-requires
unreachable-requires g c =
    let f = fetch_came g.Op.Spell.reading g.Op.Spell.written asks.CompactTarget c.args.machine.now c.submit_compact_target-made.new.self c.await_reply.new.machine c.submit_compact_target-made.result c.in-Ok.field-0 (g.L.Link.wire c.args.link.now) (g.L.Link.wire c.send_request.new.link) (g.L.Link.wire c.await_reply.new.link) (g.L.Link.faults c.args.link.now) (g.L.Link.faults c.send_request.new.link) (g.L.Link.faults c.await_reply.new.link) c.in-Ok-await_reply.message c.requires c.submit_compact_target-made.ensures c.in-Ok.ensures.sends c.in-Ok-await_reply.ensures.awaits in
    let k = is_compact_target c.in-Ok-await_reply.message f.3.kind in
    c.in_default.not-GetCompactTargetResponse k.0 k.1

pub returns-clause-fetched : goal.returns-clause-fetched
returns-clause-fetched g c =
    let f = fetch_came g.Op.Spell.reading g.Op.Spell.written asks.CompactTarget c.args.machine.now c.submit_compact_target-made.new.self c.await_reply.new.machine c.submit_compact_target-made.result c.in-Ok.field-0 (g.L.Link.wire c.args.link.now) (g.L.Link.wire c.send_request.new.link) (g.L.Link.wire c.await_reply.new.link) (g.L.Link.faults c.args.link.now) (g.L.Link.faults c.send_request.new.link) (g.L.Link.faults c.await_reply.new.link) c.in-Ok-await_reply.message c.requires c.submit_compact_target-made.ensures c.in-Ok.ensures.sends c.in-Ok-await_reply.ensures.awaits in
    (c.in-GetCompactTargetResponse.answer, refl, subst (λ (x : Message g.row.Op.Denot). FetchCame g.Op.Spell.reading g.Op.Spell.written asks.CompactTarget x c.args.machine.now c.await_reply.new.machine (g.L.Link.wire c.args.link.now) (g.L.Link.wire c.await_reply.new.link)) c.in-GetCompactTargetResponse.is f)

pub returns-in-Err-clause-fetched : goal.returns-in-Err-clause-fetched
returns-in-Err-clause-fetched g c =
    send_stops g.Op.Spell.reading g.Op.Spell.written asks.CompactTarget c.args.machine.now c.submit_compact_target-made.new.self c.submit_compact_target-made.result (g.L.Link.wire c.args.link.now) (g.L.Link.wire c.send_request.new.link) (g.L.Link.faults c.args.link.now) (g.L.Link.faults c.send_request.new.link) c.in-Err.fault c.requires c.submit_compact_target-made.ensures c.in-Err.ensures.sends

pub returns-in-Err-clause-one_way : goal.returns-in-Err-clause-one_way
returns-in-Err-clause-one_way g c = one_way g.Op.Spell.reading

pub returns-in-Err-await_reply-clause-one_way : goal.returns-in-Err-await_reply-clause-one_way
returns-in-Err-await_reply-clause-one_way g c = one_way g.Op.Spell.reading

pub returns-clause-one_way : goal.returns-clause-one_way
returns-clause-one_way g c = one_way g.Op.Spell.reading

pub returns-in-Err-clause-serving : goal.returns-in-Err-clause-serving
returns-in-Err-clause-serving g c held b =
    unsent_may_stop g.Op.Spell.written asks.CompactTarget held c.args.machine.now c.submit_compact_target-made.new.self c.submit_compact_target-made.result c.in-Err.fault (g.L.Link.wire c.args.link.now) (g.L.Link.wire c.send_request.new.link) (g.L.Link.faults c.args.link.now) (g.L.Link.faults c.send_request.new.link) (g.L.Link.service c.args.link.now) b c.submit_compact_target-made.ensures c.in-Err.ensures.sends
    (λ (x : SyncFault). RefusesCompact held (Err x) (g.L.Link.service c.send_request.new.link)) tt tt tt

pub returns-in-Err-await_reply-clause-serving : goal.returns-in-Err-await_reply-clause-serving
returns-in-Err-await_reply-clause-serving g c held b =
    compact_didnt g.Op.Spell.reading g.Op.Spell.written g.Op.Spell.sound g.Op.Spell.fits g.met.Op.Spell.laws held c.args.machine.now c.submit_compact_target-made.new.self c.await_reply.new.machine c.submit_compact_target-made.result c.in-Ok.field-0 (g.L.Link.service c.args.link.now) (g.L.Link.service c.send_request.new.link) (g.L.Link.service c.await_reply.new.link) c.in-Err-await_reply.fault
    c.requires b c.submit_compact_target-made.ensures c.in-Ok.ensures.serving c.in-Err-await_reply.ensures.serving

pub returns-clause-serving : goal.returns-clause-serving
returns-clause-serving g c held b =
    absurd (compact_came g.Op.Spell.reading g.Op.Spell.written g.Op.Spell.sound g.Op.Spell.fits g.met.Op.Spell.laws held c.args.machine.now c.submit_compact_target-made.new.self c.await_reply.new.machine c.submit_compact_target-made.result c.in-Ok.field-0 (g.L.Link.service c.args.link.now) (g.L.Link.service c.send_request.new.link) (g.L.Link.service c.await_reply.new.link) c.in-Ok-await_reply.message c.in-GetCompactTargetResponse.answer
    c.requires b c.submit_compact_target-made.ensures c.in-Ok.ensures.serving c.in-Ok-await_reply.ensures.serving c.in-GetCompactTargetResponse.is)

pub returns-clause-later : goal.returns-clause-later
returns-clause-later g c = omega (arith, c.in-Ok.ensures.sends.3, c.in-Ok-await_reply.ensures.later)

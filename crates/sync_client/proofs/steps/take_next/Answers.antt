use Rattle.std.proofs.Common.{◌≡◌, ◌∙◌, ap, sym, ◌≤◌, ◌^◌, List, Option, arith, Ok, Some, refl}
use Rattle.ledger_log.specs.declared.target.Target.{Target}
use Rattle.sync_net.specs.declared.ask.Ask.{Ask as Request}
use Rattle.sync_net.specs.declared.ask.Answer.{Answer}
use Rattle.sync_net.specs.declared.message.Message.TheVariants as messages
use Rattle.sync_net.specs.View.{MachineView}
use Rattle.sync_net.specs.Asks.{pending_after, without as machine_without}
use Rattle.sync_net.specs.Numbered.{number_of}
use Rattle.sync_client.specs.Tiles.{Within}
use Rattle.sync_client.specs.Collected.{ranges_of}
use Rattle.sync_client.specs.Session.{Rules, rules_for}
use Rattle.sync_client.specs.Seen.{beside, range_of}
use Rattle.sync_client.proofs.Insides.{All-at}
use Rattle.sync_client.proofs.Bridge.{unread_is, stray_kept, stray_refused, replied, is_response, outstanding, unexpected, served_error}
use Rattle.sync_client.proofs.Replies.{reply_took, reply_stopped}
use Rattle.sync_client.proofs.steps.take_next.Goals as goal

pub range_of-requires : goal.range_of-requires
range_of-requires g c =
    let h = rw c.in-Ok-Some.field-0-is at c.in-Ok-Some.ensures.answers in
    let r = replied h.2 _ c.in-Reply.number c.in-Reply.ask c.in-Reply.message (h.6 ∙ ap Ok c.in-Reply.is) in
    let out = outstanding c.args.machine.now c.args.collector.now _ r.p c.requires.paired r.found in
    let w = All-at (Within c.args.collector.now.plan.target.end) (ranges_of c.args.collector.now.pending) out.0 (range_of r.p.ask) out.1 c.requires.tiles.pending in
    let e : (range_of c.in-Reply.ask).end ≡ (range_of r.p.ask).end = ap (λ (a : Request). (range_of a).end) r.ask in
    let k : (range_of r.p.ask).end ≤ c.args.collector.now.plan.target.end = w.1 in
    let m : c.args.collector.now.plan.target.end ≤ 2 ^ 62 = c.requires.tiles.near in
    omega (arith, e, k, m)

pub take_reply-requires : goal.take_reply-requires
take_reply-requires g c =
    let h = rw c.in-Ok-Some.field-0-is at c.in-Ok-Some.ensures.answers in
    let r = replied h.2 _ c.in-Reply.number c.in-Reply.ask c.in-Reply.message (h.6 ∙ ap Ok c.in-Reply.is) in
    let out = outstanding c.args.machine.now c.args.collector.now _ r.p c.requires.paired r.found in
    (out.0, out.1 ∙ ap Some (sym (c.range_of.ensures ∙ ap range_of r.ask)))

pub unreachable-requires : goal.unreachable-requires
unreachable-requires g c =
    let h = rw c.in-Ok-Some.field-0-is at c.in-Ok-Some.ensures.answers in
    let r = replied h.2 _ c.in-Reply.number c.in-Reply.ask c.in-Reply.message (h.6 ∙ ap Ok c.in-Reply.is) in
    let k = is_response c.args.machine.now c.args.collector.now h.2 c.in-Reply.number c.in-Reply.ask c.in-Reply.message c.requires.paired r in
    c.in_default.not-GetOperationsResponse k.0 (r.message ∙ k.1)

pub returns-then-strays-ge-MAX_STRAYS-clause-takes : goal.returns-then-strays-ge-MAX_STRAYS-clause-takes
returns-then-strays-ge-MAX_STRAYS-clause-takes g c =
    let rules : Rules g.row.Op.Denot = rules_for g.Op.Spell.reading g.Op.Spell.written g.Op.Leaf.spelling in
    let before : List (Option Target) = g.Ts.Targets.answers c.args.updates.now in
    let h = rw c.in-Ok-Some.field-0-is at c.in-Ok-Some.ensures.answers in
    (h.0, h.1, h.4, stray_refused rules c.args.machine.now c.args.collector.now c.args.strays.now before h.0 h.2 c.in-Stray.number c.requires.paired h.5 (h.6 ∙ ap Ok c.in-Stray.is) c.if-strays-ge-MAX_STRAYS.true, h.3, ap (λ (v : MachineView). v.closed) h.7 ∙ h.3, refl)

pub returns-else-strays-ge-MAX_STRAYS-clause-takes : goal.returns-else-strays-ge-MAX_STRAYS-clause-takes
returns-else-strays-ge-MAX_STRAYS-clause-takes g c =
    let rules : Rules g.row.Op.Denot = rules_for g.Op.Spell.reading g.Op.Spell.written g.Op.Leaf.spelling in
    let before : List (Option Target) = g.Ts.Targets.answers c.args.updates.now in
    let h = rw c.in-Ok-Some.field-0-is at c.in-Ok-Some.ensures.answers in
    let new : c.next_answer.new.self ≡ record c.args.machine.now { held = h.1 } = h.7 ∙ ap (λ (a : Answer g.row.Op.Denot). let w : MachineView = record c.args.machine.now { held = h.1; pending = pending_after h.2 a c.args.machine.now.pending } in w) c.in-Stray.is in
    rw new (h.0, h.4, stray_kept rules c.args.machine.now c.args.collector.now c.args.strays.now before h.0 h.2 c.in-Stray.number c.requires.paired h.5 (h.6 ∙ ap Ok c.in-Stray.is) c.if-strays-ge-MAX_STRAYS.false, record { ranges = c.requires.paired.ranges; operations = c.requires.paired.operations }, h.3, h.3)

pub returns-in-Ok-clause-takes : goal.returns-in-Ok-clause-takes
returns-in-Ok-clause-takes g c =
    let rules : Rules g.row.Op.Denot = rules_for g.Op.Spell.reading g.Op.Spell.written g.Op.Leaf.spelling in
    let before : List (Option Target) = g.Ts.Targets.answers c.args.updates.now in
    let h = rw c.in-Ok-Some.field-0-is at c.in-Ok-Some.ensures.answers in
    let r = replied h.2 _ c.in-Reply.number c.in-Reply.ask c.in-Reply.message (h.6 ∙ ap Ok c.in-Reply.is) in
    let is : h.2 ≡ messages.GetOperationsResponse c.in-GetOperationsResponse.response = sym r.message ∙ c.in-GetOperationsResponse.is in
    let new : c.next_answer.new.self ≡ record c.args.machine.now { held = h.1; pending = machine_without (number_of h.2) c.args.machine.now.pending } = h.7 ∙ ap (λ (a : Answer g.row.Op.Denot). let w : MachineView = record c.args.machine.now { held = h.1; pending = pending_after h.2 a c.args.machine.now.pending } in w) c.in-Reply.is in
    reply_took rules c.args.machine.now c.next_answer.new.self c.args.collector.now c.take_reply.new.collector c.args.strays.now before (g.Ts.Targets.answers c.take_reply.new.updates) h.0 h.1 h.2 r.p c.in-GetOperationsResponse.response h.5 is r.found c.requires.tiles c.requires.paired h.4 h.3 new
    c.range_of.result c.in-Reply.number (c.range_of.ensures ∙ ap range_of r.ask) r.number c.in-Ok.field-0 c.in-Ok.ensures.replies

pub returns-in-Err-clause-takes : goal.returns-in-Err-clause-takes
returns-in-Err-clause-takes g c =
    let rules : Rules g.row.Op.Denot = rules_for g.Op.Spell.reading g.Op.Spell.written g.Op.Leaf.spelling in
    let before : List (Option Target) = g.Ts.Targets.answers c.args.updates.now in
    let h = rw c.in-Ok-Some.field-0-is at c.in-Ok-Some.ensures.answers in
    let r = replied h.2 _ c.in-Reply.number c.in-Reply.ask c.in-Reply.message (h.6 ∙ ap Ok c.in-Reply.is) in
    let is : h.2 ≡ messages.GetOperationsResponse c.in-GetOperationsResponse.response = sym r.message ∙ c.in-GetOperationsResponse.is in
    let new : c.next_answer.new.self ≡ record c.args.machine.now { held = h.1; pending = machine_without (number_of h.2) c.args.machine.now.pending } = h.7 ∙ ap (λ (a : Answer g.row.Op.Denot). let w : MachineView = record c.args.machine.now { held = h.1; pending = pending_after h.2 a c.args.machine.now.pending } in w) c.in-Reply.is in
    reply_stopped rules c.args.machine.now c.next_answer.new.self c.args.collector.now c.take_reply.new.collector c.args.strays.now before (g.Ts.Targets.answers c.take_reply.new.updates) h.0 h.1 h.2 r.p c.in-GetOperationsResponse.response h.5 is r.found c.requires.tiles c.requires.paired h.4 h.3 new
    c.range_of.result c.in-Reply.number (c.range_of.ensures ∙ ap range_of r.ask) r.number c.in-Err.fault c.in-Err.ensures.replies

pub returns-in-Err-InvalidResponse-clause-takes : goal.returns-in-Err-InvalidResponse-clause-takes
returns-in-Err-InvalidResponse-clause-takes g c =
    let rules : Rules g.row.Op.Denot = rules_for g.Op.Spell.reading g.Op.Spell.written g.Op.Leaf.spelling in
    let before : List (Option Target) = g.Ts.Targets.answers c.args.updates.now in
    let h = rw c.in-Err-InvalidResponse.field-0-is at c.in-Err-InvalidResponse.ensures.answers in
    (h.0, h.1, h.4, unread_is rules c.args.machine.now c.args.collector.now (beside c.args.strays.now before) h.0 h.2 h.5, h.3, ap (λ (v : MachineView). v.closed) h.6, refl)

pub returns-in-Err-UnexpectedResponse-clause-takes : goal.returns-in-Err-UnexpectedResponse-clause-takes
returns-in-Err-UnexpectedResponse-clause-takes g c =
    let rules : Rules g.row.Op.Denot = rules_for g.Op.Spell.reading g.Op.Spell.written g.Op.Leaf.spelling in
    let before : List (Option Target) = g.Ts.Targets.answers c.args.updates.now in
    let h = rw c.in-Err-UnexpectedResponse.field-0-is at c.in-Err-UnexpectedResponse.ensures.answers in
    (h.0, h.1, h.4, unexpected rules c.args.machine.now c.args.collector.now (beside c.args.strays.now before) h.0 h.2 c.in-Err-UnexpectedResponse.request_id c.requires.paired h.5 h.6, h.3, ap (λ (v : MachineView). v.closed) h.7, refl)

pub returns-in-Err-Server-clause-takes : goal.returns-in-Err-Server-clause-takes
returns-in-Err-Server-clause-takes g c =
    let rules : Rules g.row.Op.Denot = rules_for g.Op.Spell.reading g.Op.Spell.written g.Op.Leaf.spelling in
    let before : List (Option Target) = g.Ts.Targets.answers c.args.updates.now in
    let h = rw c.in-Err-Server.field-0-is at c.in-Err-Server.ensures.answers in
    (h.0, h.1, h.4, served_error rules c.args.machine.now c.args.collector.now (beside c.args.strays.now before) h.0 h.2 c.in-Err-Server.code c.in-Err-Server.message c.requires.paired h.5 h.6, h.3, ap (λ (v : MachineView). v.closed) h.7, refl)

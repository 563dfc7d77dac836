use Rattle.std.proofs.Common.{refl}
use Rattle.sync_client.proofs.Sending.{nothing_asked, no_number, asking_keeps, made}
use Rattle.sync_client.proofs.steps.ask.Goals as goal

pub returns-in-Ok-None-clause-asks : goal.returns-in-Ok-None-clause-asks
returns-in-Ok-None-clause-asks g c =
    let e = rw c.in-Ok-None.field-0-is at c.in-Ok-None.ensures.asks in
    (λ strays. nothing_asked c.args.machine.now c.args.collector.now strays c.requires.paired e.0, refl, e.1)

pub returns-in-Ok-clause-asks : goal.returns-in-Ok-clause-asks
returns-in-Ok-clause-asks g c =
    let e = rw c.in-Ok-Some.field-0-is at c.in-Ok-Some.ensures.asks in
    let w = rw c.in-Ok-Some.field-0-is at c.in-Ok-Some.ensures.within in
    let h = c.in-Ok.ensures in
    made g.Op.Spell.written c.target-target.result c.args.machine.now c.submit_operations.new.self c.args.collector.now c.next_ask.new.self c.in-Ok-Some.range c.count_of-count.result c.get.result c.get-2.result c.in-Ok.submitted.number c.in-Ok.submitted.frame.items
    c.get.ensures.same c.get-2.ensures.same c.target-target.ensures.value c.requires.paired e w.0 c.count_of-count.ensures h.0 h.1 h.2 h.3

pub returns-in-Ok-clause-plan : goal.returns-in-Ok-clause-plan
returns-in-Ok-clause-plan g c =
    let e = rw c.in-Ok-Some.field-0-is at c.in-Ok-Some.ensures.asks in
    (asking_keeps c.args.collector.now c.next_ask.new.self c.in-Ok-Some.range e).0

pub returns-in-Ok-clause-kept : goal.returns-in-Ok-clause-kept
returns-in-Ok-clause-kept g c =
    let e = rw c.in-Ok-Some.field-0-is at c.in-Ok-Some.ensures.asks in
    (asking_keeps c.args.collector.now c.next_ask.new.self c.in-Ok-Some.range e).1

pub returns-in-Err-Closed-clause-plan : goal.returns-in-Err-Closed-clause-plan
returns-in-Err-Closed-clause-plan g c =
    let e = rw c.in-Ok-Some.field-0-is at c.in-Ok-Some.ensures.asks in
    (asking_keeps c.args.collector.now c.next_ask.new.self c.in-Ok-Some.range e).0

pub returns-in-Err-Closed-clause-kept : goal.returns-in-Err-Closed-clause-kept
returns-in-Err-Closed-clause-kept g c =
    let e = rw c.in-Ok-Some.field-0-is at c.in-Ok-Some.ensures.asks in
    (asking_keeps c.args.collector.now c.next_ask.new.self c.in-Ok-Some.range e).1

pub returns-in-Err-Exhausted-clause-asks : goal.returns-in-Err-Exhausted-clause-asks
returns-in-Err-Exhausted-clause-asks g c =
    let e = rw c.in-Ok-Some.field-0-is at c.in-Ok-Some.ensures.asks in
    let h = rw c.in-Err-Exhausted.field-0-is at c.in-Err-Exhausted.ensures in
    (λ strays. no_number c.args.machine.now c.args.collector.now strays c.in-Ok-Some.range c.next_ask.new.self c.requires.paired e h.1, h.0, h.1, h.2)

pub returns-in-Err-Exhausted-clause-plan : goal.returns-in-Err-Exhausted-clause-plan
returns-in-Err-Exhausted-clause-plan g c =
    let e = rw c.in-Ok-Some.field-0-is at c.in-Ok-Some.ensures.asks in
    (asking_keeps c.args.collector.now c.next_ask.new.self c.in-Ok-Some.range e).0

pub returns-in-Err-Exhausted-clause-kept : goal.returns-in-Err-Exhausted-clause-kept
returns-in-Err-Exhausted-clause-kept g c =
    let e = rw c.in-Ok-Some.field-0-is at c.in-Ok-Some.ensures.asks in
    (asking_keeps c.args.collector.now c.next_ask.new.self c.in-Ok-Some.range e).1

pub returns-in-Err-OutOfMemory-clause-plan : goal.returns-in-Err-OutOfMemory-clause-plan
returns-in-Err-OutOfMemory-clause-plan g c =
    let e = rw c.in-Ok-Some.field-0-is at c.in-Ok-Some.ensures.asks in
    (asking_keeps c.args.collector.now c.next_ask.new.self c.in-Ok-Some.range e).0

pub returns-in-Err-OutOfMemory-clause-kept : goal.returns-in-Err-OutOfMemory-clause-kept
returns-in-Err-OutOfMemory-clause-kept g c =
    let e = rw c.in-Ok-Some.field-0-is at c.in-Ok-Some.ensures.asks in
    (asking_keeps c.args.collector.now c.next_ask.new.self c.in-Ok-Some.range e).1

use Rattle.std.proofs.Common.{inl, inr, ◌∙◌, [], refl}
use Rattle.ledger_sync.proofs.Opening.{nothing_pending, part_so, session_so, unopened, kept_then, steady_then, kept_opened, steady_opened}
use Rattle.ledger_sync.proofs.Serving.{told_of, begins_after, serves_of, synced_is, log_served, unopened_served}
use Rattle.ledger_sync.proofs.log.fetch_log.Goals as goal

pub sync_hashed-requires : goal.sync_hashed-requires
sync_hashed-requires g c =
    nothing_pending c.in-Ok.target g.F.Op.Spell.reading g.F.Op.Spell.written c.args.machine.now c.fetch_target.new.machine (g.L.Link.wire c.args.link.now) (g.L.Link.wire c.fetch_target.new.link) (g.L.Link.faults c.args.link.now) (g.L.Link.faults c.fetch_target.new.link) c.in-Ok.ensures.fetched

pub returns-in-Err-clause-fetched : goal.returns-in-Err-clause-fetched
returns-in-Err-clause-fetched g c = inl c.in-Err.ensures.fetched

pub returns-in-Err-sync_hashed-clause-fetched : goal.returns-in-Err-sync_hashed-clause-fetched
returns-in-Err-sync_hashed-clause-fetched g c =
    inr (inl (session_so g.F.Op.Leaf.spelling c.args.limits.now g.F.Op.Spell.reading g.F.Op.Spell.written c.args.machine.now c.fetch_target.new.machine c.sync_hashed.new.machine (g.L.Link.wire c.args.link.now) (g.L.Link.wire c.fetch_target.new.link) (g.L.Link.wire c.sync_hashed.new.link) (g.L.Link.faults c.args.link.now) (g.L.Link.faults c.fetch_target.new.link) (g.L.Link.faults c.sync_hashed.new.link) c.in-Ok.target c.in-Ok.ensures.fetched c.in-Ok.ensures.later c.in-Err-sync_hashed.fault c.in-Err-sync_hashed.ensures.ended))

pub returns-in-Ok-opened-clause-fetched : goal.returns-in-Ok-opened-clause-fetched
returns-in-Ok-opened-clause-fetched g c =
    (part_so g.F.Op.Leaf.spelling c.args.limits.now g.F.Op.Spell.reading g.F.Op.Spell.written c.args.machine.now c.fetch_target.new.machine c.sync_hashed.new.machine (g.L.Link.wire c.args.link.now) (g.L.Link.wire c.fetch_target.new.link) (g.L.Link.wire c.sync_hashed.new.link) (g.L.Link.faults c.args.link.now) (g.L.Link.faults c.fetch_target.new.link) (g.L.Link.faults c.sync_hashed.new.link) c.in-Ok.target c.in-Ok.ensures.fetched c.in-Ok.ensures.later c.in-Ok-sync_hashed.synced c.in-Ok-sync_hashed.ensures.ended c.in-Ok-sync_hashed.ensures.took c.in-Ok-sync_hashed.ensures.part, c.in-Ok-opened.ensures)

pub returns-in-Err-opened-clause-fetched : goal.returns-in-Err-opened-clause-fetched
returns-in-Err-opened-clause-fetched g c =
    let p = part_so g.F.Op.Leaf.spelling c.args.limits.now g.F.Op.Spell.reading g.F.Op.Spell.written c.args.machine.now c.fetch_target.new.machine c.sync_hashed.new.machine (g.L.Link.wire c.args.link.now) (g.L.Link.wire c.fetch_target.new.link) (g.L.Link.wire c.sync_hashed.new.link) (g.L.Link.faults c.args.link.now) (g.L.Link.faults c.fetch_target.new.link) (g.L.Link.faults c.sync_hashed.new.link) c.in-Ok.target c.in-Ok.ensures.fetched c.in-Ok.ensures.later c.in-Ok-sync_hashed.synced c.in-Ok-sync_hashed.ensures.ended c.in-Ok-sync_hashed.ensures.took c.in-Ok-sync_hashed.ensures.part in
    unopened g.F.Op.Leaf.spelling c.args.limits.now g.F.Op.Spell.reading g.F.Op.Spell.written c.args.machine.now c.fetch_target.new.machine c.sync_hashed.new.machine (g.L.Link.wire c.args.link.now) (g.L.Link.wire c.fetch_target.new.link) (g.L.Link.wire c.sync_hashed.new.link) (g.L.Link.faults c.args.link.now) (g.L.Link.faults c.fetch_target.new.link) (g.L.Link.faults c.sync_hashed.new.link) c.in-Ok.target c.in-Ok.ensures.fetched c.in-Ok.ensures.later g.F.Family.floor_of p c.in-Err-opened.fault c.in-Err-opened.ensures

pub returns-in-Err-sync_hashed-clause-exact : goal.returns-in-Err-sync_hashed-clause-exact
returns-in-Err-sync_hashed-clause-exact g c = λ t. kept_then (Unit {0}) (Unit {0}) c.in-Err-sync_hashed.fault (g.L.Link.faults c.args.link.now) (g.L.Link.faults c.fetch_target.new.link) (g.L.Link.faults c.sync_hashed.new.link) (c.in-Ok.ensures.exact t) (c.in-Err-sync_hashed.ensures.exact t)

pub returns-in-Err-sync_hashed-clause-steady : goal.returns-in-Err-sync_hashed-clause-steady
returns-in-Err-sync_hashed-clause-steady g c = λ t.
    let one = c.in-Ok.ensures.steady t in
    let two = c.in-Err-sync_hashed.ensures.steady one.0 in
    (two.0, steady_then (Unit {0}) (Unit {0}) c.in-Err-sync_hashed.fault (g.L.Link.faults c.args.link.now) (g.L.Link.faults c.fetch_target.new.link) (g.L.Link.faults c.sync_hashed.new.link) one.1 two.1)

pub returns-in-Ok-opened-clause-exact : goal.returns-in-Ok-opened-clause-exact
returns-in-Ok-opened-clause-exact g c = λ t. c.in-Ok-sync_hashed.ensures.exact t ∙ c.in-Ok.ensures.exact t

pub returns-in-Ok-opened-clause-steady : goal.returns-in-Ok-opened-clause-steady
returns-in-Ok-opened-clause-steady g c = λ t.
    let one = c.in-Ok.ensures.steady t in
    let two = c.in-Ok-sync_hashed.ensures.steady one.0 in
    (two.0, two.1 ∙ one.1)

pub returns-in-Err-opened-clause-exact : goal.returns-in-Err-opened-clause-exact
returns-in-Err-opened-clause-exact g c = λ t. kept_opened (Unit {0}) g.F.Family.floor_of c.in-Ok-sync_hashed.synced.1.part c.in-Err-opened.fault (g.L.Link.faults c.args.link.now) (g.L.Link.faults c.sync_hashed.new.link) c.in-Err-opened.ensures (c.in-Ok-sync_hashed.ensures.exact t ∙ c.in-Ok.ensures.exact t)

pub returns-in-Err-opened-clause-steady : goal.returns-in-Err-opened-clause-steady
returns-in-Err-opened-clause-steady g c = λ t.
    let one = c.in-Ok.ensures.steady t in
    let two = c.in-Ok-sync_hashed.ensures.steady one.0 in
    (two.0, steady_opened (Unit {0}) g.F.Family.floor_of c.in-Ok-sync_hashed.synced.1.part c.in-Err-opened.fault (g.L.Link.faults c.args.link.now) (g.L.Link.faults c.sync_hashed.new.link) c.in-Err-opened.ensures (two.1 ∙ one.1))

pub returns-in-Err-clause-serving : goal.returns-in-Err-clause-serving
returns-in-Err-clause-serving g c held h sent begins =
    c.in-Err.ensures.serving held (told_of g.F.Op.Spell.written g.F.Op.Spell.sound g.F.Family.floor_of held h) begins

pub returns-in-Err-sync_hashed-clause-serving : goal.returns-in-Err-sync_hashed-clause-serving
returns-in-Err-sync_hashed-clause-serving g c held h sent begins =
    let t = c.in-Ok.ensures.serving held (told_of g.F.Op.Spell.written g.F.Op.Spell.sound g.F.Family.floor_of held h) begins in
    let b = begins_after c.in-Ok.target g.F.Op.Spell.reading g.F.Op.Spell.written c.args.machine.now c.fetch_target.new.machine (g.L.Link.wire c.args.link.now) (g.L.Link.wire c.fetch_target.new.link) (g.L.Link.faults c.args.link.now) (g.L.Link.faults c.fetch_target.new.link) held (g.L.Link.service c.fetch_target.new.link) c.in-Ok.ensures.fetched t.1 in
    c.in-Err-sync_hashed.ensures.serving held [] sent (serves_of g.F.Op.Spell.written g.F.Op.Spell.sound g.F.Family.floor_of held h c.in-Ok.target t.0) b refl tt

pub returns-in-Ok-opened-clause-serving : goal.returns-in-Ok-opened-clause-serving
returns-in-Ok-opened-clause-serving g c held h sent begins =
    let t = c.in-Ok.ensures.serving held (told_of g.F.Op.Spell.written g.F.Op.Spell.sound g.F.Family.floor_of held h) begins in
    let b = begins_after c.in-Ok.target g.F.Op.Spell.reading g.F.Op.Spell.written c.args.machine.now c.fetch_target.new.machine (g.L.Link.wire c.args.link.now) (g.L.Link.wire c.fetch_target.new.link) (g.L.Link.faults c.args.link.now) (g.L.Link.faults c.fetch_target.new.link) held (g.L.Link.service c.fetch_target.new.link) c.in-Ok.ensures.fetched t.1 in
    let own = c.in-Ok-sync_hashed.ensures.serving held [] sent (serves_of g.F.Op.Spell.written g.F.Op.Spell.sound g.F.Family.floor_of held h c.in-Ok.target t.0) b refl tt in
    let s = synced_is c.in-Ok-sync_hashed.synced c.in-Ok.target c.in-Ok-sync_hashed.ensures.took in
    log_served g.F.Op.Spell.written g.F.Op.Spell.sound g.F.Family.floor_of held h c.in-Ok.target t.0 g.F.Op.Leaf.spelling c.in-Ok-sync_hashed.synced.0 c.in-Ok-sync_hashed.synced.1.part s c.in-Ok-sync_hashed.ensures.part _ (g.L.Link.service c.sync_hashed.new.link) own c.in-Ok-opened.log c.in-Ok-opened.ensures

pub returns-in-Err-opened-clause-serving : goal.returns-in-Err-opened-clause-serving
returns-in-Err-opened-clause-serving g c held h sent begins =
    let t = c.in-Ok.ensures.serving held (told_of g.F.Op.Spell.written g.F.Op.Spell.sound g.F.Family.floor_of held h) begins in
    let b = begins_after c.in-Ok.target g.F.Op.Spell.reading g.F.Op.Spell.written c.args.machine.now c.fetch_target.new.machine (g.L.Link.wire c.args.link.now) (g.L.Link.wire c.fetch_target.new.link) (g.L.Link.faults c.args.link.now) (g.L.Link.faults c.fetch_target.new.link) held (g.L.Link.service c.fetch_target.new.link) c.in-Ok.ensures.fetched t.1 in
    let own = c.in-Ok-sync_hashed.ensures.serving held [] sent (serves_of g.F.Op.Spell.written g.F.Op.Spell.sound g.F.Family.floor_of held h c.in-Ok.target t.0) b refl tt in
    let s = synced_is c.in-Ok-sync_hashed.synced c.in-Ok.target c.in-Ok-sync_hashed.ensures.took in
    unopened_served g.F.Op.Spell.written g.F.Op.Spell.sound g.F.Family.floor_of held h c.in-Ok.target t.0 g.F.Op.Leaf.spelling c.in-Ok-sync_hashed.synced.0 c.in-Ok-sync_hashed.synced.1.part s c.in-Ok-sync_hashed.ensures.part _ (g.L.Link.service c.sync_hashed.new.link) own c.in-Err-opened.fault c.in-Err-opened.ensures

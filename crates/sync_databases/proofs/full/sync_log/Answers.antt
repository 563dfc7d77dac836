use Rattle.std.proofs.Common.{[], inl, refl}
use Rattle.ledger_sync.proofs.Opening.{kept_then, steady_then, kept_opened, steady_opened}
use Rattle.ledger_sync.proofs.Serving.{log_served, serves_of, synced_is, unopened_served}
use Rattle.sync_databases.specs.Synced.{PartSynced}
use Rattle.sync_databases.proofs.Syncing.{at_target, unopened}
use Rattle.sync_databases.proofs.full.sync_log.Goals as goal

pub returns-in-Err-clause-synced : goal.returns-in-Err-clause-synced
returns-in-Err-clause-synced g c = inl c.in-Err.ensures.ended

pub returns-in-Ok-opened-clause-synced : goal.returns-in-Ok-opened-clause-synced
returns-in-Ok-opened-clause-synced g c =
    (record { synced = c.in-Ok.synced.0; part = c.in-Ok.synced.1.part; session = c.in-Ok.ensures.ended; took = c.in-Ok.ensures.took; whole = c.in-Ok.ensures.part }, c.in-Ok-opened.ensures)

pub returns-in-Ok-opened-clause-at : goal.returns-in-Ok-opened-clause-at
returns-in-Ok-opened-clause-at g c =
    let p : PartSynced g.F.Op.Leaf.spelling c.args.limits.now c.args.target.now g.F.Op.Spell.reading g.F.Op.Spell.written c.args.machine.now c.sync_hashed.new.machine (g.L.Link.wire c.args.link.now) (g.L.Link.wire c.sync_hashed.new.link) (g.L.Link.faults c.args.link.now) (g.L.Link.faults c.sync_hashed.new.link) =
    record { synced = c.in-Ok.synced.0; part = c.in-Ok.synced.1.part; session = c.in-Ok.ensures.ended; took = c.in-Ok.ensures.took; whole = c.in-Ok.ensures.part } in
    at_target g.F.Op.Leaf.spelling c.args.limits.now c.args.target.now g.F.Op.Spell.reading g.F.Op.Spell.written c.args.machine.now c.sync_hashed.new.machine (g.L.Link.wire c.args.link.now) (g.L.Link.wire c.sync_hashed.new.link) (g.L.Link.faults c.args.link.now) (g.L.Link.faults c.sync_hashed.new.link) p g.F.Family.floor_of c.in-Ok-opened.log c.in-Ok-opened.ensures

pub returns-in-Err-opened-clause-synced : goal.returns-in-Err-opened-clause-synced
returns-in-Err-opened-clause-synced g c =
    let p : PartSynced g.F.Op.Leaf.spelling c.args.limits.now c.args.target.now g.F.Op.Spell.reading g.F.Op.Spell.written c.args.machine.now c.sync_hashed.new.machine (g.L.Link.wire c.args.link.now) (g.L.Link.wire c.sync_hashed.new.link) (g.L.Link.faults c.args.link.now) (g.L.Link.faults c.sync_hashed.new.link) =
    record { synced = c.in-Ok.synced.0; part = c.in-Ok.synced.1.part; session = c.in-Ok.ensures.ended; took = c.in-Ok.ensures.took; whole = c.in-Ok.ensures.part } in
    unopened g.F.Op.Leaf.spelling c.args.limits.now c.args.target.now g.F.Op.Spell.reading g.F.Op.Spell.written c.args.machine.now c.sync_hashed.new.machine (g.L.Link.wire c.args.link.now) (g.L.Link.wire c.sync_hashed.new.link) (g.L.Link.faults c.args.link.now) (g.L.Link.faults c.sync_hashed.new.link) p g.F.Family.floor_of c.in-Err-opened.fault c.in-Err-opened.ensures

pub returns-in-Err-clause-exact : goal.returns-in-Err-clause-exact
returns-in-Err-clause-exact g c = λ t. kept_then (Unit {0}) (Unit {0}) c.in-Err.fault (g.L.Link.faults c.args.link.now) (g.L.Link.faults c.args.link.now) (g.L.Link.faults c.sync_hashed.new.link) refl (c.in-Err.ensures.exact t)

pub returns-in-Err-clause-steady : goal.returns-in-Err-clause-steady
returns-in-Err-clause-steady g c = λ t.
    let one = c.in-Err.ensures.steady t in
    (one.0, steady_then (Unit {0}) (Unit {0}) c.in-Err.fault (g.L.Link.faults c.args.link.now) (g.L.Link.faults c.args.link.now) (g.L.Link.faults c.sync_hashed.new.link) refl one.1)

pub returns-in-Err-opened-clause-exact : goal.returns-in-Err-opened-clause-exact
returns-in-Err-opened-clause-exact g c = λ t. kept_opened (Unit {0}) g.F.Family.floor_of c.in-Ok.synced.1.part c.in-Err-opened.fault (g.L.Link.faults c.args.link.now) (g.L.Link.faults c.sync_hashed.new.link) c.in-Err-opened.ensures (c.in-Ok.ensures.exact t)

pub returns-in-Err-opened-clause-steady : goal.returns-in-Err-opened-clause-steady
returns-in-Err-opened-clause-steady g c = λ t.
    let one = c.in-Ok.ensures.steady t in
    (one.0, steady_opened (Unit {0}) g.F.Family.floor_of c.in-Ok.synced.1.part c.in-Err-opened.fault (g.L.Link.faults c.args.link.now) (g.L.Link.faults c.sync_hashed.new.link) c.in-Err-opened.ensures one.1)

pub returns-in-Err-clause-serving : goal.returns-in-Err-clause-serving
returns-in-Err-clause-serving g c held h sent t begins = c.in-Err.ensures.serving held [] sent (serves_of g.F.Op.Spell.written g.F.Op.Spell.sound g.F.Family.floor_of held h c.args.target.now t) begins refl tt

pub returns-in-Ok-opened-clause-serving : goal.returns-in-Ok-opened-clause-serving
returns-in-Ok-opened-clause-serving g c held h sent t begins =
    let own = c.in-Ok.ensures.serving held [] sent (serves_of g.F.Op.Spell.written g.F.Op.Spell.sound g.F.Family.floor_of held h c.args.target.now t) begins refl tt in
    let s = synced_is c.in-Ok.synced c.args.target.now c.in-Ok.ensures.took in
    log_served g.F.Op.Spell.written g.F.Op.Spell.sound g.F.Family.floor_of held h c.args.target.now t g.F.Op.Leaf.spelling c.in-Ok.synced.0 c.in-Ok.synced.1.part s c.in-Ok.ensures.part _ (g.L.Link.service c.sync_hashed.new.link) own c.in-Ok-opened.log c.in-Ok-opened.ensures

pub returns-in-Err-opened-clause-serving : goal.returns-in-Err-opened-clause-serving
returns-in-Err-opened-clause-serving g c held h sent t begins =
    let own = c.in-Ok.ensures.serving held [] sent (serves_of g.F.Op.Spell.written g.F.Op.Spell.sound g.F.Family.floor_of held h c.args.target.now t) begins refl tt in
    let s = synced_is c.in-Ok.synced c.args.target.now c.in-Ok.ensures.took in
    unopened_served g.F.Op.Spell.written g.F.Op.Spell.sound g.F.Family.floor_of held h c.args.target.now t g.F.Op.Leaf.spelling c.in-Ok.synced.0 c.in-Ok.synced.1.part s c.in-Ok.ensures.part _ (g.L.Link.service c.sync_hashed.new.link) own c.in-Err-opened.fault c.in-Err-opened.ensures

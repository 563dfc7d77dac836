use Rattle.std.proofs.Common.{◌≡◌, ◌<◌, ℕ, refl, arith}
use Rattle.sync_client.specs.declared.hashed.HashedPart.{HashedPart}
use Rattle.sync_client.specs.declared.fault.SyncFault.TheVariants as faults
use Rattle.sync_client.specs.Ending.{Origin, origin_of}
use Rattle.sync_client.specs.Seen.{beside}
use Rattle.sync_client.proofs.ServingEnds.{began_served, logs_part, never_wrong}
use Rattle.sync_client.proofs.Closing.{began, finished_so, wrong_so, starved_so, part_so}
use Rattle.sync_client.proofs.Sameness.{session_laws}
use Rattle.sync_client.proofs.Taking.{took_so, stopped_took}
use Rattle.sync_client.proofs.session.sync_hashed.Goals as goal

-- a number is that one, and above 0
positive : (n m : ℕ) → n ≡ m → 0 < n → 0 < m
positive n m e h = omega (arith, e, h)

pub returns-in-Err-clause-ended : goal.returns-in-Err-clause-ended
returns-in-Err-clause-ended g c =
    let o : Origin g.row.Op.Denot = origin_of g.Op.Spell.reading g.Op.Spell.written g.Op.Leaf.spelling c.args.target.now (g.Ts.Targets.answers c.args.updates.now) c.args.limits.now c.args.machine.now (g.L.Link.wire c.args.link.now) (g.L.Link.faults c.args.link.now) in
    c.in-Err.ensures.collects o refl (began g.Op.Spell.reading g.Op.Spell.written g.Op.Leaf.spelling c.args.target.now (g.Ts.Targets.answers c.args.updates.now) c.args.limits.now c.args.machine.now c.new-collector.result (g.L.Link.wire c.args.link.now) (g.L.Link.faults c.args.link.now) c.requires c.new-collector.ensures.value)

pub returns-in-Err-clause-took : goal.returns-in-Err-clause-took
returns-in-Err-clause-took g c =
    let o : Origin g.row.Op.Denot = origin_of g.Op.Spell.reading g.Op.Spell.written g.Op.Leaf.spelling c.args.target.now (g.Ts.Targets.answers c.args.updates.now) c.args.limits.now c.args.machine.now (g.L.Link.wire c.args.link.now) (g.L.Link.faults c.args.link.now) in
    stopped_took o c.args.target.now c.args.limits.now c.args.machine.now.next (g.Ts.Targets.answers c.args.updates.now) refl (HashedPart g.row.Op.Denot) c.in-Err.fault c.collect.new.machine (g.Ts.Targets.answers c.collect.new.updates) (g.L.Link.wire c.collect.new.link) (g.L.Link.faults c.collect.new.link) (c.in-Err.ensures.collects o refl (began g.Op.Spell.reading g.Op.Spell.written g.Op.Leaf.spelling c.args.target.now (g.Ts.Targets.answers c.args.updates.now) c.args.limits.now c.args.machine.now c.new-collector.result (g.L.Link.wire c.args.link.now) (g.L.Link.faults c.args.link.now) c.requires c.new-collector.ensures.value))

pub returns-in-Err-clause-laws : goal.returns-in-Err-clause-laws
returns-in-Err-clause-laws g c = session_laws _ _

pub returns-in-Ok-finish_hashed-clause-ended : goal.returns-in-Ok-finish_hashed-clause-ended
returns-in-Ok-finish_hashed-clause-ended g c =
    let o : Origin g.row.Op.Denot = origin_of g.Op.Spell.reading g.Op.Spell.written g.Op.Leaf.spelling c.args.target.now (g.Ts.Targets.answers c.args.updates.now) c.args.limits.now c.args.machine.now (g.L.Link.wire c.args.link.now) (g.L.Link.faults c.args.link.now) in
    let w = c.in-Ok.ensures.collects o refl (began g.Op.Spell.reading g.Op.Spell.written g.Op.Leaf.spelling c.args.target.now (g.Ts.Targets.answers c.args.updates.now) c.args.limits.now c.args.machine.now c.new-collector.result (g.L.Link.wire c.args.link.now) (g.L.Link.faults c.args.link.now) c.requires c.new-collector.ensures.value) in
    finished_so g.Op.Spell.reading g.Op.Spell.written g.Op.Leaf.spelling c.args.target.now (g.Ts.Targets.answers c.args.updates.now) c.args.limits.now c.args.machine.now (g.L.Link.wire c.args.link.now) (g.L.Link.faults c.args.link.now) c.collect.new.machine c.collect.new.collector (g.Ts.Targets.answers c.collect.new.updates) (g.L.Link.wire c.collect.new.link) (g.L.Link.faults c.collect.new.link) w c.collect.ensures.tiles c.target-synced.result c.in-Ok-finish_hashed.hashed.part
    c.target-synced.ensures.value c.in-Ok.ensures.complete c.in-Ok.ensures.paired c.in-Ok-finish_hashed.ensures.finishes c.in-Ok-finish_hashed.ensures.one

pub returns-in-Ok-finish_hashed-clause-took : goal.returns-in-Ok-finish_hashed-clause-took
returns-in-Ok-finish_hashed-clause-took g c =
    let o : Origin g.row.Op.Denot = origin_of g.Op.Spell.reading g.Op.Spell.written g.Op.Leaf.spelling c.args.target.now (g.Ts.Targets.answers c.args.updates.now) c.args.limits.now c.args.machine.now (g.L.Link.wire c.args.link.now) (g.L.Link.faults c.args.link.now) in
    let w = c.in-Ok.ensures.collects o refl (began g.Op.Spell.reading g.Op.Spell.written g.Op.Leaf.spelling c.args.target.now (g.Ts.Targets.answers c.args.updates.now) c.args.limits.now c.args.machine.now c.new-collector.result (g.L.Link.wire c.args.link.now) (g.L.Link.faults c.args.link.now) c.requires c.new-collector.ensures.value) in
    let f = finished_so g.Op.Spell.reading g.Op.Spell.written g.Op.Leaf.spelling c.args.target.now (g.Ts.Targets.answers c.args.updates.now) c.args.limits.now c.args.machine.now (g.L.Link.wire c.args.link.now) (g.L.Link.faults c.args.link.now) c.collect.new.machine c.collect.new.collector (g.Ts.Targets.answers c.collect.new.updates) (g.L.Link.wire c.collect.new.link) (g.L.Link.faults c.collect.new.link) w c.collect.ensures.tiles c.target-synced.result c.in-Ok-finish_hashed.hashed.part
    c.target-synced.ensures.value c.in-Ok.ensures.complete c.in-Ok.ensures.paired c.in-Ok-finish_hashed.ensures.finishes c.in-Ok-finish_hashed.ensures.one in
    took_so o c.args.target.now c.args.limits.now c.args.machine.now.next (g.Ts.Targets.answers c.args.updates.now) refl c.target-synced.result c.in-Ok-finish_hashed.hashed.part c.in-Ok-finish_hashed.hashed c.collect.new.machine (g.Ts.Targets.answers c.collect.new.updates) (g.L.Link.wire c.collect.new.link) f

pub returns-in-Ok-finish_hashed-clause-part : goal.returns-in-Ok-finish_hashed-clause-part
returns-in-Ok-finish_hashed-clause-part g c = part_so g.Op.Leaf.spelling c.target-synced.result c.collect.new.collector c.in-Ok-finish_hashed.hashed.part c.target-synced.ensures.value c.in-Ok-finish_hashed.ensures.finishes c.in-Ok-finish_hashed.ensures.whole

pub returns-in-Ok-finish_hashed-clause-laws : goal.returns-in-Ok-finish_hashed-clause-laws
returns-in-Ok-finish_hashed-clause-laws g c = session_laws _ _

pub returns-in-Err-WrongRoot-clause-ended : goal.returns-in-Err-WrongRoot-clause-ended
returns-in-Err-WrongRoot-clause-ended g c =
    let o : Origin g.row.Op.Denot = origin_of g.Op.Spell.reading g.Op.Spell.written g.Op.Leaf.spelling c.args.target.now (g.Ts.Targets.answers c.args.updates.now) c.args.limits.now c.args.machine.now (g.L.Link.wire c.args.link.now) (g.L.Link.faults c.args.link.now) in
    let w = c.in-Ok.ensures.collects o refl (began g.Op.Spell.reading g.Op.Spell.written g.Op.Leaf.spelling c.args.target.now (g.Ts.Targets.answers c.args.updates.now) c.args.limits.now c.args.machine.now c.new-collector.result (g.L.Link.wire c.args.link.now) (g.L.Link.faults c.args.link.now) c.requires c.new-collector.ensures.value) in
    let h = rw c.in-Err-WrongRoot.field-0-is at c.in-Err-WrongRoot.ensures.finishes in
    rw c.in-Err-WrongRoot.field-0-is (wrong_so g.Op.Spell.reading g.Op.Spell.written g.Op.Leaf.spelling c.args.target.now (g.Ts.Targets.answers c.args.updates.now) c.args.limits.now c.args.machine.now (g.L.Link.wire c.args.link.now) (g.L.Link.faults c.args.link.now) c.collect.new.machine c.collect.new.collector (g.Ts.Targets.answers c.collect.new.updates) (g.L.Link.wire c.collect.new.link) (g.L.Link.faults c.collect.new.link) w c.collect.ensures.tiles c.in-Err-WrongRoot.found h)

pub returns-in-Err-WrongRoot-clause-took : goal.returns-in-Err-WrongRoot-clause-took
returns-in-Err-WrongRoot-clause-took g c =
    let o : Origin g.row.Op.Denot = origin_of g.Op.Spell.reading g.Op.Spell.written g.Op.Leaf.spelling c.args.target.now (g.Ts.Targets.answers c.args.updates.now) c.args.limits.now c.args.machine.now (g.L.Link.wire c.args.link.now) (g.L.Link.faults c.args.link.now) in
    let w = c.in-Ok.ensures.collects o refl (began g.Op.Spell.reading g.Op.Spell.written g.Op.Leaf.spelling c.args.target.now (g.Ts.Targets.answers c.args.updates.now) c.args.limits.now c.args.machine.now c.new-collector.result (g.L.Link.wire c.args.link.now) (g.L.Link.faults c.args.link.now) c.requires c.new-collector.ensures.value) in
    let h = rw c.in-Err-WrongRoot.field-0-is at c.in-Err-WrongRoot.ensures.finishes in
    stopped_took o c.args.target.now c.args.limits.now c.args.machine.now.next (g.Ts.Targets.answers c.args.updates.now) refl (HashedPart g.row.Op.Denot) (faults.WrongRoot c.in-Err-WrongRoot.found) c.collect.new.machine (g.Ts.Targets.answers c.collect.new.updates) (g.L.Link.wire c.collect.new.link) (g.L.Link.faults c.collect.new.link)
    (wrong_so g.Op.Spell.reading g.Op.Spell.written g.Op.Leaf.spelling c.args.target.now (g.Ts.Targets.answers c.args.updates.now) c.args.limits.now c.args.machine.now (g.L.Link.wire c.args.link.now) (g.L.Link.faults c.args.link.now) c.collect.new.machine c.collect.new.collector (g.Ts.Targets.answers c.collect.new.updates) (g.L.Link.wire c.collect.new.link) (g.L.Link.faults c.collect.new.link) w c.collect.ensures.tiles c.in-Err-WrongRoot.found h)

pub returns-in-Err-WrongRoot-clause-laws : goal.returns-in-Err-WrongRoot-clause-laws
returns-in-Err-WrongRoot-clause-laws g c = session_laws _ _

pub returns-in-Err-OutOfMemory-clause-ended : goal.returns-in-Err-OutOfMemory-clause-ended
returns-in-Err-OutOfMemory-clause-ended g c =
    let o : Origin g.row.Op.Denot = origin_of g.Op.Spell.reading g.Op.Spell.written g.Op.Leaf.spelling c.args.target.now (g.Ts.Targets.answers c.args.updates.now) c.args.limits.now c.args.machine.now (g.L.Link.wire c.args.link.now) (g.L.Link.faults c.args.link.now) in
    let w = c.in-Ok.ensures.collects o refl (began g.Op.Spell.reading g.Op.Spell.written g.Op.Leaf.spelling c.args.target.now (g.Ts.Targets.answers c.args.updates.now) c.args.limits.now c.args.machine.now c.new-collector.result (g.L.Link.wire c.args.link.now) (g.L.Link.faults c.args.link.now) c.requires c.new-collector.ensures.value) in
    starved_so g.Op.Spell.reading g.Op.Spell.written g.Op.Leaf.spelling c.args.target.now (g.Ts.Targets.answers c.args.updates.now) c.args.limits.now c.args.machine.now (g.L.Link.wire c.args.link.now) (g.L.Link.faults c.args.link.now) c.collect.new.machine c.collect.new.collector (g.Ts.Targets.answers c.collect.new.updates) (g.L.Link.wire c.collect.new.link) (g.L.Link.faults c.collect.new.link) w c.collect.ensures.tiles

pub returns-in-Err-OutOfMemory-clause-took : goal.returns-in-Err-OutOfMemory-clause-took
returns-in-Err-OutOfMemory-clause-took g c =
    let o : Origin g.row.Op.Denot = origin_of g.Op.Spell.reading g.Op.Spell.written g.Op.Leaf.spelling c.args.target.now (g.Ts.Targets.answers c.args.updates.now) c.args.limits.now c.args.machine.now (g.L.Link.wire c.args.link.now) (g.L.Link.faults c.args.link.now) in
    let w = c.in-Ok.ensures.collects o refl (began g.Op.Spell.reading g.Op.Spell.written g.Op.Leaf.spelling c.args.target.now (g.Ts.Targets.answers c.args.updates.now) c.args.limits.now c.args.machine.now c.new-collector.result (g.L.Link.wire c.args.link.now) (g.L.Link.faults c.args.link.now) c.requires c.new-collector.ensures.value) in
    stopped_took o c.args.target.now c.args.limits.now c.args.machine.now.next (g.Ts.Targets.answers c.args.updates.now) refl (HashedPart g.row.Op.Denot) faults.OutOfMemory c.collect.new.machine (g.Ts.Targets.answers c.collect.new.updates) (g.L.Link.wire c.collect.new.link) (g.L.Link.faults c.collect.new.link)
    (starved_so g.Op.Spell.reading g.Op.Spell.written g.Op.Leaf.spelling c.args.target.now (g.Ts.Targets.answers c.args.updates.now) c.args.limits.now c.args.machine.now (g.L.Link.wire c.args.link.now) (g.L.Link.faults c.args.link.now) c.collect.new.machine c.collect.new.collector (g.Ts.Targets.answers c.collect.new.updates) (g.L.Link.wire c.collect.new.link) (g.L.Link.faults c.collect.new.link) w c.collect.ensures.tiles)

pub returns-in-Err-OutOfMemory-clause-laws : goal.returns-in-Err-OutOfMemory-clause-laws
returns-in-Err-OutOfMemory-clause-laws g c = session_laws _ _

pub returns-in-Err-clause-serving : goal.returns-in-Err-clause-serving
returns-in-Err-clause-serving g c held took sent h b all later =
    c.in-Err.ensures.serving held c.args.target.now (g.Ts.Targets.answers c.collect.new.updates) sent h (omega arith) (began_served g.Op.Spell.written held h.log c.args.target.now (g.Ts.Targets.answers c.args.updates.now) took (g.Ts.Targets.answers c.collect.new.updates) c.args.limits.now c.args.machine.now c.new-collector.result (g.L.Link.service c.args.link.now) c.requires c.new-collector.ensures.value (positive _ _ c.batch-batch.ensures.same c.batch-batch.ensures.some) (positive _ _ c.outstanding-outstanding.ensures.same c.outstanding-outstanding.ensures.some) (record { front = h.front; size = h.size; root = h.root }) all later b)

pub returns-in-Ok-finish_hashed-clause-serving : goal.returns-in-Ok-finish_hashed-clause-serving
returns-in-Ok-finish_hashed-clause-serving g c held took sent h b all later =
    let w = c.in-Ok.ensures.serving held c.args.target.now (g.Ts.Targets.answers c.collect.new.updates) sent h (omega arith) (began_served g.Op.Spell.written held h.log c.args.target.now (g.Ts.Targets.answers c.args.updates.now) took (g.Ts.Targets.answers c.collect.new.updates) c.args.limits.now c.args.machine.now c.new-collector.result (g.L.Link.service c.args.link.now) c.requires c.new-collector.ensures.value (positive _ _ c.batch-batch.ensures.same c.batch-batch.ensures.some) (positive _ _ c.outstanding-outstanding.ensures.same c.outstanding-outstanding.ensures.some) (record { front = h.front; size = h.size; root = h.root }) all later b) in
    logs_part g.Op.Spell.written g.Op.Leaf.spelling g.Op.Spell.sound sent.same held c.args.target.now h (g.Ts.Targets.answers c.collect.new.updates) c.collect.new.machine c.collect.new.collector (beside w.0 (g.Ts.Targets.answers c.collect.new.updates)) (g.L.Link.service c.collect.new.link)
    c.collect.ensures.tiles c.in-Ok.ensures.complete c.in-Ok.ensures.paired w.1 c.target-synced.result c.target-synced.ensures.value c.in-Ok-finish_hashed.hashed.part c.in-Ok-finish_hashed.ensures.finishes c.in-Ok-finish_hashed.ensures.one

pub returns-in-Err-WrongRoot-clause-serving : goal.returns-in-Err-WrongRoot-clause-serving
returns-in-Err-WrongRoot-clause-serving g c held took sent h b all later =
    let w = c.in-Ok.ensures.serving held c.args.target.now (g.Ts.Targets.answers c.collect.new.updates) sent h (omega arith) (began_served g.Op.Spell.written held h.log c.args.target.now (g.Ts.Targets.answers c.args.updates.now) took (g.Ts.Targets.answers c.collect.new.updates) c.args.limits.now c.args.machine.now c.new-collector.result (g.L.Link.service c.args.link.now) c.requires c.new-collector.ensures.value (positive _ _ c.batch-batch.ensures.same c.batch-batch.ensures.some) (positive _ _ c.outstanding-outstanding.ensures.same c.outstanding-outstanding.ensures.some) (record { front = h.front; size = h.size; root = h.root }) all later b) in
    let f = rw c.in-Err-WrongRoot.field-0-is at c.in-Err-WrongRoot.ensures.finishes in
    absurd (never_wrong g.Op.Spell.written g.Op.Leaf.spelling g.Op.Spell.sound sent.same held c.args.target.now h (g.Ts.Targets.answers c.collect.new.updates) c.collect.new.machine c.collect.new.collector (beside w.0 (g.Ts.Targets.answers c.collect.new.updates)) (g.L.Link.service c.collect.new.link)
    c.collect.ensures.tiles c.in-Ok.ensures.complete c.in-Ok.ensures.paired w.1 c.in-Err-WrongRoot.found f)

use Rattle.std.proofs.Common.{Ok, Err, ◌∙◌, ap, subst, refl}
use Rattle.sha2.specs.Sha256.{sha256}
use Rattle.ledger_sync.specs.Brought.{idle, link_over}
use Rattle.ledger_sync.specs.Compacts.{CompactLogFetched}
use Rattle.sync_net.specs.View.{MachineView}
use Rattle.ledger_sync.proofs.Bringing.{compact_so, compact_can}
use Rattle.ledger_sync.proofs.synced.compact.bring_compact.Goals as goal

pub returns-in-Ok-clause-compact : goal.returns-in-Ok-clause-compact
returns-in-Ok-clause-compact g c =
    let e = c.new-machine.ensures ∙ ap idle c.new.ensures in
    let over = link_over (g.L.Link.service c.args.link.now) (g.L.Link.wire c.args.link.now) (g.L.Link.wire c.fetch_compact_log.new.link) (g.L.Link.faults c.args.link.now) (g.L.Link.faults c.fetch_compact_log.new.link) in
    let h = subst (λ (x : MachineView). CompactLogFetched sha256 g.F.Op.Leaf.spelling g.F.Family.floor_of (Ok c.in-Ok.log) g.F.Op.Spell.reading g.F.Op.Spell.written x c.fetch_compact_log.new.machine over.wire over.wire_now over.count over.count_now) e c.in-Ok.ensures.fetched in
    (refl, compact_so g.F.Op.Leaf.spelling g.F.Family.floor_of g.F.Op.Spell.reading g.F.Op.Spell.written over c.in-Ok.log c.fetch_compact_log.new.machine h _ refl c.size.ensures.size c.root.ensures c.floor.ensures.floor)

pub returns-clause-fails : goal.returns-clause-fails
returns-clause-fails g c =
    let e = c.new-machine.ensures ∙ ap idle c.new.ensures in
    let over = link_over (g.L.Link.service c.args.link.now) (g.L.Link.wire c.args.link.now) (g.L.Link.wire c.fetch_compact_log.new.link) (g.L.Link.faults c.args.link.now) (g.L.Link.faults c.fetch_compact_log.new.link) in
    record {
      machine = c.fetch_compact_log.new.machine;
      fetched = subst (λ (x : MachineView). CompactLogFetched sha256 g.F.Op.Leaf.spelling g.F.Family.floor_of (Err c.in-Err.fault) g.F.Op.Spell.reading g.F.Op.Spell.written x c.fetch_compact_log.new.machine over.wire over.wire_now over.count over.count_now) e c.in-Err.ensures.fetched;
    }

pub returns-clause-few : goal.returns-clause-few
returns-clause-few g c =
    let e = c.new-machine.ensures ∙ ap idle c.new.ensures in
    let over = link_over (g.L.Link.service c.args.link.now) (g.L.Link.wire c.args.link.now) (g.L.Link.wire c.fetch_compact_log.new.link) (g.L.Link.faults c.args.link.now) (g.L.Link.faults c.fetch_compact_log.new.link) in
    let h = subst (λ (x : MachineView). CompactLogFetched sha256 g.F.Op.Leaf.spelling g.F.Family.floor_of (Err c.in-Err.fault) g.F.Op.Spell.reading g.F.Op.Spell.written x c.fetch_compact_log.new.machine over.wire over.wire_now over.count over.count_now) e c.in-Err.ensures.fetched in
    compact_can g.F.Op.Leaf.spelling g.F.Family.floor_of g.F.Op.Spell.reading g.F.Op.Spell.written over c.fetch_compact_log.new.machine c.in-Err.fault h

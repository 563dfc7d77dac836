use Rattle.std.proofs.Common.{Some, Ok, Err, ◌∙◌, ◌≤◌, ap, subst, refl}
use Rattle.ledger_sync.specs.Brought.{idle, link_over}
use Rattle.ledger_sync.specs.Logs.{LogFetched}
use Rattle.sync_net.specs.View.{MachineView}
use Rattle.ledger_sync.proofs.Bringing.{begins_so, full_so, full_can, served_may}
use Rattle.ledger_sync.proofs.synced.full.bring_full.Goals as goal

pub returns-in-Ok-clause-full : goal.returns-in-Ok-clause-full
returns-in-Ok-clause-full g c =
    let e = c.new-machine.ensures ∙ ap idle c.new.ensures in
    let over = link_over (g.L.Link.service c.args.link.now) (g.L.Link.wire c.args.link.now) (g.L.Link.wire c.fetch_log.new.link) (g.L.Link.faults c.args.link.now) (g.L.Link.faults c.fetch_log.new.link) in
    let h = subst (λ (x : MachineView). LogFetched g.F.Op.Leaf.spelling g.F.Family.floor_of c.args.limits.now (Ok c.in-Ok.log) g.F.Op.Spell.reading g.F.Op.Spell.written x c.fetch_log.new.machine over.wire over.wire_now over.count over.count_now) e c.in-Ok.ensures.fetched in
    (refl, full_so g.F.Op.Leaf.spelling g.F.Family.floor_of g.F.Op.Spell.reading g.F.Op.Spell.written over c.args.limits.now c.in-Ok.log c.fetch_log.new.machine h _ (ap Some c.front.ensures.front) c.size.ensures.size c.root.ensures c.floor.ensures.floor)

pub returns-clause-fails : goal.returns-clause-fails
returns-clause-fails g c =
    let e = c.new-machine.ensures ∙ ap idle c.new.ensures in
    let over = link_over (g.L.Link.service c.args.link.now) (g.L.Link.wire c.args.link.now) (g.L.Link.wire c.fetch_log.new.link) (g.L.Link.faults c.args.link.now) (g.L.Link.faults c.fetch_log.new.link) in
    record {
      machine = c.fetch_log.new.machine;
      fetched = subst (λ (x : MachineView). LogFetched g.F.Op.Leaf.spelling g.F.Family.floor_of c.args.limits.now (Err c.in-Err.fault) g.F.Op.Spell.reading g.F.Op.Spell.written x c.fetch_log.new.machine over.wire over.wire_now over.count over.count_now) e c.in-Err.ensures.fetched;
    }

pub returns-clause-few : goal.returns-clause-few
returns-clause-few g c =
    let e = c.new-machine.ensures ∙ ap idle c.new.ensures in
    let over = link_over (g.L.Link.service c.args.link.now) (g.L.Link.wire c.args.link.now) (g.L.Link.wire c.fetch_log.new.link) (g.L.Link.faults c.args.link.now) (g.L.Link.faults c.fetch_log.new.link) in
    let h = subst (λ (x : MachineView). LogFetched g.F.Op.Leaf.spelling g.F.Family.floor_of c.args.limits.now (Err c.in-Err.fault) g.F.Op.Spell.reading g.F.Op.Spell.written x c.fetch_log.new.machine over.wire over.wire_now over.count over.count_now) e c.in-Err.ensures.fetched in
    full_can g.F.Op.Leaf.spelling g.F.Family.floor_of g.F.Op.Spell.reading g.F.Op.Spell.written over c.args.limits.now c.fetch_log.new.machine (subst (λ n. n ≤ 64) c.outstanding-few.ensures.same c.outstanding-few.ensures.most) c.in-Err.fault h

pub returns-clause-serving : goal.returns-clause-serving
returns-clause-serving g c held h sent told =
    let e = c.new-machine.ensures ∙ ap idle c.new.ensures in
    let b = begins_so held c.new-machine.result _ e told in
    served_may g.F.Op.Spell.written held h.log c.fetch_log.new.machine (g.L.Link.service c.fetch_log.new.link) c.in-Err.fault (returns-clause-few g c) (c.in-Err.ensures.serving held h sent b)

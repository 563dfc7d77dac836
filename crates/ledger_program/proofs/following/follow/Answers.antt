use Rattle.std.proofs.Common.{◌≤◌, Err, ap, sym, subst, ◌∙◌}
use Rattle.ledger_program.specs.Follow.{idle, beginning, FollowFails, FollowsLog}
use Rattle.ledger_settling.specs.Blocks.{meaning}
use Rattle.ledger_settling.specs.Reports.{ReportOf}
use Rattle.sync_client.proofs.SentOperations.{any_sent}
use Rattle.ledger_program.proofs.Sessions.{may_stop_from, stopped_from, no_report_from, follows_from, took_stopped, took_unreported, took_reported, synced_alike, begins_so, session_served, report_served, reported_served}
use Rattle.ledger_program.proofs.Validity.{only_memory, range_written}
use Rattle.ledger_program.proofs.following.follow.Goals as goal

pub sync_fault-requires : goal.sync_fault-requires
sync_fault-requires g c =
    let e = c.new-machine.ensures ∙ ap idle c.new.ensures in
    may_stop_from c.args.target.now (g.Ts.Targets.answers c.args.updates.now) c.args.limits.now (g.L.Link.wire c.args.link.now) (g.L.Link.faults c.args.link.now) c.new-machine.result _ _ _ e _ c.in-Err.fault
    (subst (λ n. n ≤ 64) c.outstanding-few.ensures.same c.outstanding-few.ensures.most) c.in-Err.ensures.ended

pub returns-in-Err-clause-fails : goal.returns-in-Err-clause-fails
returns-in-Err-clause-fails g c =
    let e = c.new-machine.ensures ∙ ap idle c.new.ensures in
    let m = meaning g.T.Transfer.changes_of g.A.PartialEq.eq g.A.Account.rules g.A.AccountValue.values in
    let answers = g.Ts.Targets.answers c.args.updates.now in
    let now = g.Ts.Targets.answers c.sync_hashed.new.updates in
    let o = beginning c.args.target.now answers c.args.limits.now (g.L.Link.wire c.args.link.now) (g.L.Link.faults c.args.link.now) in
    subst (FollowFails m o now (g.L.Link.wire c.sync_hashed.new.link) (g.L.Link.faults c.sync_hashed.new.link) c.args.blocks.now) (sym c.sync_fault.ensures)
    (stopped_from c.args.target.now answers c.args.limits.now (g.L.Link.wire c.args.link.now) (g.L.Link.faults c.args.link.now) c.new-machine.result _ now (g.L.Link.wire c.sync_hashed.new.link) e m c.args.blocks.now
    (g.L.Link.faults c.sync_hashed.new.link) c.in-Err.fault (subst (λ n. n ≤ 64) c.outstanding-few.ensures.same c.outstanding-few.ensures.most) c.in-Err.ensures.ended)

pub returns-clause-fails : goal.returns-clause-fails
returns-clause-fails g c =
    let e = c.new-machine.ensures ∙ ap idle c.new.ensures in
    let m = meaning g.T.Transfer.changes_of g.A.PartialEq.eq g.A.Account.rules g.A.AccountValue.values in
    let answers = g.Ts.Targets.answers c.args.updates.now in
    let now = g.Ts.Targets.answers c.sync_hashed.new.updates in
    let o = beginning c.args.target.now answers c.args.limits.now (g.L.Link.wire c.args.link.now) (g.L.Link.faults c.args.link.now) in
    subst (FollowFails m o now (g.L.Link.wire c.sync_hashed.new.link) (g.L.Link.faults c.sync_hashed.new.link) c.args.blocks.now) (sym c.from.ensures)
    (no_report_from c.args.target.now answers c.args.limits.now (g.L.Link.wire c.args.link.now) (g.L.Link.faults c.args.link.now) c.new-machine.result _ now (g.L.Link.wire c.sync_hashed.new.link) e m c.args.blocks.now
    (g.L.Link.faults c.sync_hashed.new.link) c.in-Ok.fetched.0 c.in-Ok.fetched.1.part c.in-Err-report_of.fault c.in-Ok.ensures.ended c.in-Err-report_of.ensures.fails)

pub returns-in-Ok-report_of-clause-report : goal.returns-in-Ok-report_of-clause-report
returns-in-Ok-report_of-clause-report g c =
    let m = meaning g.T.Transfer.changes_of g.A.PartialEq.eq g.A.Account.rules g.A.AccountValue.values in
    let of = c.in-Ok-report_of.ensures.report in
    subst (λ t. ReportOf m t c.args.blocks.now c.in-Ok-report_of.report) (sym of.target_is) of

pub returns-in-Ok-report_of-clause-follows : goal.returns-in-Ok-report_of-clause-follows
returns-in-Ok-report_of-clause-follows g c =
    let e = c.new-machine.ensures ∙ ap idle c.new.ensures in
    let m = meaning g.T.Transfer.changes_of g.A.PartialEq.eq g.A.Account.rules g.A.AccountValue.values in
    follows_from c.args.target.now (g.Ts.Targets.answers c.args.updates.now) c.args.limits.now (g.L.Link.wire c.args.link.now) (g.L.Link.faults c.args.link.now) c.new-machine.result _ _ _ e m c.args.blocks.now
    c.in-Ok.fetched.0 c.in-Ok.fetched.1.part c.in-Ok-report_of.report c.in-Ok.ensures.ended c.in-Ok-report_of.ensures.pinned c.in-Ok-report_of.ensures.kept c.in-Ok-report_of.ensures.report

pub returns-in-Err-clause-took : goal.returns-in-Err-clause-took
returns-in-Err-clause-took g c =
    let before = g.Ts.Targets.answers c.args.updates.now in
    let now = g.Ts.Targets.answers c.sync_hashed.new.updates in
    took_stopped (Unit {0}) c.args.target.now before now (Unit {0}) c.in-Err.fault c.sync_fault.result c.sync_fault.ensures c.in-Err.ensures.took

pub returns-clause-took : goal.returns-clause-took
returns-clause-took g c =
    let before = g.Ts.Targets.answers c.args.updates.now in
    let now = g.Ts.Targets.answers c.sync_hashed.new.updates in
    took_unreported (Unit {0}) c.args.target.now before now _ c.in-Ok.fetched c.in-Err-report_of.fault c.from.result c.from.ensures c.in-Ok.ensures.took

pub returns-in-Ok-report_of-clause-took : goal.returns-in-Ok-report_of-clause-took
returns-in-Ok-report_of-clause-took g c =
    took_reported _ c.args.target.now (g.Ts.Targets.answers c.args.updates.now) (g.Ts.Targets.answers c.sync_hashed.new.updates) _ c.in-Ok.fetched c.in-Ok-report_of.report c.in-Ok-report_of.ensures.report.target_is c.in-Ok.ensures.took

pub returns-in-Err-clause-serving : goal.returns-in-Err-clause-serving
returns-in-Err-clause-serving g c held synced h told foretold =
    let e = c.new-machine.ensures ∙ ap idle c.new.ensures in
    let m = meaning g.T.Transfer.changes_of g.A.PartialEq.eq g.A.Account.rules g.A.AccountValue.values in
    let log = h.log in
    subst (λ f. FollowsLog m log synced c.args.blocks.now (Err f)) (sym c.sync_fault.ensures)
    (session_served m log synced c.args.blocks.now c.in-Err.fault (c.in-Err.ensures.serving held foretold.took any_sent h (begins_so held c.new-machine.result _ e told) foretold.all foretold.later))

pub returns-clause-serving : goal.returns-clause-serving
returns-clause-serving g c held synced h told foretold =
    let e = c.new-machine.ensures ∙ ap idle c.new.ensures in
    let m = meaning g.T.Transfer.changes_of g.A.PartialEq.eq g.A.Account.rules g.A.AccountValue.values in
    let log = h.log in
    let own = c.in-Ok.ensures.serving held foretold.took any_sent h (begins_so held c.new-machine.result _ e told) foretold.all foretold.later in
    let alike = synced_alike log c.args.target.now (g.Ts.Targets.answers c.args.updates.now) (g.Ts.Targets.answers c.sync_hashed.new.updates) synced c.in-Ok.fetched foretold c.in-Ok.ensures.took in
    subst (λ f. FollowsLog m log synced c.args.blocks.now (Err f)) (sym c.from.ensures)
    (report_served m log synced c.args.blocks.now c.in-Ok.fetched.0 c.in-Ok.fetched.1.part.ops c.in-Err-report_of.fault alike own.ops c.in-Err-report_of.ensures.fails)

pub returns-in-Ok-report_of-clause-serving : goal.returns-in-Ok-report_of-clause-serving
returns-in-Ok-report_of-clause-serving g c held synced h told foretold =
    let e = c.new-machine.ensures ∙ ap idle c.new.ensures in
    let m = meaning g.T.Transfer.changes_of g.A.PartialEq.eq g.A.Account.rules g.A.AccountValue.values in
    let log = h.log in
    let own = c.in-Ok.ensures.serving held foretold.took any_sent h (begins_so held c.new-machine.result _ e told) foretold.all foretold.later in
    let alike = synced_alike log c.args.target.now (g.Ts.Targets.answers c.args.updates.now) (g.Ts.Targets.answers c.sync_hashed.new.updates) synced c.in-Ok.fetched foretold c.in-Ok.ensures.took in
    reported_served m log synced c.args.blocks.now held c.in-Ok.fetched.0 c.in-Ok.fetched.1.part _ _ c.in-Ok-report_of.report alike own c.in-Ok-report_of.ensures.report.target_is c.in-Ok-report_of.ensures.kept c.in-Ok-report_of.ensures.pinned

pub returns-in-Err-clause-complete : goal.returns-in-Err-clause-complete
returns-in-Err-clause-complete g c held synced h told foretold valid still =
    let value = g.met.A.AccountValue g.world.𝓛 g.world.𝓜 g.world.𝓡 ((λ s x. x), (λ x. x), (λ x. x), λ x. x) in
    let m = meaning g.T.Transfer.changes_of g.A.PartialEq.eq g.A.Account.rules g.A.AccountValue.values in
    let o = beginning c.args.target.now (g.Ts.Targets.answers c.args.updates.now) c.args.limits.now (g.L.Link.wire c.args.link.now) (g.L.Link.faults c.args.link.now) in
    only_memory m value.value_laws h.log synced c.args.blocks.now o (g.Ts.Targets.answers c.sync_hashed.new.updates) (g.L.Link.wire c.sync_hashed.new.link) (g.L.Link.faults c.sync_hashed.new.link) c.sync_fault.result
    (range_written m h.log synced h.ops) valid still (returns-in-Err-clause-serving g c held synced h told foretold) (returns-in-Err-clause-fails g c)

pub returns-clause-complete : goal.returns-clause-complete
returns-clause-complete g c held synced h told foretold valid still =
    let value = g.met.A.AccountValue g.world.𝓛 g.world.𝓜 g.world.𝓡 ((λ s x. x), (λ x. x), (λ x. x), λ x. x) in
    let m = meaning g.T.Transfer.changes_of g.A.PartialEq.eq g.A.Account.rules g.A.AccountValue.values in
    let o = beginning c.args.target.now (g.Ts.Targets.answers c.args.updates.now) c.args.limits.now (g.L.Link.wire c.args.link.now) (g.L.Link.faults c.args.link.now) in
    only_memory m value.value_laws h.log synced c.args.blocks.now o (g.Ts.Targets.answers c.sync_hashed.new.updates) (g.L.Link.wire c.sync_hashed.new.link) (g.L.Link.faults c.sync_hashed.new.link) c.from.result
    (range_written m h.log synced h.ops) valid still (returns-clause-serving g c held synced h told foretold) (returns-clause-fails g c)

pub returns-in-Ok-report_of-clause-rests : goal.returns-in-Ok-report_of-clause-rests
returns-in-Ok-report_of-clause-rests g c held synced h told foretold =
    let e = c.new-machine.ensures ∙ ap idle c.new.ensures in
    let own = c.in-Ok.ensures.serving held foretold.took any_sent h (begins_so held c.new-machine.result _ e told) foretold.all foretold.later in
    own.told

use Rattle.std.proofs.Common.{◌≤◌, Err, ap, sym, subst, ◌∙◌}
use Rattle.ledger_program.specs.Follow.{idle, FollowsLog, IsCalm}
use Rattle.ledger_settling.specs.Blocks.{meaning}
use Rattle.ledger_settling.specs.Reports.{ReportOf}
use Rattle.ledger_settling.specs.declared.report.Report.{Report}
use Rattle.sync_client.proofs.SentOperations.{any_sent}
use Rattle.ledger_program.proofs.Sessions.{may_stop_from, synced_alike, begins_so, session_served, report_served, reported_served, calm_session, calm_report}
use Rattle.ledger_program.proofs.once.follow_once.Goals as goal

pub sync_fault-requires : goal.sync_fault-requires
sync_fault-requires g c =
    let e = c.new-machine.ensures ∙ ap idle c.new.ensures in
    may_stop_from c.args.target.now (g.Ts.Targets.answers c.args.updates.now) c.args.limits.now (g.L.Link.wire c.args.link) (g.L.Link.faults c.args.link) c.new-machine.result _ _ _ e _ c.in-Err.fault
    (subst (λ n. n ≤ 64) c.outstanding-few.ensures.same c.outstanding-few.ensures.most) c.in-Err.ensures.ended

pub returns-in-Ok-report_of-clause-report : goal.returns-in-Ok-report_of-clause-report
returns-in-Ok-report_of-clause-report g c =
    let m = meaning g.T.Transfer.changes_of g.A.PartialEq.eq g.A.Account.rules g.A.AccountValue.values in
    let of = c.in-Ok-report_of.ensures.report in
    subst (λ t. ReportOf m t c.args.blocks.now c.in-Ok-report_of.report) (sym of.target_is) of

pub returns-in-Err-clause-serving : goal.returns-in-Err-clause-serving
returns-in-Err-clause-serving g c held synced h told foretold =
    let e = c.new-machine.ensures ∙ ap idle c.new.ensures in
    let m = meaning g.T.Transfer.changes_of g.A.PartialEq.eq g.A.Account.rules g.A.AccountValue.values in
    let log = h.log in
    subst (λ f. FollowsLog m log synced c.args.blocks.now (Err f)) (sym c.sync_fault.ensures)
    (session_served m log synced c.args.blocks.now c.in-Err.fault (c.in-Err.ensures.serving held foretold.took any_sent h (begins_so held c.new-machine.result _ e told) foretold.all foretold.later))

pub returns-clause-serving : goal.returns-clause-serving
returns-clause-serving g c held synced h told foretold =
    let e = c.new-machine.ensures ∙ ap idle c.new.ensures in
    let m = meaning g.T.Transfer.changes_of g.A.PartialEq.eq g.A.Account.rules g.A.AccountValue.values in
    let log = h.log in
    let own = c.in-Ok.ensures.serving held foretold.took any_sent h (begins_so held c.new-machine.result _ e told) foretold.all foretold.later in
    let alike = synced_alike log c.args.target.now (g.Ts.Targets.answers c.args.updates.now) (g.Ts.Targets.answers c.sync_hashed.new.updates) synced c.in-Ok.fetched foretold c.in-Ok.ensures.took in
    subst (λ f. FollowsLog m log synced c.args.blocks.now (Err f)) (sym c.from.ensures)
    (report_served m log synced c.args.blocks.now c.in-Ok.fetched.0 c.in-Ok.fetched.1.part.ops c.in-Err-report_of.fault alike own.ops c.in-Err-report_of.ensures.fails)

pub returns-in-Ok-report_of-clause-serving : goal.returns-in-Ok-report_of-clause-serving
returns-in-Ok-report_of-clause-serving g c held synced h told foretold =
    let e = c.new-machine.ensures ∙ ap idle c.new.ensures in
    let m = meaning g.T.Transfer.changes_of g.A.PartialEq.eq g.A.Account.rules g.A.AccountValue.values in
    let log = h.log in
    let own = c.in-Ok.ensures.serving held foretold.took any_sent h (begins_so held c.new-machine.result _ e told) foretold.all foretold.later in
    let alike = synced_alike log c.args.target.now (g.Ts.Targets.answers c.args.updates.now) (g.Ts.Targets.answers c.sync_hashed.new.updates) synced c.in-Ok.fetched foretold c.in-Ok.ensures.took in
    reported_served m log synced c.args.blocks.now held c.in-Ok.fetched.0 c.in-Ok.fetched.1.part _ _ c.in-Ok-report_of.report alike own c.in-Ok-report_of.ensures.report.target_is c.in-Ok-report_of.ensures.kept c.in-Ok-report_of.ensures.pinned

pub returns-in-Err-clause-calm : goal.returns-in-Err-clause-calm
returns-in-Err-clause-calm g c steady = subst (λ f. IsCalm {X = Report g.row.A.Denot} (Err f)) (sym c.sync_fault.ensures) (calm_session (Report g.row.A.Denot) c.sync_hashed.result c.in-Err.fault _ _ c.in-Err.is (c.sync_hashed.ensures.steady steady).1)

pub returns-clause-calm : goal.returns-clause-calm
returns-clause-calm g c steady = subst (λ f. IsCalm {X = Report g.row.A.Denot} (Err f)) (sym c.from.ensures) (calm_report (Report g.row.A.Denot) c.in-Err-report_of.fault)

use Rattle.std.proofs.Common.{◌∙◌, ap, subst, sym}
use Rattle.ledger_log.specs.Any.{any_floor, any_spelling}
use Rattle.ledger_log.specs.View.{LogView}
use Rattle.ledger_log.specs.declared.any.AnyOp.{AnyOp}
use Rattle.ledger_program.specs.Run.{LocalFails, SpansLog}
use Rattle.ledger_program.specs.Served.{served}
use Rattle.ledger_program.proofs.Links.{whole_log, foretold, serves_whole, reports_job, fails_job}
use Rattle.ledger_settling.specs.Reports.{IsWhole}
use Rattle.sync_client.specs.Owing.{OwesNothing}
use Rattle.sync_net.specs.Core.{data_of}
use Rattle.sync_net.specs.Service.{service_of}
use Rattle.sync_server.specs.Links.{service_told}
use Rattle.ledger_program.proofs.local.follow_opened.Goals as goal

pub returns-in-Ok-clause-reports : goal.returns-in-Ok-clause-reports
returns-in-Ok-clause-reports g c =
    let ops = c.in_ok-ops.ops.items in
    let target = c.target_of-target.result in
    let link = c.link_to-link.result in
    let e = c.in_ok-log.ensures.log in
    let spans : SpansLog target (whole_log ops) = subst (λ (l : LogView AnyOp). SpansLog target l) e c.target_of-target.ensures.spans in
    let told = subst (λ (l : LogView AnyOp). OwesNothing (data_of any_spelling any_floor l) (service_of link.lost (service_told any_spelling any_floor link))) e c.link_to-link.ensures.serves in
    let h = serves_whole ops target c.in_ok-ops.ensures.sound c.target_of-target.ensures.most spans in
    let own = c.in-Ok.ensures.serving (data_of any_spelling any_floor (whole_log ops)) target h told (foretold ops target) in
    λ job o b. reports_job job ops target c.as_slice-2.result.now spans (c.in_ok-ops.ensures.list ∙ ap served (c.as_slice.ensures ∙ sym o)) (c.as_slice-2.ensures ∙ sym b) c.in-Ok.report c.in-Ok.ensures.report own

pub returns-clause-fails : goal.returns-clause-fails
returns-clause-fails g c =
    let ops = c.in_ok-ops.ops.items in
    let target = c.target_of-target.result in
    let link = c.link_to-link.result in
    let e = c.in_ok-log.ensures.log in
    let spans : SpansLog target (whole_log ops) = subst (λ (l : LogView AnyOp). SpansLog target l) e c.target_of-target.ensures.spans in
    let told = subst (λ (l : LogView AnyOp). OwesNothing (data_of any_spelling any_floor l) (service_of link.lost (service_told any_spelling any_floor link))) e c.link_to-link.ensures.serves in
    let h = serves_whole ops target c.in_ok-ops.ensures.sound c.target_of-target.ensures.most spans in
    let own = c.in-Err.ensures.serving (data_of any_spelling any_floor (whole_log ops)) target h told (foretold ops target) in
    let whole : IsWhole target.start ops = subst (λ n. IsWhole n ops) (sym spans.start) c.in_ok-log.ensures.whole in
    let calm = c.in-Err.ensures.calm c.link_to-link.ensures.steady in
    λ job o b. subst (LocalFails job) (sym c.run_fault.ensures)
    (fails_job job ops target c.as_slice-2.result.now spans (c.in_ok-ops.ensures.list ∙ ap served (c.as_slice.ensures ∙ sym o)) (c.as_slice-2.ensures ∙ sym b) whole c.in-Err.fault own calm)

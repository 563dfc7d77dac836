use Rattle.std.proofs.Common.{◌∙◌, subst, Result, Err}
use Rattle.ledger_log.specs.Any.{any_floor, any_spelling}
use Rattle.ledger_log.specs.View.{LogView}
use Rattle.ledger_log.specs.declared.any.AnyOp.{AnyOp}
use Rattle.ledger_program.proofs.Links.{foretold, serves_whole, range_whole}
use Rattle.ledger_program.specs.Run.{SpansLog}
use Rattle.ledger_program.specs.declared.fault.Fault.{Fault}
use Rattle.ledger_settling.specs.declared.report.Report.{Report}
use Rattle.ledger_transfers.specs.declared.sequenced.Sequenced.{Sequenced}
use Rattle.sync_client.specs.Owing.{OwesNothing}
use Rattle.sync_net.specs.Core.{data_of}
use Rattle.sync_net.specs.Service.{service_of}
use Rattle.sync_server.specs.Links.{service_told}
use Rattle.follow_promises.specs.Four.{four, four_log}
use Rattle.follow_promises.proofs.Fours.{four_sound, four_valid, never_rose}
use Rattle.follow_promises.proofs.tests.four.followed.Goals as goal

pub returns-in-Ok-clause-serving : goal.returns-in-Ok-clause-serving
returns-in-Ok-clause-serving g c =
    let target = c.whole-target.result in
    let link = c.link_to-link.result in
    let e = c.in-Some.ensures in
    let spans : SpansLog target four_log = subst (λ (l : LogView AnyOp). SpansLog target l) e c.whole-target.ensures.spans in
    let told = subst (λ (l : LogView AnyOp). OwesNothing (data_of any_spelling any_floor l) (service_of link.lost (service_told any_spelling any_floor link))) e c.link_to-link.ensures.serves in
    let h = serves_whole four target four_sound c.whole-target.ensures.most spans in
    let own = c.in-Ok.ensures.serving (data_of any_spelling any_floor four_log) target h told (foretold four target) in
    own.1 ∙ range_whole four target spans

pub returns-clause-complete : goal.returns-clause-complete
returns-clause-complete g c =
    let target = c.whole-target.result in
    let link = c.link_to-link.result in
    let e = c.in-Some.ensures in
    let spans : SpansLog target four_log = subst (λ (l : LogView AnyOp). SpansLog target l) e c.whole-target.ensures.spans in
    let told = subst (λ (l : LogView AnyOp). OwesNothing (data_of any_spelling any_floor l) (service_of link.lost (service_told any_spelling any_floor link))) e c.link_to-link.ensures.serves in
    let h = serves_whole four target four_sound c.whole-target.ensures.most spans in
    let steady = c.in-Err.ensures.steady_on c.link_to-link.ensures.steady in
    let result : Result (Report Sequenced) Fault = Err c.in-Err.fault in
    c.in-Err.ensures.complete (data_of any_spelling any_floor four_log) target h told (foretold four target) (four_valid _ _ _ target spans) (never_rose result link.calls.faults c.follow.new.link.calls.faults c.link_to-link.ensures.count steady.1)

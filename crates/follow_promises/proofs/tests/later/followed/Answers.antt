use Rattle.std.proofs.Common.{subst, Result, Err}
use Rattle.ledger_log.specs.Any.{any_floor, any_spelling}
use Rattle.ledger_log.specs.View.{LogView}
use Rattle.ledger_log.specs.declared.any.AnyOp.{AnyOp}
use Rattle.ledger_program.proofs.Peers.{taken_off}
use Rattle.ledger_program.specs.declared.fault.Fault.{Fault}
use Rattle.ledger_settling.specs.declared.report.Report.{Report}
use Rattle.ledger_transfers.specs.declared.sequenced.Sequenced.{Sequenced}
use Rattle.sync_client.specs.Owing.{OwesNothing}
use Rattle.sync_net.specs.Core.{data_of}
use Rattle.sync_net.specs.Service.{service_of}
use Rattle.sync_server.specs.Links.{service_told}
use Rattle.follow_promises.specs.Four.{five_log}
use Rattle.follow_promises.proofs.Fours.{never_rose}
use Rattle.follow_promises.proofs.Laters.{ends_so, kept_so, serves_first, valid_so}
use Rattle.follow_promises.proofs.tests.later.followed.Goals as goal

pub returns-in-Ok-follow-clause-serving : goal.returns-in-Ok-follow-clause-serving
returns-in-Ok-follow-clause-serving g c =
    let first = c.in-Some.growing.first in
    let later = c.in-Some.growing.later in
    let link = c.link_to-link.result in
    let told = subst (λ (l : LogView AnyOp). OwesNothing (data_of any_spelling any_floor l) (service_of link.lost (service_told any_spelling any_floor link))) c.in-Some.ensures.log c.link_to-link.ensures.serves in
    let took = c.in-Ok-follow.ensures.took in
    let ends = ends_so first c.in-Some.ensures.first later c.in-Some.ensures.later c.in-Ok.updates c.follow.new.updates took.0 c.in-Ok.ensures took.1.all in
    let own = c.in-Ok-follow.ensures.serving (data_of any_spelling any_floor five_log) ends.synced (serves_first first c.in-Some.ensures.first) told ends.foretold in
    kept_so ends.synced ends.spans c.in-Ok-follow.report.kept own.1

pub returns-clause-complete : goal.returns-clause-complete
returns-clause-complete g c =
    let first = c.in-Some.growing.first in
    let later = c.in-Some.growing.later in
    let link = c.link_to-link.result in
    let told = subst (λ (l : LogView AnyOp). OwesNothing (data_of any_spelling any_floor l) (service_of link.lost (service_told any_spelling any_floor link))) c.in-Some.ensures.log c.link_to-link.ensures.serves in
    let off = taken_off c.in-Err.fault first c.in-Ok.updates c.follow.new.updates c.in-Err.ensures.took in
    let ends = ends_so first c.in-Some.ensures.first later c.in-Some.ensures.later c.in-Ok.updates c.follow.new.updates off.0 c.in-Ok.ensures off.1 in
    let steady = c.in-Err.ensures.steady_on c.link_to-link.ensures.steady in
    let result : Result (Report Sequenced) Fault = Err c.in-Err.fault in
    c.in-Err.ensures.complete (data_of any_spelling any_floor five_log) ends.synced (serves_first first c.in-Some.ensures.first) told ends.foretold (valid_so ends.synced _ _ _ ends.spans)
    (never_rose result link.calls.faults c.follow.new.link.calls.faults c.link_to-link.ensures.count steady.1)

use Rattle.std.proofs.Common.{◌≡◌, ◌∙◌, ℕ, subst}
use Rattle.ledger_log.specs.Any.{any_floor, any_spelling}
use Rattle.ledger_log.specs.View.{LogView}
use Rattle.ledger_log.specs.declared.any.AnyOp.{AnyOp}
use Rattle.sync_client.specs.Owing.{OwesNothing}
use Rattle.sync_net.specs.Core.{data_of}
use Rattle.sync_net.specs.Service.{service_of}
use Rattle.sync_server.specs.Links.{service_told}
use Rattle.follow_laws.specs.Raised.{raised_log, EndsLog}
use Rattle.follow_laws.proofs.Raises.{above_raised, serves_raised}
use Rattle.follow_laws.proofs.tests.ends.followed.Goals as goal

pub returns-in-Ok : goal.returns-in-Ok
returns-in-Ok g c =
    let target = c.in-Some-end_of.target in
    let link = c.link_to-link.result in
    let e = c.in-Some.ensures in
    let from : EndsLog 2 target raised_log = subst (λ (n : ℕ). EndsLog n target raised_log) c.requires (subst (λ (l : LogView AnyOp). EndsLog c.args.floor target l) e c.in-Some-end_of.ensures) in
    let told = subst (λ (l : LogView AnyOp). OwesNothing (data_of any_spelling any_floor l) (service_of link.lost (service_told any_spelling any_floor link))) e c.link_to-link.ensures in
    c.in-Ok.ensures.replayed (data_of any_spelling any_floor raised_log) (serves_raised target from) told (above_raised target from)

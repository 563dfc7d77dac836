use Rattle.std.proofs.Common.{is_some, sym, ap, ◌∙◌}
use Rattle.ledger_log.specs.View.{last_floor}
use Rattle.ledger_log.proofs.Floors.{last_floor-push}
use Rattle.ledger_examples.proofs.adding.ends_with_commit.Goals as goal

pub returns-in-Some : goal.returns-in-Some
returns-in-Some g c =
    let f = g.F.Family.floor_of in
    c.is_some.ensures
    ∙ ap is_some (c.commit_floor.ensures.floor ∙ sym (ap (last_floor f) c.in-Some.ensures.cases.0 ∙ last_floor-push f c.in-Some.field-0-1.now c.in-Some.last.now))

use Rattle.std.proofs.Common.{◌==◌, not}
use Rattle.std.specs.Arc.{arc_value}
use Rattle.ledger_serve.proofs.Sharing.{new_some, left_belong, left_count, own_grown}
use Rattle.ledger_serve.proofs.full.serve_full.Goals as goal

pub own_pass-own-requires : goal.own_pass-own-requires
own_pass-own-requires g c = new_some (arc_value c.in-Ok.shared.0).from c.pass_count.result c.in-Ok.shared.1.items c.in-Ok.ensures.passes c.pass_count.ensures.some

pub serve_shared-requires-clause-belongs : goal.serve_shared-requires-clause-belongs
serve_shared-requires-clause-belongs g c κs within =
    left_belong (arc_value c.in-Ok.shared.0).from (not (c.args.form.now.batch == 0)) c.pass_count.result c.in-Ok.shared.1.items c.own_pass-own.new.passes.items c.own_pass-own.result c.in-Ok.ensures.passes c.own_pass-own.ensures

pub serve_shared-requires-clause-passes : goal.serve_shared-requires-clause-passes
serve_shared-requires-clause-passes g c κs within =
    left_count (arc_value c.in-Ok.shared.0).from (not (c.args.form.now.batch == 0)) c.args.form.now.connections c.pass_count.result c.in-Ok.shared.1.items c.own_pass-own.new.passes.items c.own_pass-own.result c.pass_count.ensures.more c.pass_count.ensures.same c.in-Ok.ensures.passes c.own_pass-own.ensures

pub serve_shared-requires-clause-grown : goal.serve_shared-requires-clause-grown
serve_shared-requires-clause-grown g c κs within =
    own_grown g.F.Family.floor_of g.F.Family.commit_of g.F.ExampleFamily.test_of g.F.ExampleFamily.test_commit_of (arc_value c.in-Ok.shared.0).from _ (not (c.args.form.now.batch == 0)) c.pass_count.result c.in-Ok.shared.1.items c.own_pass-own.new.passes.items c.own_pass-own.result c.in-Ok.ensures.passes c.own_pass-own.ensures

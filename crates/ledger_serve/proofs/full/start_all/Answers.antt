use Rattle.std.proofs.Common.{ap, subst, length, arith}
use Rattle.std.specs.Arc.{arc_value}
use Rattle.std.specs.List.{All}
use Rattle.std.proofs.lemmas.List.Elements.{All-head, All-tail}
use Rattle.sync_shared.specs.Replies.{Belongs}
use Rattle.ledger_serve.proofs.Taking.{took_more}
use Rattle.ledger_serve.proofs.full.start_all.Goals as goal

pub start_next-requires-clause-belongs : goal.start_next-requires-clause-belongs
start_next-requires-clause-belongs g c κs within =
    All-head (Belongs (arc_value c.args.common.now.log).from) c.take_first-pass.result c.take_first-pass.new.passes.items (subst (All (Belongs (arc_value c.args.common.now.log).from)) c.take_first-pass.ensures.first c.links.invariant.all)

pub links-preserved : goal.links-preserved
links-preserved g c =
    record {
      later = omega (arith, c.start_next.ensures.later, c.links.invariant.later);
      started = c.in-Ok.ensures.started;
      took = took_more c.links.number _ _ _ c.links.invariant.took c.in-Ok.ensures.took;
      left = omega (arith, ap length c.take_first-pass.ensures.first, c.links.invariant.left);
      all = All-tail (Belongs (arc_value c.args.common.now.log).from) c.take_first-pass.result c.take_first-pass.new.passes.items (subst (All (Belongs (arc_value c.args.common.now.log).from)) c.take_first-pass.ensures.first c.links.invariant.all);
      grown = c.in-Ok.ensures.grown;
    }

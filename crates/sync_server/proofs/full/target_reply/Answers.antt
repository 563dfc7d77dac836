use Rattle.std.proofs.Common.{sym, ap, ◌∙◌}
use Rattle.ledger_log.specs.View.{floor_or_zero}
use Rattle.sync_server.proofs.Targets.{target_is}
use Rattle.sync_server.proofs.full.target_reply.Goals as goal

pub returns-in-Some-clause-answer : goal.returns-in-Some-clause-answer
returns-in-Some-clause-answer g c =
    target_is c.args.number c.in-Some.target _ _ _ (c.in-Some.ensures.0 ∙ c.root.ensures) (c.in-Some.ensures.1 ∙ sym (ap floor_or_zero c.sync_boundary.ensures.floor)) (c.in-Some.ensures.2 ∙ c.size.ensures.size)

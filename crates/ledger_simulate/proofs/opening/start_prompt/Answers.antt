use Rattle.std.proofs.Common.{◌∙◌}
use Rattle.ledger_simulate.specs.Plans.{named_late}
use Rattle.ledger_simulate.proofs.Beginning.{starts_more}
use Rattle.ledger_simulate.proofs.Changing.{changes_alone_then}
use Rattle.ledger_simulate.proofs.opening.start_prompt.Goals as goal

pub loop-pk-preserved : goal.loop-pk-preserved
loop-pk-preserved g c = record {
  made =
      starts_more (named_late c.args.plan.now.crashes) c.as_slice-pk-items.result.now c.loop-pk.pk-index (record { 0 = 0 }) c.args.agenda.now c.loop-pk.agenda c.start_if_prompt.new.agenda c.loop-pk-test.true
      c.loop-pk.invariant.made c.in_ok-start_if_prompt.ensures.made;
  changes_alone =
      changes_alone_then (g.D.EngineDefinition.peer_of c.args.plan.now.engine) c.args.agenda.now c.loop-pk.agenda c.start_if_prompt.new.agenda c.args.world.now c.loop-pk.world c.start_if_prompt.new.world
      c.loop-pk.invariant.changes_alone c.in_ok-start_if_prompt.ensures.changes_alone;
  exercise = c.in_ok-start_if_prompt.ensures.exercise ∙ c.loop-pk.invariant.exercise;
}

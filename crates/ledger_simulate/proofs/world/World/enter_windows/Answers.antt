use Rattle.std.proofs.Common.{◌∙◌}
use Rattle.ledger_simulate.specs.Failures.{standing_of}
use Rattle.ledger_simulate.proofs.Changing.{changes_alone_then}
use Rattle.ledger_simulate.proofs.SettingOff.{passed_here, passed_more, passed_none, windows_all, windows_more}
use Rattle.ledger_simulate.proofs.world.World.enter_windows.Goals as goal

pub loop-index-preserved : goal.loop-index-preserved
loop-index-preserved g c = record {
  changes_alone =
      changes_alone_then (g.D.EngineDefinition.peer_of c.args.plan.now.engine) c.args.agenda.now c.loop-index.agenda c.look_at.new.agenda c.args.self.now c.loop-index.self c.look_at.new.self
      c.loop-index.invariant.changes_alone (c.in-Ok.ensures.changes_alone (g.D.EngineDefinition.peer_of c.args.plan.now.engine));
  standing =
      windows_more g.D.State.ProcessedHeight.height_of c.args.plan.now.crashes c.as_slice-crash-items.result.now c.loop-index.index c.as_slice-crash-items.ensures c.crash-item.result (standing_of c.args.self.now) (standing_of c.loop-index.self) (standing_of c.look_at.new.self)
      c.loop-index-test.true c.crash-item.is c.loop-index.invariant.standing c.in-Ok.ensures.standing;
  unpassed =
      passed_more g.D.State.ProcessedHeight.height_of c.args.plan.now.crashes c.as_slice-crash-items.result.now c.loop-index.index c.as_slice-crash-items.ensures c.crash-item.result (standing_of c.args.self.now) (standing_of c.loop-index.self) (standing_of c.look_at.new.self)
      c.loop-index-test.true c.crash-item.is c.loop-index.invariant.unpassed c.in-Ok.ensures.unpassed c.in-Ok.ensures.standing;
  started = c.in-Ok.ensures.started ∙ c.loop-index.invariant.started;
}

pub returns-clause-standing : goal.returns-clause-standing
returns-clause-standing g c =
    windows_all g.D.State.ProcessedHeight.height_of c.args.plan.now.crashes c.as_slice-crash-items.result.now c.loop-index.index c.as_slice-crash-items.ensures (standing_of c.args.self.now) (standing_of c.loop-index.self)
    c.loop-index-test.false c.loop-index.invariant.standing

pub returns-clause-unpassed : goal.returns-clause-unpassed
returns-clause-unpassed g c =
    passed_none g.D.State.ProcessedHeight.height_of c.args.plan.now.crashes c.as_slice-crash-items.result.now c.loop-index.index c.as_slice-crash-items.ensures (standing_of c.args.self.now) (standing_of c.loop-index.self)
    c.loop-index-test.false c.loop-index.invariant.unpassed

pub returns-in-Err-clause-skips : goal.returns-in-Err-clause-skips
returns-in-Err-clause-skips g c =
    passed_here g.D.State.ProcessedHeight.height_of c.args.plan.now.crashes c.as_slice-crash-items.result.now c.loop-index.index c.as_slice-crash-items.ensures c.crash-item.result (standing_of c.args.self.now) (standing_of c.loop-index.self) c.in-Err.stop
    c.loop-index-test.true c.crash-item.is c.loop-index.invariant.unpassed c.in-Err.ensures.skips

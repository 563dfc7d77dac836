use Rattle.std.proofs.Common.{◌≡◌, drop}
use Rattle.ledger_simulate.specs.Failures.{first_passed, standing_of, windows_entered}
use Rattle.ledger_simulate.specs.Handling.{ChangesEnginesAlone}
use Rattle.ledger_simulate.proofs.world.World.enter_windows.Given as goal

abbrev pub invariant-loop-index : goal.invariant-loop-index
invariant-loop-index g l = record {
  changes_alone : ChangesEnginesAlone (g.D.EngineDefinition.peer_of l.plan.engine) l.initial.agenda l.agenda l.initial.self l.self;
  standing : windows_entered g.D.State.ProcessedHeight.height_of l.index (drop l.index l.plan.crashes) (standing_of l.self) ≡ windows_entered g.D.State.ProcessedHeight.height_of 0 l.plan.crashes (standing_of l.initial.self);
  unpassed : first_passed g.D.State.ProcessedHeight.height_of l.index (drop l.index l.plan.crashes) (standing_of l.self) ≡ first_passed g.D.State.ProcessedHeight.height_of 0 l.plan.crashes (standing_of l.initial.self);
  started : l.self.exercise.delayed_started ≡ l.initial.self.exercise.delayed_started;
}

use Rattle.std.proofs.Common.{refl}
use Rattle.ledger_simulate.proofs.Changing.{changes_alone_start}
use Rattle.ledger_simulate.specs.declared.event.Event.TheVariants.{Started}
use Rattle.ledger_simulate.proofs.world.World.launch.Goals as goal

pub returns-clause-changes_alone : goal.returns-clause-changes_alone
returns-clause-changes_alone g c =
    changes_alone_start (g.D.EngineDefinition.peer_of c.args.plan.now.engine) (g.D.EngineDefinition.made c.args.plan.now.engine) (g.D.EngineDefinition.journal c.args.plan.now.engine)
    _ _ c.args.agenda.now c.after.new.self (0, Started c.args.pk) c.args.self.now _ c.in_ok-start_engine.ensures.ok c.in_ok-number.ensures c.in_ok-after.ensures.ok refl refl refl refl

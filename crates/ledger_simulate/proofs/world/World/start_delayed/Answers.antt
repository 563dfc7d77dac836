use Rattle.std.proofs.Common.{refl}
use Rattle.ledger_simulate.proofs.Changing.{changes_alone_to}
use Rattle.ledger_simulate.proofs.world.World.start_delayed.Goals as goal

pub returns-clause-changes_alone : goal.returns-clause-changes_alone
returns-clause-changes_alone g c =
    changes_alone_to (g.D.EngineDefinition.peer_of c.args.plan.now.engine) c.args.agenda.now c.launch_all.new.agenda c.args.self.now c.launch_all.new.self _ refl refl refl refl c.in_ok-launch_all.ensures.changes_alone

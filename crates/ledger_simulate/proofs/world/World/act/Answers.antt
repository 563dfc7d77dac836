use Rattle.std.proofs.Common.{refl, ap}
use Rattle.ledger_simulate.proofs.Changing.{adds_none, changes_alone_stop, changes_from, changes_still}
use Rattle.ledger_simulate.proofs.world.World.act.Goals as goal

pub returns-in_ok-update_link-in-UpdateLink-clause-changes : goal.returns-in_ok-update_link-in-UpdateLink-clause-changes
returns-in_ok-update_link-in-UpdateLink-clause-changes g c =
    changes_still (g.D.EngineDefinition.peer_of c.args.plan.now.engine) c.args.agenda.now c.args.agenda.now c.args.self.now c.update_link.new.self
    (adds_none c.args.agenda.now c.args.agenda.now refl) (ap (λ s. s.entries) c.update_link.ensures.seats) c.update_link.ensures.rules

pub returns-in-Crash-clause-changes : goal.returns-in-Crash-clause-changes
returns-in-Crash-clause-changes g c =
    (changes_alone_stop (g.D.EngineDefinition.peer_of c.args.plan.now.engine) c.args.agenda.now c.args.agenda.now c.args.self.now c.crash.new.self _
    (adds_none c.args.agenda.now c.args.agenda.now refl) (ap (λ s. s.seats) c.crash.ensures.standing) c.crash.ensures.rules c.crash.ensures.words c.crash.ensures.links).changes

pub returns-in_ok-relaunch-in-Restart-clause-changes : goal.returns-in_ok-relaunch-in-Restart-clause-changes
returns-in_ok-relaunch-in-Restart-clause-changes g c =
    changes_from (g.D.EngineDefinition.peer_of c.args.plan.now.engine) c.args.agenda.now c.relaunch.new.agenda c.args.self.now _ c.relaunch.new.self refl refl c.in_ok-relaunch-in-Restart.ensures.changes_alone.changes

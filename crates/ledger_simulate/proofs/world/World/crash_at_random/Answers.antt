use Rattle.std.proofs.Common.{refl}
use Rattle.ledger_simulate.proofs.Changing.{adds_one, changes_from, changes_still, changes_then}
use Rattle.ledger_simulate.specs.declared.event.Event.TheVariants.{CrashTick}
use Rattle.ledger_simulate.proofs.world.World.crash_at_random.Goals as goal

pub returns-clause-changes : goal.returns-clause-changes
returns-clause-changes g c =
    let peer_of = g.D.EngineDefinition.peer_of c.args.plan.now.engine in
    changes_then peer_of c.args.agenda.now c.crash_all.new.agenda c.after.new.self c.args.self.now c.crash_all.new.self c.crash_all.new.self
    (changes_from peer_of c.args.agenda.now c.crash_all.new.agenda c.args.self.now _ c.crash_all.new.self refl refl (c.in_ok-crash_all.ensures.changes peer_of))
    (changes_still peer_of c.crash_all.new.agenda c.after.new.self c.crash_all.new.self c.crash_all.new.self (adds_one c.crash_all.new.agenda c.after.new.self (_, CrashTick) c.in_ok-after.ensures.ok refl) refl refl)

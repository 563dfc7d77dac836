use Rattle.std.proofs.Common.{refl}
use Rattle.ledger_simulate.proofs.Changing.{changes_alone_from}
use Rattle.ledger_simulate.proofs.world.World.enter_window.Goals as goal

pub returns-in-Ok-clause-changes_alone : goal.returns-in-Ok-clause-changes_alone
returns-in-Ok-clause-changes_alone g c = λ peer_of.
    changes_alone_from peer_of c.args.agenda.now c.crash_for.new.agenda c.args.self.now _ c.crash_for.new.self refl refl refl refl (c.in-Ok.ensures.changes_alone peer_of)

use Rattle.std.proofs.Common.{refl, ap}
use Rattle.ledger_simulate.proofs.Changing.{adds_none, adds_one, changes_alone_stop}
use Rattle.ledger_simulate.specs.declared.event.Event.TheVariants.{Recover}
use Rattle.ledger_simulate.proofs.world.World.crash_for.Goals as goal

pub returns-then-not-crash-clause-changes_alone : goal.returns-then-not-crash-clause-changes_alone
returns-then-not-crash-clause-changes_alone g c = λ peer_of.
    changes_alone_stop peer_of c.args.agenda.now c.args.agenda.now c.args.self.now c.crash.new.self c.args.pk (adds_none c.args.agenda.now c.args.agenda.now refl)
    (ap (λ s. s.seats) c.crash.ensures.standing) c.crash.ensures.rules c.crash.ensures.words c.crash.ensures.links

pub returns-clause-changes_alone : goal.returns-clause-changes_alone
returns-clause-changes_alone g c = λ peer_of.
    changes_alone_stop peer_of c.args.agenda.now c.after.new.self c.args.self.now c.crash.new.self c.args.pk
    (adds_one c.args.agenda.now c.after.new.self (c.args.downtime, Recover c.args.pk) c.in_ok-after.ensures.ok refl)
    (ap (λ s. s.seats) c.crash.ensures.standing) c.crash.ensures.rules c.crash.ensures.words c.crash.ensures.links

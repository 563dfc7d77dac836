use Rattle.std.proofs.Common.{subst}
use Rattle.sync_sessions.specs.Turns.{Session}
use Rattle.sync_sessions.proofs.job.Session.run.Goals as goal

pub returns : goal.returns
returns g c = (
  c.run_session.new.pass,
  c.run_session.new.link,
  subst (λ s. Session g.F.Op.Spell.reading g.F.Op.Spell.written g.F.Family.floor_of s.opening g.F.Op.Leaf.spelling c.run_session.result c.args.self.pass c.run_session.new.pass (g.L.Link.wire c.args.self.link) (g.L.Link.wire c.run_session.new.link) (g.L.Link.faults c.args.self.link) (g.L.Link.faults c.run_session.new.link))
      c.deref.ensures c.run_session.ensures.runs,
)

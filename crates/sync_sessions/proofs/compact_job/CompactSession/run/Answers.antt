use Rattle.std.proofs.Common.{subst}
use Rattle.sync_sessions.specs.Compact.{CompactRun}
use Rattle.sync_sessions.proofs.compact_job.CompactSession.run.Goals as goal

pub returns : goal.returns
returns g c = (
  c.run_compact.new.link,
  subst (λ s. CompactRun g.F.Op.Spell.reading g.F.Op.Spell.written (g.DB.CompactSyncable.kept s) c.run_compact.result (g.L.Link.wire c.args.self.link) (g.L.Link.wire c.run_compact.new.link) (g.L.Link.faults c.args.self.link) (g.L.Link.faults c.run_compact.new.link))
      c.deref.ensures c.run_compact.ensures.runs,
)

use Rattle.sync_compact.proofs.Limits.{state_fits}
use Rattle.sync_compact.proofs.compact.state_reply.Goals as goal

pub returns-in-Ok-clause-limits : goal.returns-in-Ok-clause-limits
returns-in-Ok-clause-limits g c =
    state_fits g.H.Hasher.digest g.F.Op.Leaf.spelling g.F.Family.floor_of (g.DB.CompactSyncable.kept c.args.db.now) c.in-Ok.state c.get-size.ensures.most c.in-Ok.ensures.ok c.in-Ok.ensures.taken

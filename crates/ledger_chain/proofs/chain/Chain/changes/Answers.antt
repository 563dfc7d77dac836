use Rattle.std.proofs.Common.{All, sym, subst}
use Rattle.std.specs.Prelude.{IsSome}
use Rattle.ledger_chain.specs.Chain.{view}
use Rattle.ledger_chain.proofs.Changing.{all_write}
use Rattle.ledger_chain.proofs.chain.Chain.changes.Goals as goal

pub returns-clause-writes : goal.returns-clause-writes
returns-clause-writes g c =
    let w = g.F.Family.write_of in
    let all = all_write w g.F.RaisingFamily.put_of g.F.RaisingFamily.delete_of g.met.F.RaisingFamily.put_writes g.met.F.RaisingFamily.delete_writes (view w c.args.self.now c.args.db.now) c.args.writes.now in
    subst (All (λ op. IsSome (g.F.Family.write_of op))) (sym c.in_ok-ops.ensures) all

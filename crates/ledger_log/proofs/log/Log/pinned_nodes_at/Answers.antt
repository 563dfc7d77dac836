use Rattle.std.proofs.Common.{ap, ◌∙◌}
use Rattle.ledger_merkle.specs.Leaves.{ListView, peaks_at}
use Rattle.ledger_log.proofs.Logs.{peaks_of_log}
use Rattle.ledger_log.proofs.log.Log.pinned_nodes_at.Goals as goal

pub returns-clause-nodes : goal.returns-clause-nodes
returns-clause-nodes g c =
    let hash = g.H.Hasher.digest in
    let spelling = g.F.Op.Leaf.spelling in
    let loc = c.args.loc in
    c.in_ok-nodes.ensures.peaks ∙ (ap (λ (v : ListView). peaks_at hash v loc) c.list.ensures.list ∙ peaks_of_log hash spelling c.args.self.now loc)

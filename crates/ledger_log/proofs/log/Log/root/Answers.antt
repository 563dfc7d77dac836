use Rattle.std.proofs.Common.{ap, ◌∙◌}
use Rattle.ledger_merkle.specs.Leaves.{list_root}
use Rattle.ledger_log.proofs.Logs.{root_of_log}
use Rattle.ledger_log.proofs.log.Log.root.Goals as goal

pub returns : goal.returns
returns g c =
    let hash = g.H.Hasher.digest in
    let spelling = g.F.Op.Leaf.spelling in
    c.root.ensures.all ∙ (ap (list_root hash) c.list.ensures.list ∙ root_of_log hash spelling c.args.self.now)

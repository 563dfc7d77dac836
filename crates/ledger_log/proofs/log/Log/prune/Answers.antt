use Rattle.std.proofs.Common.{◌≤◌, ap, ◌∙◌, arith}
use Rattle.ledger_log.specs.View.{log_root, log_size}
use Rattle.ledger_log.proofs.Logs.{root_below}
use Rattle.ledger_log.proofs.log.Log.prune.Goals as goal
use Rattle.ledger_log.proofs.log.Log.prune.Goals.{then-get-2+in_ok-drop_below, else-get-2}

pub returns-clause-root : goal.returns-clause-root
returns-clause-root g c =
    let hash = g.H.Hasher.digest in
    let spelling = g.F.Op.Leaf.spelling in
    let log = c.args.self.now in
    let loc = c.args.loc in
    let most : loc ≤ log_size log = omega arith in
    elim c.if-get-2.branch [
      | then-get-2+in_ok-drop_below w ↦
          let least : log.front ≤ loc = omega arith in
          ap (log_root hash spelling) w.self-is ∙ (ap (log_root hash spelling) w.in_ok-drop_below.ensures.ok ∙ root_below hash spelling log loc least most)
      | else-get-2 w ↦ ap (log_root hash spelling) w.self-is
    ]

use Rattle.std.proofs.Common.{◌≡◌, ◌≤◌, ◌++◌, []}
use Rattle.ledger_merkle.specs.Levels.{tree, outside_below}
use Rattle.ledger_merkle.proofs.Peaked.{begins}
use Rattle.ledger_merkle.proofs.plain.plain_digests.Given as goal

abbrev pub invariant-loop-height : goal.invariant-loop-height
invariant-loop-height g l =
    let trees = tree g.H.Hasher.digest [] 0 l.leaves in
    record {
      high : l.height ≤ 63;
      done : l.digests.items ++ outside_below trees l.start l.end l.size l.height (begins l.size l.height) ≡ outside_below trees l.start l.end l.size 63 0;
    }

abbrev pub decreases-loop-height : goal.decreases-loop-height
decreases-loop-height g l = l.height

use Rattle.std.proofs.Common.{◌++◌}
use Rattle.ledger_activity.proofs.Bits.{Walked}
use Rattle.ledger_activity.proofs.behind.bits_behind.Given as goal

abbrev pub invariant-loop-index : goal.invariant-loop-index
invariant-loop-index g l = Walked (l.log.ops ++ l.more) l.index l.bits.items l.later

abbrev pub decreases-loop-index : goal.decreases-loop-index
decreases-loop-index g l = l.index

use Rattle.std.proofs.Common.{◌-◌}
use Rattle.ledger_log.proofs.Living.{Walked}
use Rattle.ledger_log.proofs.log.Log.living_behind.Given as goal

abbrev pub invariant-loop-later : goal.invariant-loop-later
invariant-loop-later g l = Walked g.F.Family.write_of l.self l.more l.fn.loc l.limit l.end l.later l.at l.found.items

abbrev pub decreases-loop-later : goal.decreases-loop-later
decreases-loop-later g l = l.end - l.at

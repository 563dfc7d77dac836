use Rattle.std.proofs.Common.{◌≡◌, ◌-◌, ◌≤◌, All, take}
use Rattle.ledger_log.specs.Any.{IsSoundAny}
use Rattle.ledger_log.specs.View.{log_size}
use Rattle.follow_laws.proofs.chained.see_operations.Given as goal

abbrev pub invariant-loop-at : goal.invariant-loop-at
invariant-loop-at l = record {
  from : l.log.front ≤ l.at;
  to : l.at ≤ log_size l.log;
  end : l.end ≡ log_size l.log;
  seen : All IsSoundAny (take (l.at - l.log.front) l.log.ops);
}

abbrev pub decreases-loop-at : goal.decreases-loop-at
decreases-loop-at l = log_size l.log - l.at

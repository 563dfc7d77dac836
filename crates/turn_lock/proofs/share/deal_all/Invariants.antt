use Rattle.std.proofs.Common.{◌≡◌, ◌-◌, map}
use Rattle.std.specs.List.{range_with_len}
use Rattle.turn_lock.specs.Turns.{IsSame}
use Rattle.turn_lock.specs.Passes.{fresh}
use Rattle.turn_lock.specs.Seated.{Deals}
use Rattle.turn_lock.proofs.share.deal_all.Given as goal

abbrev pub invariant-loop-caller : goal.invariant-loop-caller
invariant-loop-caller g l = record {
  same : IsSame l.fn.seat l.seat;
  dealer : Deals l.seat l.caller (l.passes - l.caller);
  opening : l.seat.me.0.opening ≡ l.fn.seat.me.0.opening;
  made : l.made.items ≡ map (fresh record { table = l.fn.seat.table_id; opening = l.fn.seat.me.0.opening } l.turns) (range_with_len 0 l.caller);
}

use Rattle.std.proofs.Common.{◌≡◌, length}
use Rattle.ledger_settling.specs.Slots.{AreFound}
use Rattle.ledger_settling.proofs.rounds.slots_at.Given as goal

abbrev pub invariant-loop-place : goal.invariant-loop-place
invariant-loop-place g l = record {
  count : length l.found.items ≡ l.place-index;
  each : AreFound g.A.PartialEq.eq l.slots l.places l.found.items;
}

use Rattle.std.proofs.Common.{◌≡◌, length}
use Rattle.ledger_settling.specs.Slots.{AreReads}
use Rattle.ledger_settling.proofs.slots.reads_of.Given as goal

abbrev pub invariant-loop-key : goal.invariant-loop-key
invariant-loop-key g l = record {
  count : length l.reads.items ≡ l.key-index;
  each : AreReads g.A.PartialEq.eq l.accounts l.keys l.reads.items;
}

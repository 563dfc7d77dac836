use Rattle.std.proofs.Common.{◌≡◌, replicate}
use Rattle.ledger_transfers.specs.declared.slot.Slot.TheVariants.{Keep}
use Rattle.ledger_settling.proofs.applying.kept_slots.Given as goal

abbrev pub invariant-loop-place : goal.invariant-loop-place
invariant-loop-place l = l.slots.items ≡ replicate l._place Keep

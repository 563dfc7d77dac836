-- Why a change can't be added.
use Rattle.std.specs.Prelude.{◌≡◌, ◌+◌, ◌<◌, ⊤}
use Rattle.std.specs.Prelude.{Bool, List}
use Rattle.ledger_transfers.specs.Touches.{max_amount, IsSumOffence}
use Rattle.ledger_transfers.specs.declared.change.Change.{Change}
use Rattle.ledger_transfers.specs.declared.fault.PlanFault.{PlanFault}
use Rattle.ledger_transfers.specs.declared.fault.PlanFault.TheVariants.{Rejected, OutOfMemory}
use Rattle.ledger_transfers.specs.declared.fault.Rejection.TheVariants.{Refused, Insufficient, Overflow}
use Rattle.ledger_transfers.specs.declared.totals.Totals.{Totals}

-- a sum that is too great, at this key, or want of memory
abbrev pub AddFails : {K E : Type 0} → Totals E → K → Change E → PlanFault K → Type 0
AddFails total key change (Rejected (Refused k)) = ⊥
AddFails total key change (Rejected (Insufficient k)) = (k ≡ key) × (max_amount < total.debits + change.debit)
AddFails total key change (Rejected (Overflow k)) = (k ≡ key) × (max_amount < total.credits + change.credit)
AddFails total key change OutOfMemory = ⊤

-- a sum of the batch is too great, at some key, or want of memory
abbrev pub GatherFails : {K E : Type 0} → (K → K → Bool) → List (K × Change E) → PlanFault K → Type 0
GatherFails eq ts (Rejected r) = IsSumOffence eq ts r
GatherFails eq ts OutOfMemory = ⊤

-- What becomes of the keys that a batch has read for slots.
use Rattle.std.specs.Prelude.{ℕ, List, ◌++◌, Option, Some, None, filter_map, zip}
use Rattle.ledger_transfers.specs.declared.slot.Slot.{Slot}
use Rattle.ledger_transfers.specs.declared.slot.Slot.TheVariants.{Keep, Delete, Put}
use Rattle.ledger_chain.specs.Writes.{Write, settled}
use Rattle.ledger_batches.specs.Batches.{BatchView, StagedView}

-- the write of a slot: a key that is kept isn't written
abbrev pub slot_write : List ℕ → Slot (List ℕ) → Option Write
slot_write key Keep = None
slot_write key Delete = Some (key, None)
slot_write key (Put value) = Some (key, Some value)

-- the writes of all slots, in their order
abbrev pub slot_writes : List (List ℕ) → List (Slot (List ℕ)) → List Write
slot_writes keys slots = filter_map (λ p. slot_write p.0 p.1) (zip keys slots)

-- the batch with its writes so far, then those of the slots, then the unstaged ones
abbrev pub with_slots : {Op : Type 0} → StagedView Op → List (Slot (List ℕ)) → List Write → BatchView Op
with_slots staged slots unstaged = record {
  chain = staged.batch.chain;
  writes = settled (staged.batch.writes ++ (slot_writes staged.keys slots ++ unstaged));
  metadata = staged.batch.metadata;
}

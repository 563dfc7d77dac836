-- Slots of keys, in order.
use Rattle.std.specs.Prelude.{◌≡◌, ℕ, ◌+◌, ◌^◌, ◌<◌, ◌++◌, Bool, false, List, [], length, map, filter_map, slice_get, Option, None, Some, ◌⊎◌, bytes_eq, ⊤}
use Rattle.std.specs.List.{AllByRecursion, zip}
use Rattle.std.specs.BTreeMap.{BTreeMap}
use Rattle.ledger_log.specs.declared.any.AnyOp.{AnyOp}
use Rattle.ledger_log.specs.declared.any.AnyOp.TheVariants.{Update, Delete}
use Rattle.ledger_log.specs.Any.{any_floor, any_write, any_commit, any_spelling}
use Rattle.ledger_log.specs.View.{LogView, log_size}
use Rattle.ledger_raising.specs.Raised.{raised}
use Rattle.ledger_raising.specs.Updates.{update, deletion}
use Rattle.ledger_chain.specs.Chain.{state_of}
use Rattle.ledger_chain.specs.Changes.{changes}
use Rattle.ledger_chain.specs.Writes.{Write, settled}
use Rattle.ledger_batches.specs.Batches.{BatchView}
use Rattle.sha2.specs.Sha256.{sha256}
use Rattle.ledger_transfers.specs.Rules.{Rules, SameOutcome}
use Rattle.ledger_transfers.specs.Touches.{IsSumOffence, IsWithinSums}
use Rattle.ledger_transfers.specs.Settling.{opened, SameSlot, HasFirstOffence}
use Rattle.ledger_transfers.specs.declared.change.Change.{Change}
use Rattle.ledger_transfers.specs.declared.slot.Slot.{Slot}
use Rattle.ledger_transfers.specs.declared.slot.Slot.TheVariants.{Keep, Put, Delete as Remove}
use Rattle.ledger_transfers.specs.declared.fault.PlanFault.{PlanFault}
use Rattle.ledger_transfers.specs.declared.fault.PlanFault.TheVariants.{Rejected as PlanRejected, OutOfMemory as PlanOutOfMemory}
use Rattle.ledger_settling.specs.Reports.{held, NoneInitial}
use Rattle.ledger_managed.specs.Values.{Values}
use Rattle.ledger_log.specs.declared.fault.LogFault.TheVariants.{Full as LogFull}
use Rattle.ledger_chain.specs.declared.fault.ManagedFault.{ManagedFault}
use Rattle.ledger_chain.specs.declared.fault.ManagedFault.TheVariants.{StaleRead, StaleBatch, Log as ManagedLog, OutOfMemory as ManagedMemory}
use Rattle.ledger_settling.specs.Blocks.{Meaning, firsts, written, IsSettled, IsOffence, grown, batch_of, Settles}
use Rattle.ledger_job.specs.declared.block.Block.{Block}
use Rattle.ledger_job.specs.declared.block.Block.TheVariants.{Body, Rounds}
use Rattle.ledger_transfers.specs.declared.fault.Rejection.{Rejection}
use Rattle.ledger_job.specs.declared.block.BlockVerdicts.{BlockVerdicts}
use Rattle.ledger_settling.specs.declared.fault.ReportFault.{ReportFault}
use Rattle.ledger_settling.specs.declared.fault.ReportFault.TheVariants.{BadLog, BadValue, Rejected, Full, OutOfMemory}

-- each read is the account under its key
abbrev pub AreReads : {A : Type 0} → (A → A → Bool) → BTreeMap (List ℕ) A → List (List ℕ) → List (Option A) → Type 0
AreReads {A} same accounts keys reads =
    (i : ℕ) (key : List ℕ) (read : Option A) → slice_get keys i ≡ Some key → slice_get reads i ≡ Some read → SameOutcome same read (held accounts key)

-- the account that a key opens with
abbrev pub opening_of : {A E : Type 0} → Rules A E → BTreeMap (List ℕ) A → List ℕ → A
opening_of rules accounts key = opened rules (held accounts key)

-- what the slots of these keys write, in order
abbrev pub writes_of : {A : Type 0} → Values A → List (List ℕ) → List (Slot A) → List AnyOp
writes_of values keys slots = filter_map (λ p. written values p.0 p.1) (zip keys slots)

-- the operation of a write
abbrev pub op_of : Write → AnyOp
op_of (key, Some value) = Update key value
op_of (key, None) = Delete key

-- the write of a slot
abbrev pub entry_of : {A : Type 0} → Values A → List ℕ → Slot A → Option Write
entry_of values key Keep = None
entry_of values key Remove = Some (key, None)
entry_of values key (Put a) = Some (key, Some (values.value_of a))

-- the writes of the slots of these keys, in order
abbrev pub entries_of : {A : Type 0} → Values A → List (List ℕ) → List (Slot A) → List Write
entries_of values keys slots = filter_map (λ p. entry_of values p.0 p.1) (zip keys slots)

-- what is put isn't the account of a key without a value
abbrev pub IsProper : {A E : Type 0} → (A → A → Bool) → Rules A E → Slot A → Type 0
IsProper same rules Keep = ⊤
IsProper same rules Remove = ⊤
IsProper same rules (Put a) = same a rules.initial ≡ false

-- in none of these slots
abbrev pub AreProper : {A E : Type 0} → (A → A → Bool) → Rules A E → List (Slot A) → Type 0
AreProper same rules slots = AllByRecursion (IsProper same rules) slots

-- where no account of a map was that of a key without a value, none is in another map
abbrev pub StaysProper : {A E : Type 0} → (A → A → Bool) → Rules A E → BTreeMap (List ℕ) A → BTreeMap (List ℕ) A → Type 0
StaysProper same rules before after = NoneInitial same rules (held before) → NoneInitial same rules (held after)

-- a batch over the log, without writes
abbrev pub fresh_batch : LogView AnyOp → BatchView AnyOp
fresh_batch log = record { chain = record { base = state_of sha256 any_spelling log; links = [] }; writes = []; metadata = None }

-- what a batch over the log that makes these writes changes
abbrev pub changes_on : LogView AnyOp → List Write → List AnyOp
changes_on log writes = changes any_write update deletion (fresh_batch log).chain log (settled writes)

-- what a batch of these changes appends to the log
abbrev pub raised_on : LogView AnyOp → List AnyOp → List AnyOp
raised_on log changes = raised any_floor any_write any_commit log changes None

-- the operations of the log with the batch of what these slots write
abbrev pub with_slots : {A : Type 0} → Values A → LogView AnyOp → List (List ℕ) → List (Slot A) → List AnyOp
with_slots values log keys slots = log.ops ++ raised_on log (writes_of values keys slots)

-- a batch over the log that writes what these slots do changes that, each key once and no key that has no value to none
abbrev pub Changes : {A : Type 0} → Values A → LogView AnyOp → List (List ℕ) → List (Slot A) → Type 0
Changes values log keys slots = changes_on log (entries_of values keys slots) ≡ writes_of values keys slots

-- each key of the touches at its first place
abbrev pub touched_first : {E : Type 0} → List (List ℕ × Change E) → List (List ℕ)
touched_first ts = firsts bytes_eq (map (λ t. t.0) ts)

-- each slot is that at its place among these, if it has one and there is one
abbrev pub AreFound : {A : Type 0} → (A → A → Bool) → List (Slot A) → List (Option ℕ) → List (Slot A) → Type 0
AreFound {A} same slots places found =
    (i p : ℕ) (s t : Slot A) → slice_get places i ≡ Some (Some p) → slice_get slots p ≡ Some s → slice_get found i ≡ Some t → SameSlot same t s

-- these operations make the log too long, or want of memory
abbrev pub AppendFails : LogView AnyOp → ℕ → List AnyOp → ReportFault → Type 0
AppendFails log i all (Full j) = (j ≡ i) × (2 ^ 62 < log.front + length all)
AppendFails log i all OutOfMemory = ⊤
AppendFails log i all (Rejected j r) = ⊥
AppendFails log i all (BadLog location) = ⊥
AppendFails log i all (BadValue location) = ⊥

-- why a batch with these operations behind the log isn't sealed: they make the log too long, or want of memory
abbrev pub SealFails : LogView AnyOp → List AnyOp → ManagedFault → Type 0
SealFails log ops ManagedMemory = ⊤
SealFails log ops (ManagedLog fault) = (fault ≡ LogFull (log_size log)) × (2 ^ 62 < log_size log + length ops)
SealFails log ops (StaleRead size root) = ⊥
SealFails log ops (StaleBatch size root) = ⊥

-- what a block answers where its batch isn't sealed
abbrev pub seal_fault : ℕ → ManagedFault → ReportFault
seal_fault i (ManagedLog fault) = Full i
seal_fault i fault = OutOfMemory

-- why a body has no slots
abbrev pub SlotsFail : {A E : Type 0} → Rules A E → (List ℕ → A) → List (List ℕ × Change E) → PlanFault (List ℕ) → Type 0
SlotsFail rules opening ts (PlanRejected r) = IsSumOffence bytes_eq ts r ⊎ (IsWithinSums bytes_eq ts × HasFirstOffence bytes_eq rules opening ts r)
SlotsFail rules opening ts PlanOutOfMemory = ⊤

module _ {T A E : Type 0} (m : Meaning T A E) where
  -- the block is a body that doesn't settle, with this offence
  abbrev pub BodyOffends : List AnyOp → Block T → Rejection (List ℕ) → Type 0
  BodyOffends ops (Body batch) r = IsOffence m ops batch r
  BodyOffends ops (Rounds rounds) r = ⊥

  -- a body doesn't settle, with this offence, or it does and its operations make the log too long, or want of memory
  abbrev pub BodyFails : LogView AnyOp → ℕ → List T → ReportFault → Type 0
  BodyFails log i batch (Rejected j r) = (j ≡ i) × IsOffence m log.ops batch r
  BodyFails log i batch (Full j) = (j ≡ i) × IsSettled m log.ops batch × (2 ^ 62 < log.front + length (grown m log.front log.ops batch))
  BodyFails log i batch OutOfMemory = ⊤
  BodyFails log i batch (BadLog location) = ⊥
  BodyFails log i batch (BadValue location) = ⊥

  -- why a block, at place i, doesn't settle on a log
  abbrev pub BlockFails : LogView AnyOp → ℕ → Block T → ReportFault → Type 0
  BlockFails log i block (Rejected j r) = (j ≡ i) × BodyOffends log.ops block r
  BlockFails log i block (Full j) = (j ≡ i) × ((v : BlockVerdicts) × Settles m log.ops block v × (2 ^ 62 < log.front + length (grown m log.front log.ops (batch_of block v))))
  BlockFails log i block OutOfMemory = ⊤
  BlockFails log i block (BadLog location) = ⊥
  BlockFails log i block (BadValue location) = ⊥

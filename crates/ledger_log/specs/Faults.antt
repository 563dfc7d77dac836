use Rattle.std.specs.Prelude.{ℕ, ◌+◌, ◌-◌, ◌^◌, if◌then◌else◌, nat_eq, nat_lt, nat_le, List, length, count_ones, Option, Some, None}
use Rattle.ledger_log.specs.View.{LogView, log_size, log_floor, last_floor, batch_floor}
use Rattle.ledger_log.specs.declared.fault.LogFault.{LogFault}
use Rattle.ledger_log.specs.declared.fault.LogFault.TheVariants.{NoCommit, FloorOutside, Nodes, Size, Beyond, Pruned, AboveFloor, NotABatch, FloorRegressed, FloorBeyond, Full}

-- why a list that begins at `start`, is `size` long with what lies below, and has this last floor is no log
abbrev pub floor_refusal : ℕ → ℕ → Option ℕ → Option LogFault
floor_refusal start size None = Some NoCommit
floor_refusal start size (Some floor) =
    if nat_le start floor then (if nat_lt floor size then None else Some (FloorOutside floor)) else Some (FloorOutside floor)

-- why a log of this size and floor takes no batch of this length and floor
abbrev pub batch_refusal : ℕ → ℕ → ℕ → Option ℕ → Option LogFault
batch_refusal size current count None = Some NotABatch
batch_refusal size current count (Some floor) =
    if nat_lt floor current then Some (FloorRegressed floor current) else
    (if nat_lt (size + count - 1) floor then Some (FloorBeyond floor (size + count - 1)) else
    (if nat_le (size + count) (2 ^ 62) then None else Some (Full size)))

module _ {Op : Type 0} where
  -- why these operations, which begin at `start`, are no log
  abbrev pub ops_refusal : (Op → Option ℕ) → ℕ → List Op → Option LogFault
  ops_refusal floor_of start ops =
      if nat_le (start + length ops) (2 ^ 62) then floor_refusal start (start + length ops) (last_floor floor_of ops) else Some Size

  -- why these parts are no log, without want of memory
  abbrev pub parts_refusal : (Op → Option ℕ) → LogView Op → Option LogFault
  parts_refusal floor_of log =
      if nat_eq (length log.pinned) (count_ones log.front) then ops_refusal floor_of log.front log.ops else Some (Nodes (count_ones log.front))

  -- why this log takes no such batch, without want of memory
  abbrev pub append_refusal : (Op → Option ℕ) → LogView Op → List Op → Option LogFault
  append_refusal floor_of log ops = batch_refusal (log_size log) (log_floor floor_of log) (length ops) (batch_floor floor_of ops)

  -- why it takes no such batches, one behind the other, as one
  abbrev pub batches_refusal : (Op → Option ℕ) → LogView Op → List Op → Option LogFault
  batches_refusal floor_of log ops = batch_refusal (log_size log) (log_floor floor_of log) (length ops) (last_floor floor_of ops)

  -- why there are no operations of this log from `start` on in the tree of the first `count`, without want of memory
  abbrev pub range_refusal : LogView Op → ℕ → ℕ → Option LogFault
  range_refusal log count start =
      if nat_lt (log_size log) count then Some (Beyond (log_size log)) else
      (if nat_lt start log.front then Some (Pruned log.front) else None)

  -- why this log can't begin at this place, without want of memory
  abbrev pub prune_refusal : (Op → Option ℕ) → LogView Op → ℕ → Option LogFault
  prune_refusal floor_of log loc = if nat_lt (log_floor floor_of log) loc then Some (AboveFloor (log_floor floor_of log)) else None

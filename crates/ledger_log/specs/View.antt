use Rattle.std.specs.Prelude.{◌≡◌, ◌≤◌, ℕ, ◌+◌, ◌-◌, cond, max, List, [], ◌∷◌, length, map, take, drop, Option, Some, None, is_some}
use Rattle.std.specs.List.{last_or, filter_map}
use Rattle.std.specs.Str.{bytes_eq}
use Rattle.ledger_merkle.specs.Tree.{grow, root}
use Rattle.ledger_merkle.specs.Leaves.{ListView, leaves_from}
use Rattle.ledger_merkle.specs.Levels.{proof_digests}

-- a log: its first retained place, the peaks there, and the operations from there on
pub record LogView (Op : Type 0) : Type 0 where
  pub front : ℕ
  pub pinned : List (List ℕ)
  pub ops : List Op

-- the number, or 0 where there is none
abbrev pub floor_or_zero : Option ℕ → ℕ
floor_or_zero None = 0
floor_or_zero (Some floor) = floor

-- the key of a write
abbrev pub key_written : Option (List ℕ × Option (List ℕ)) → Option (List ℕ)
key_written None = None
key_written (Some (key, value)) = Some key

-- the value that a write leaves, None of a deletion
abbrev pub value_written : Option (List ℕ × Option (List ℕ)) → Option (List ℕ)
value_written None = None
value_written (Some (key, value)) = value

-- what a write leaves at the key, None where it is no write of this key
abbrev pub written_at : List ℕ → Option (List ℕ × Option (List ℕ)) → Option (Option (List ℕ))
written_at key None = None
written_at key (Some (k, value)) = cond (bytes_eq k key) (Some value) None

-- the value of the last write, None where there is none
abbrev pub value_or_none : Option (Option (List ℕ)) → Option (List ℕ)
value_or_none None = None
value_or_none (Some value) = value

module _ {Op : Type 0} where
  -- the number of operations, with those below the front
  abbrev pub log_size : LogView Op → ℕ
  log_size log = log.front + length log.ops

  -- the floors of the commits in order
  abbrev pub floors : (Op → Option ℕ) → List Op → List ℕ
  floors floor_of ops = filter_map floor_of ops

  -- the floor of the last commit
  abbrev pub last_floor : (Op → Option ℕ) → List Op → Option ℕ
  last_floor floor_of [] = None
  last_floor floor_of (x ∷ []) = floor_of x
  last_floor floor_of (x ∷ y ∷ ys) = last_floor floor_of (y ∷ ys)

  -- the floor of a log, which is that of its last commit
  abbrev pub log_floor : (Op → Option ℕ) → LogView Op → ℕ
  log_floor floor_of log = floor_or_zero (last_floor floor_of log.ops)

  -- the floor of a batch: of its last operation, where that is its one commit
  abbrev pub batch_floor : (Op → Option ℕ) → List Op → Option ℕ
  batch_floor floor_of [] = None
  batch_floor floor_of (x ∷ []) = floor_of x
  batch_floor floor_of (x ∷ y ∷ ys) = cond (is_some (floor_of x)) None (batch_floor floor_of (y ∷ ys))

  -- the root over all operations
  abbrev pub log_root : (List ℕ → List ℕ) → (Op → List ℕ) → LogView Op → List ℕ
  log_root hash spelling log = root hash (log_size log) (grow hash log.front log.pinned (map spelling log.ops))

  -- the value of the key's last write, None where there is none or it is a deletion
  abbrev pub value_at : (Op → Option (List ℕ × Option (List ℕ))) → List ℕ → List Op → Option (List ℕ)
  value_at write_of key ops = value_or_none (last_or None (filter_map (λ op. written_at key (write_of op)) ops))

  -- the list of a log's leaves
  abbrev pub log_list : (List ℕ → List ℕ) → (Op → List ℕ) → LogView Op → ListView
  log_list hash spelling log = record { front = log.front; pinned = log.pinned; leaves = leaves_from hash log.front (map spelling log.ops) }

  -- the peaks of the first `at` operations
  abbrev pub log_peaks_at : (List ℕ → List ℕ) → (Op → List ℕ) → LogView Op → ℕ → List (List ℕ)
  log_peaks_at hash spelling log at = grow hash log.front log.pinned (map spelling (take (at - log.front) log.ops))

  -- the root of the first `at` operations
  abbrev pub log_root_at : (List ℕ → List ℕ) → (Op → List ℕ) → LogView Op → ℕ → List ℕ
  log_root_at hash spelling log at = root hash at (log_peaks_at hash spelling log at)

  -- `count` operations from `start` on
  abbrev pub log_range : LogView Op → ℕ → ℕ → List Op
  log_range log start count = take count (drop (start - log.front) log.ops)

  -- the log without the operations below the greater of its front and `loc`
  abbrev pub pruned : (List ℕ → List ℕ) → (Op → List ℕ) → LogView Op → ℕ → LogView Op
  pruned hash spelling log loc =
      record { front = max log.front loc; pinned = log_peaks_at hash spelling log (max log.front loc); ops = drop (max log.front loc - log.front) log.ops }

-- from its new front on a log has the pinned nodes, the operations of each range and their proofs that it had before
pub record KeptAbove {Op : Type 0} (hash : List ℕ → List ℕ) (spelling : Op → List ℕ) (before now : LogView Op) : Type 0 where
  pub nodes : (at : ℕ) → now.front ≤ at → at ≤ log_size before → log_peaks_at hash spelling now at ≡ log_peaks_at hash spelling before at
  pub ranges : (start count : ℕ) → now.front ≤ start → log_range now start count ≡ log_range before start count
  pub proofs : (n start count : ℕ) → now.front ≤ start → start + count ≤ n → n ≤ log_size before →
      proof_digests hash (log_list hash spelling now) n start count ≡ proof_digests hash (log_list hash spelling before) n start count

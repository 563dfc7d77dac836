-- Targets of full databases.
use Rattle.std.specs.Prelude.{◌≡◌, ◌&&◌, ℕ, Bool, nat_eq, bytes_eq, List, Option, refl}
use Rattle.std.proofs.lemmas.Bool.{ltb-true}
use Rattle.ledger_log.specs.View.{LogView, log_size, log_root, log_floor, floor_or_zero, batch_floor}
use Rattle.ledger_log.specs.declared.target.Target.{Target}
use Rattle.ledger_log.specs.declared.target.CompactTarget.{CompactTarget}
use Rattle.ledger_compact.specs.View.{fresh_log}
use Rattle.ledger_chain.specs.Chain.{LinkView}

module _ {Op : Type 0} (hash : List ℕ → List ℕ) (spelling : Op → List ℕ) where
  -- the target is the log's own: its root, and its places from the floor on
  pub record IsTargetOf (floor_of : Op → Option ℕ) (log : LogView Op) (target : Target) : Type 0 where
    pub root : target.root ≡ log_root hash spelling log
    pub start : target.start ≡ log_floor floor_of log
    pub end : target.end ≡ log_size log

  -- the target of a fresh log: its root, and its one place
  abbrev pub initial_target : (Option (List ℕ) → ℕ → Op) → Target
  initial_target commit_of = record { root = log_root hash spelling (fresh_log commit_of); start = 0; end = 1; ordered = ltb-true 0 1 refl }

-- a log with this sealed batch as its last has this target: its root over all operations, its floor and its size
abbrev pub has_target : {Op : Type 0} → (Op → Option ℕ) → LinkView Op → Target → Bool
has_target floor_of link target = bytes_eq link.after.root target.root && nat_eq (floor_or_zero (batch_floor floor_of link.ops)) target.start && nat_eq link.after.size target.end

-- the target of a fresh log without its operations: its root, and its size
abbrev pub initial_compact_target : {Op : Type 0} → (List ℕ → List ℕ) → (Op → List ℕ) → (Option (List ℕ) → ℕ → Op) → CompactTarget
initial_compact_target hash spelling commit_of = record { root = log_root hash spelling (fresh_log commit_of); leaf_count = 1 }

-- a log with this sealed batch as its last has this target: its root over all operations, and its size
abbrev pub has_compact_target : {Op : Type 0} → LinkView Op → CompactTarget → Bool
has_compact_target link target = bytes_eq link.after.root target.root && nat_eq link.after.size target.leaf_count

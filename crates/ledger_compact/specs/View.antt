use Rattle.std.specs.Prelude.{ℕ, ◌+◌, ◌-◌, List, [], ◌∷◌, ◌++◌, length, map, take, Option, None, option_map, unwrap_or}
use Rattle.std.specs.List.{last_or}
use Rattle.ledger_merkle.specs.Tree.{grow, root}
use Rattle.ledger_log.specs.View.{LogView, log_size}
use Rattle.ledger_log.specs.declared.target.CompactTarget.{CompactTarget}
use Rattle.ledger_log.specs.declared.target.CompactState.{CompactState}

-- a log without its operations: its size, its peaks, the peaks before its last operation, and that operation
pub record CompactView (Op : Type 0) : Type 0 where
  pub size : ℕ
  pub nodes : List (List ℕ)
  pub before : List (List ℕ)
  pub last : Op

module _ {Op : Type 0} where
  -- the last operation
  abbrev pub last_op : List Op → Option Op
  last_op ops = last_or None ops

  -- the operations before the last one
  abbrev pub but_last : List Op → List Op
  but_last ops = take (length ops - 1) ops

  -- what is kept of a log with this last operation
  abbrev pub kept_of : (List ℕ → List ℕ) → (Op → List ℕ) → LogView Op → Op → CompactView Op
  kept_of hash spelling log last = record {
    size = log_size log;
    nodes = grow hash log.front log.pinned (map spelling log.ops);
    before = grow hash log.front log.pinned (map spelling (but_last log.ops));
    last = last;
  }

  -- what is kept of a log, None where it retains no operation
  abbrev pub compact_of : (List ℕ → List ℕ) → (Op → List ℕ) → LogView Op → Option (CompactView Op)
  compact_of hash spelling log = option_map (kept_of hash spelling log) (last_op log.ops)

  -- the compact log with this batch appended
  abbrev pub with_batch : (List ℕ → List ℕ) → (Op → List ℕ) → CompactView Op → List Op → CompactView Op
  with_batch hash spelling log ops = record {
    size = log.size + length ops;
    nodes = grow hash log.size log.nodes (map spelling ops);
    before = grow hash log.size log.nodes (map spelling (but_last ops));
    last = unwrap_or (last_op ops) log.last;
  }

  -- the log with this batch appended
  abbrev pub with_ops : LogView Op → List Op → LogView Op
  with_ops log ops = record { front = log.front; pinned = log.pinned; ops = log.ops ++ ops }

  -- the root of a compact log
  abbrev pub compact_root : (List ℕ → List ℕ) → CompactView Op → List ℕ
  compact_root hash log = root hash log.size log.nodes

  -- what a client is told to sync to
  abbrev pub target_of : (List ℕ → List ℕ) → CompactView Op → CompactTarget
  target_of hash log = record { root = compact_root hash log; leaf_count = log.size }

  -- what a client is sent: the last operation is proved by the peaks before it
  abbrev pub state_of : CompactView Op → CompactState Op
  state_of log = record {
    leaf_count = log.size;
    pinned_nodes = log.nodes;
    last_commit_op = log.last;
    last_commit_proof = record { leaves = log.size; inactive_peaks = 0; digests = log.before };
  }

  -- the compact log that a state describes
  abbrev pub view_of : CompactState Op → CompactView Op
  view_of state = record { size = state.leaf_count; nodes = state.pinned_nodes; before = state.last_commit_proof.digests; last = state.last_commit_op }

-- a log of one commit, without metadata and with floor 0
abbrev pub fresh_log : {Op : Type 0} → (Option (List ℕ) → ℕ → Op) → LogView Op
fresh_log commit_of = record { front = 0; pinned = []; ops = commit_of None 0 ∷ [] }

use Rattle.std.specs.Prelude.{ℕ, ◌-◌, Bool, ◌&&◌, if◌then◌else◌, nat_eq, nat_lt, List, [], ◌∷◌, length, count_ones, Option, Some, None}
use Rattle.std.specs.Str.{bytes_eq}
use Rattle.ledger_merkle.specs.Tree.{root}
use Rattle.ledger_merkle.specs.Range.{needed, range_root}
use Rattle.ledger_merkle.specs.declared.proof.Proof.{Proof}
use Rattle.ledger_log.specs.View.{floor_or_zero, batch_floor}
use Rattle.ledger_log.specs.Faults.{batch_refusal}
use Rattle.ledger_log.specs.declared.fault.LogFault.{LogFault}
use Rattle.ledger_log.specs.declared.fault.LogFault.TheVariants.{NoCommit, FloorOutside, Nodes, Size, WrongRoot, BadCommitProof}
use Rattle.ledger_log.specs.declared.target.CompactTarget.{CompactTarget}
use Rattle.ledger_log.specs.declared.target.CompactState.{CompactState}
use Rattle.ledger_compact.specs.View.{CompactView}

-- these bytes are the last of n leaves under this root, by this proof
abbrev pub proves_last : (List ℕ → List ℕ) → List ℕ → ℕ → List ℕ → Proof → Bool
proves_last hash the_root n bytes proof =
    nat_eq proof.leaves n && nat_eq proof.inactive_peaks 0 && nat_eq (length proof.digests) (needed n (n - 1) 1)
    && bytes_eq (range_root hash n (n - 1) (bytes ∷ []) proof.digests) the_root

-- why an operation with this floor is no last commit of a log of this size
abbrev pub commit_refusal : Bool → ℕ → Option ℕ → Option LogFault
commit_refusal proved size None = Some NoCommit
commit_refusal proved size (Some floor) =
    if proved then (if nat_lt floor size then None else Some (FloorOutside floor)) else Some BadCommitProof

module _ {Op : Type 0} where
  -- why this compact log takes no such batch, without want of memory: as a log of its size and floor
  abbrev pub compact_refusal : (Op → Option ℕ) → CompactView Op → List Op → Option LogFault
  compact_refusal floor_of log ops = batch_refusal log.size (floor_or_zero (floor_of log.last)) (length ops) (batch_floor floor_of ops)

  -- why this state is no compact log with this target, without want of memory
  abbrev pub state_refusal : (List ℕ → List ℕ) → (Op → List ℕ) → (Op → Option ℕ) → CompactTarget → CompactState Op → Option LogFault
  state_refusal hash spelling floor_of target state =
      if nat_eq state.leaf_count target.leaf_count && nat_lt 0 state.leaf_count then
      (if nat_eq (length state.pinned_nodes) (count_ones state.leaf_count) then
      (if bytes_eq (root hash state.leaf_count state.pinned_nodes) target.root then
      commit_refusal (proves_last hash target.root state.leaf_count (spelling state.last_commit_op) state.last_commit_proof) state.leaf_count (floor_of state.last_commit_op)
      else Some (WrongRoot (root hash state.leaf_count state.pinned_nodes)))
      else Some (Nodes (count_ones state.leaf_count)))
      else Some Size

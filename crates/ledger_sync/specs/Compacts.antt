-- What came of fetching a compact target and its state, and the compact log that was made of it.
use Rattle.std.specs.Prelude.{◌≡◌, ◌⊎◌, ◌≤◌, ℕ, List, Option, Result, Ok, Err}
use Rattle.ledger_codec.specs.Parsing.{Parsed}
use Rattle.ledger_compact.specs.View.{CompactView, compact_root}
use Rattle.ledger_log.specs.declared.target.CompactTarget.{CompactTarget}
use Rattle.sync_net.specs.View.{MachineView}
use Rattle.sync_net.specs.Wire.{Wire}
use Rattle.sync_fetch.specs.declared.fault.StateFault.{StateFault}
use Rattle.sync_fetch.specs.declared.fault.StateFault.TheVariants.{Fetch, WrongState}
use Rattle.sync_fetch.specs.States.{CompactFetched}
use Rattle.sync_fetch.specs.Told.{CompactTargetFetched}

module _ {Op : Type 0} where
  -- A compact target was fetched, and then the fetch of the compact log for it ended so.
  pub record StateEnded (hash : List ℕ → List ℕ) (spelling : Op → List ℕ) (floor_of : Op → Option ℕ) (result : Result (CompactView Op) StateFault) (read : List ℕ → Parsed Op) (written : Op → List ℕ) (m n : MachineView) (before now : Option Wire) (count risen : ℕ) : Type 0 where
    pub target : CompactTarget
    pub machine : MachineView
    pub wire : Option Wire
    pub faults_then : ℕ
    pub fetched : CompactTargetFetched (Ok target) read written m machine before wire count faults_then
    pub later : count ≤ faults_then
    pub ended : CompactFetched hash spelling floor_of target result read written machine n wire now faults_then risen

  -- The compact log of the state that was fetched for the served target, with its root and size; or why there is none: that state is refused so, or no target or no state came.
  abbrev pub CompactLogFetched : (List ℕ → List ℕ) → (Op → List ℕ) → (Op → Option ℕ) → Result (CompactView Op) StateFault → (List ℕ → Parsed Op) → (Op → List ℕ) → MachineView → MachineView → Option Wire → Option Wire → ℕ → ℕ → Type 0
  CompactLogFetched hash spelling floor_of (Ok log) read written m n before now count risen = (e : StateEnded hash spelling floor_of (Ok log) read written m n before now count risen) × (compact_root hash log ≡ e.target.root) × (log.size ≡ e.target.leaf_count)
  CompactLogFetched hash spelling floor_of (Err (WrongState fault)) read written m n before now count risen = StateEnded hash spelling floor_of (Err (WrongState fault)) read written m n before now count risen
  CompactLogFetched hash spelling floor_of (Err (Fetch fault)) read written m n before now count risen =
      CompactTargetFetched {Op = Op} (Err fault) read written m n before now count risen ⊎ StateEnded hash spelling floor_of (Err (Fetch fault)) read written m n before now count risen

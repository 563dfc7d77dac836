-- A compact log that was fetched.
use Rattle.std.proofs.Common.{◌≡◌, ◌≤◌, ℕ, List, [], Option, Result, Ok, Err, ◌∙◌, inl, inr}
use Rattle.ledger_codec.specs.Parsing.{Parsed}
use Rattle.ledger_compact.specs.View.{CompactView}
use Rattle.ledger_log.specs.declared.target.CompactTarget.{CompactTarget}
use Rattle.sync_net.specs.View.{MachineView}
use Rattle.sync_net.specs.Wire.{Wire}
use Rattle.sync_client.specs.declared.fault.SyncFault.{SyncFault}
use Rattle.sync_client.specs.declared.fault.SyncFault.TheVariants as faults
use Rattle.sync_client.specs.Counts.{CountKept, NeverNetwork}
use Rattle.sync_fetch.specs.States.{CompactFetched, KeptUnlessNetwork, KeptAndNoNetwork}
use Rattle.sync_fetch.specs.Told.{CompactTargetFetched}
use Rattle.sync_fetch.specs.declared.fault.StateFault.{StateFault}
use Rattle.sync_fetch.specs.declared.fault.StateFault.TheVariants.{Fetch, WrongState}
use Rattle.ledger_sync.specs.Compacts.{StateEnded, CompactLogFetched}

-- after a compact target nothing is pending
pub nothing_pending : {Op : Type 0} (target : CompactTarget) (read : List ℕ → Parsed Op) (written : Op → List ℕ) (m n : MachineView) (before now : Option Wire) (count risen : ℕ) → CompactTargetFetched (Ok target) read written m n before now count risen → n.pending ≡ []
nothing_pending target read written m n before now count risen (r, e, (live, number, next, came)) = came.nothing_pending

module _ {Op : Type 0} (hash : List ℕ → List ℕ) (spelling : Op → List ℕ) (floor_of : Op → Option ℕ) (read : List ℕ → Parsed Op) (written : Op → List ℕ) (m mid n : MachineView) (before between now : Option Wire) (count middle risen : ℕ) (target : CompactTarget) (h : CompactTargetFetched (Ok target) read written m mid before between count middle) (le : count ≤ middle) where
  -- the fetch for the target ended so
  abbrev pub ended_so : (result : Result (CompactView Op) StateFault) → CompactFetched hash spelling floor_of target result read written mid n between now middle risen → StateEnded hash spelling floor_of result read written m n before now count risen
  ended_so result e = record { target = target; machine = mid; wire = between; faults_then = middle; fetched = h; later = le; ended = e }

  pub refused_so : (fault : StateFault) → CompactFetched hash spelling floor_of target (Err fault) read written mid n between now middle risen → CompactLogFetched hash spelling floor_of (Err fault) read written m n before now count risen
  refused_so (WrongState fault) e = ended_so (Err (WrongState fault)) e
  refused_so (Fetch fault) e = inr (ended_so (Err (Fetch fault)) e)

-- ---- the count

pub kept_then : (X Y : Type 0) (fault : StateFault) (a b c : ℕ) → b ≡ a → KeptUnlessNetwork {X = X} (Err fault) b c → KeptUnlessNetwork {X = Y} (Err fault) a c
kept_then X Y (WrongState fault) a b c e k = k ∙ e
kept_then X Y (Fetch faults.Network) a b c e k = tt
kept_then X Y (Fetch faults.RequestChannelClosed) a b c e k = k ∙ e
kept_then X Y (Fetch faults.InvalidResponse) a b c e k = k ∙ e
kept_then X Y (Fetch (faults.UnexpectedResponse number)) a b c e k = k ∙ e
kept_then X Y (Fetch (faults.Server code text)) a b c e k = k ∙ e
kept_then X Y (Fetch (faults.InvalidProof number)) a b c e k = k ∙ e
kept_then X Y (Fetch faults.TooManyStrays) a b c e k = k ∙ e
kept_then X Y (Fetch (faults.StaleUpdate start end)) a b c e k = k ∙ e
kept_then X Y (Fetch (faults.WrongRoot found)) a b c e k = k ∙ e
kept_then X Y (Fetch faults.Closed) a b c e k = k ∙ e
kept_then X Y (Fetch faults.Exhausted) a b c e k = k ∙ e
kept_then X Y (Fetch faults.OutOfMemory) a b c e k = k ∙ e

pub steady_then : (X Y : Type 0) (fault : StateFault) (a b c : ℕ) → b ≡ a → KeptAndNoNetwork {X = X} (Err fault) b c → KeptAndNoNetwork {X = Y} (Err fault) a c
steady_then X Y (WrongState fault) a b c e k = k ∙ e
steady_then X Y (Fetch faults.Network) a b c e k = absurd k
steady_then X Y (Fetch faults.RequestChannelClosed) a b c e k = k ∙ e
steady_then X Y (Fetch faults.InvalidResponse) a b c e k = k ∙ e
steady_then X Y (Fetch (faults.UnexpectedResponse number)) a b c e k = k ∙ e
steady_then X Y (Fetch (faults.Server code text)) a b c e k = k ∙ e
steady_then X Y (Fetch (faults.InvalidProof number)) a b c e k = k ∙ e
steady_then X Y (Fetch faults.TooManyStrays) a b c e k = k ∙ e
steady_then X Y (Fetch (faults.StaleUpdate start end)) a b c e k = k ∙ e
steady_then X Y (Fetch (faults.WrongRoot found)) a b c e k = k ∙ e
steady_then X Y (Fetch faults.Closed) a b c e k = k ∙ e
steady_then X Y (Fetch faults.Exhausted) a b c e k = k ∙ e
steady_then X Y (Fetch faults.OutOfMemory) a b c e k = k ∙ e

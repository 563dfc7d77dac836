-- A part that was fetched and opened.
use Rattle.std.proofs.Common.{◌≡◌, ◌≤◌, ℕ, List, [], Option, Ok, Err, sym, subst, ◌∙◌, inr}
use Rattle.ledger_codec.specs.Parsing.{Parsed}
use Rattle.ledger_merkle.specs.declared.proof.Part.{Part as Fetched}
use Rattle.ledger_log.specs.declared.target.Target.{Target}
use Rattle.sync_net.specs.View.{MachineView}
use Rattle.sync_net.specs.Wire.{Wire}
use Rattle.sync_client.specs.declared.fault.SyncFault.{SyncFault}
use Rattle.sync_client.specs.declared.fault.SyncFault.TheVariants as faults
use Rattle.sync_client.specs.declared.hashed.HashedPart.{HashedPart}
use Rattle.sync_client.specs.Asking.{LimitsView}
use Rattle.sync_client.specs.Counts.{CountKept, NeverNetwork}
use Rattle.sync_client.specs.Ending.{origin_of, Ended}
use Rattle.sync_client.specs.Parts.{IsPartOf, synced_part}
use Rattle.sync_client.specs.Updates.{TakesUpdates}
use Rattle.sync_fetch.specs.declared.fault.StateFault.{StateFault}
use Rattle.sync_fetch.specs.declared.fault.StateFault.TheVariants.{Fetch, WrongState}
use Rattle.sync_fetch.specs.States.{KeptUnlessNetwork, KeptAndNoNetwork}
use Rattle.sync_fetch.specs.Told.{TargetFetched}
use Rattle.ledger_sync.specs.Logs.{SessionEnded, PartFetched, Opened, LogFetched}

-- after a target nothing is pending
pub nothing_pending : {Op : Type 0} (target : Target) (read : List ℕ → Parsed Op) (written : Op → List ℕ) (m n : MachineView) (before now : Option Wire) (count risen : ℕ) → TargetFetched (Ok target) read written m n before now count risen → n.pending ≡ []
nothing_pending target read written m n before now count risen (r, e, (live, number, next, came)) = came.nothing_pending

module _ {Op : Type 0} (spelling : Op → List ℕ) (limits : LimitsView) (read : List ℕ → Parsed Op) (written : Op → List ℕ) (m mid n : MachineView) (before between now : Option Wire) (count middle risen : ℕ) (target : Target) (h : TargetFetched (Ok target) read written m mid before between count middle) (le : count ≤ middle) where
  -- the session for the fetched target gave this part
  abbrev pub part_so : (x : Target × HashedPart Op) → Ended (synced_part {E = SyncFault} (Ok x)) (origin_of read written spelling target [] limits mid between middle) n [] now risen → TakesUpdates {X = HashedPart Op} (Ok x) target [] [] → IsPartOf spelling x.0 x.1.part → PartFetched spelling limits read written m n before now count risen
  part_so x ended took whole = record {
    synced = x.0;
    part = x.1.part;
    session = record { target = target; machine = mid; wire = between; faults_then = middle; fetched = h; later = le; ended = ended };
    took = took;
    whole = whole;
  }

  -- the session for the fetched target gave none
  abbrev pub session_so : (fault : SyncFault) → Ended {Op = Op} (Err fault) (origin_of read written spelling target [] limits mid between middle) n [] now risen → SessionEnded spelling limits (Err fault) read written m n before now count risen
  session_so fault ended = record { target = target; machine = mid; wire = between; faults_then = middle; fetched = h; later = le; ended = ended }

  -- its part isn't opened
  pub unopened : (floor_of : Op → Option ℕ) (p : PartFetched spelling limits read written m n before now count risen) (fault : StateFault) → Opened floor_of p.part (Err fault) → LogFetched spelling floor_of limits (Err fault) read written m n before now count risen
  unopened floor_of p (WrongState fault) o = (p, o)
  unopened floor_of p (Fetch fault) o = inr (inr (p, o))

-- ---- the count

pub kept_then : (X Y : Type 0) (fault : SyncFault) (a b c : ℕ) → b ≡ a → CountKept {X = X} (Err fault) b c → KeptUnlessNetwork {X = Y} (Err (Fetch fault)) a c
kept_then X Y faults.Network a b c e k = tt
kept_then X Y faults.RequestChannelClosed a b c e k = k ∙ e
kept_then X Y faults.InvalidResponse a b c e k = k ∙ e
kept_then X Y (faults.UnexpectedResponse number) a b c e k = k ∙ e
kept_then X Y (faults.Server code text) a b c e k = k ∙ e
kept_then X Y (faults.InvalidProof number) a b c e k = k ∙ e
kept_then X Y faults.TooManyStrays a b c e k = k ∙ e
kept_then X Y (faults.StaleUpdate start end) a b c e k = k ∙ e
kept_then X Y (faults.WrongRoot found) a b c e k = k ∙ e
kept_then X Y faults.Closed a b c e k = k ∙ e
kept_then X Y faults.Exhausted a b c e k = k ∙ e
kept_then X Y faults.OutOfMemory a b c e k = k ∙ e

pub steady_then : (X Y : Type 0) (fault : SyncFault) (a b c : ℕ) → b ≡ a → NeverNetwork {X = X} (Err fault) b c → KeptAndNoNetwork {X = Y} (Err (Fetch fault)) a c
steady_then X Y faults.Network a b c e k = absurd k
steady_then X Y faults.RequestChannelClosed a b c e k = k ∙ e
steady_then X Y faults.InvalidResponse a b c e k = k ∙ e
steady_then X Y (faults.UnexpectedResponse number) a b c e k = k ∙ e
steady_then X Y (faults.Server code text) a b c e k = k ∙ e
steady_then X Y (faults.InvalidProof number) a b c e k = k ∙ e
steady_then X Y faults.TooManyStrays a b c e k = k ∙ e
steady_then X Y (faults.StaleUpdate start end) a b c e k = k ∙ e
steady_then X Y (faults.WrongRoot found) a b c e k = k ∙ e
steady_then X Y faults.Closed a b c e k = k ∙ e
steady_then X Y faults.Exhausted a b c e k = k ∙ e
steady_then X Y faults.OutOfMemory a b c e k = k ∙ e

-- memory was wanting for the log, or its part is refused: no call of the link came after the session
pub kept_opened : {Op : Type 0} (X : Type 0) (floor_of : Op → Option ℕ) (part : Fetched Op) (fault : StateFault) (a c : ℕ) → Opened floor_of part (Err fault) → c ≡ a → KeptUnlessNetwork {X = X} (Err fault) a c
kept_opened X floor_of part (WrongState fault) a c o k = k
kept_opened X floor_of part (Fetch fault) a c o k = subst (λ (f : SyncFault). KeptUnlessNetwork {X = X} (Err (Fetch f)) a c) (sym o) k

pub steady_opened : {Op : Type 0} (X : Type 0) (floor_of : Op → Option ℕ) (part : Fetched Op) (fault : StateFault) (a c : ℕ) → Opened floor_of part (Err fault) → c ≡ a → KeptAndNoNetwork {X = X} (Err fault) a c
steady_opened X floor_of part (WrongState fault) a c o k = k
steady_opened X floor_of part (Fetch fault) a c o k = subst (λ (f : SyncFault). KeptAndNoNetwork {X = X} (Err (Fetch f)) a c) (sym o) k

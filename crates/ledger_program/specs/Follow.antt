-- What following a log over a link gives, and why it fails.
use Rattle.std.specs.Prelude.{◌≡◌, ◌⊎◌, ℕ, ◌<◌, ◌≤◌, ◌+◌, ◌-◌, ◌^◌, ◌∷◌, ◌++◌, All, length, false, List, [], Option, Some, Result, Ok, Err, ⊤}
use Rattle.sha2.specs.Sha256.{sha256}
use Rattle.ledger_log.specs.View.{LogView, log_range, log_peaks_at}
use Rattle.ledger_job.specs.declared.block.Block.{Block}
use Rattle.ledger_log.specs.Any.{any_spelling}
use Rattle.ledger_log.specs.Spellings.{any_at}
use Rattle.ledger_log.specs.declared.any.AnyOp.{AnyOp}
use Rattle.ledger_log.specs.declared.target.Target.{Target}
use Rattle.ledger_merkle.specs.declared.proof.Part.{Part as Fetched}
use Rattle.ledger_program.specs.declared.fault.Fault.{Fault}
use Rattle.ledger_program.specs.declared.fault.Fault.TheVariants.{Network, RequestChannelClosed, InvalidResponse, UnexpectedResponse, Server, InvalidProof, TooManyStrays, StaleUpdate, WrongRoot, BadLog, BadValue, Rejected, Full, OutOfMemory}
use Rattle.ledger_job.specs.declared.block.BlockVerdicts.{BlockVerdicts}
use Rattle.ledger_settling.specs.Blocks.{Meaning, IsReadable, RunsTo}
use Rattle.ledger_settling.specs.Faults.{RunFails}
use Rattle.ledger_settling.specs.Reports.{ReportOf, IsWhole}
use Rattle.ledger_settling.specs.declared.fault.ReportFault.{ReportFault}
use Rattle.ledger_settling.specs.declared.fault.ReportFault.TheVariants as causes
use Rattle.ledger_settling.specs.declared.report.Report.{Report}
use Rattle.sync_client.specs.Asking.{LimitsView}
use Rattle.sync_client.specs.Serving.{HasLater}
use Rattle.sync_client.specs.Updates.{AreTaken, IsSynced, IsFresh, last_of, targets_in}
use Rattle.sync_client.specs.Ending.{Origin, origin_of, Finished, Stopped}
use Rattle.sync_client.specs.declared.fault.SyncFault.{SyncFault}
use Rattle.sync_client.specs.declared.fault.SyncFault.TheVariants as sync
use Rattle.sync_net.specs.View.{MachineView}
use Rattle.sync_net.specs.Wire.{Wire}

-- a machine that has asked nothing and holds nothing, with this next number
abbrev pub idle : Option ℕ → MachineView
idle next = record { next = next; pending = []; held = []; closed = false }

-- how the call begins: with these answers on later targets to come, and an idle machine, whose first number is 1
abbrev pub beginning : Target → List (Option Target) → LimitsView → Option Wire → ℕ → Origin AnyOp
beginning target updates limits wire count = origin_of any_at any_spelling any_spelling target updates limits (idle (Some 1)) wire count

-- the session over what the link gave synced this target and made this part of it, and these answers are left
pub record IsFetched (o : Origin AnyOp) (updates : List (Option Target)) (wire : Option Wire) (synced : Target) (part : Fetched AnyOp) : Type 0 where
  pub machine : MachineView
  pub finished : Finished o synced part machine updates wire

-- the session over what the link gave ended with this fault, and these answers are left
pub record IsStopped (o : Origin AnyOp) (updates : List (Option Target)) (wire : Option Wire) (count : ℕ) (fault : SyncFault) : Type 0 where
  pub machine : MachineView
  pub stopped : Stopped o fault machine updates wire count

-- a fault of the session as one of the whole call, which begins with an open machine and its first number
abbrev pub fault_of_sync : SyncFault → Fault
fault_of_sync sync.Network = Network
fault_of_sync sync.RequestChannelClosed = RequestChannelClosed
fault_of_sync sync.InvalidResponse = InvalidResponse
fault_of_sync (sync.UnexpectedResponse number) = UnexpectedResponse number
fault_of_sync (sync.Server code text) = Server code text
fault_of_sync (sync.InvalidProof number) = InvalidProof number
fault_of_sync sync.TooManyStrays = TooManyStrays
fault_of_sync (sync.StaleUpdate start end) = StaleUpdate start end
fault_of_sync (sync.WrongRoot found) = WrongRoot found
fault_of_sync sync.Closed = OutOfMemory
fault_of_sync sync.Exhausted = OutOfMemory
fault_of_sync sync.OutOfMemory = OutOfMemory

-- a fault that a session with an open machine and numbers left may have
abbrev pub MayStop : SyncFault → Type 0
MayStop sync.Closed = ⊥
MayStop sync.Exhausted = ⊥
MayStop fault = ⊤

module _ {T A E : Type 0} (m : Meaning T A E) where
  -- the part that was fetched of the target that was synced, and the report of these blocks over it
  pub record Follows (o : Origin AnyOp) (updates : List (Option Target)) (wire : Option Wire) (blocks : List (Block T)) (report : Report A) : Type 0 where
    pub part : Fetched AnyOp
    pub fetched : IsFetched o updates wire report.target part
    pub pinned : report.pinned ≡ part.pinned
    pub kept : report.kept ≡ part.ops
    pub report_is : ReportOf m report.target blocks report

  -- the part that was fetched of the target that was synced, over which these blocks have no report, for this cause
  pub record HasNoReport (o : Origin AnyOp) (updates : List (Option Target)) (wire : Option Wire) (blocks : List (Block T)) (cause : ReportFault) : Type 0 where
    pub synced : Target
    pub part : Fetched AnyOp
    pub fetched : IsFetched o updates wire synced part
    pub fails : RunFails m synced part.ops blocks cause

  -- why a log wasn't followed: the first offence of the session, or else why its part and the blocks have no report
  abbrev pub FollowFails : Origin AnyOp → List (Option Target) → Option Wire → ℕ → List (Block T) → Fault → Type 0
  FollowFails o updates wire count blocks Network = IsStopped o updates wire count sync.Network
  FollowFails o updates wire count blocks RequestChannelClosed = IsStopped o updates wire count sync.RequestChannelClosed
  FollowFails o updates wire count blocks InvalidResponse = IsStopped o updates wire count sync.InvalidResponse
  FollowFails o updates wire count blocks (UnexpectedResponse number) = IsStopped o updates wire count (sync.UnexpectedResponse number)
  FollowFails o updates wire count blocks (Server code text) = IsStopped o updates wire count (sync.Server code text)
  FollowFails o updates wire count blocks (InvalidProof number) = IsStopped o updates wire count (sync.InvalidProof number)
  FollowFails o updates wire count blocks TooManyStrays = IsStopped o updates wire count sync.TooManyStrays
  FollowFails o updates wire count blocks (StaleUpdate start end) = IsStopped o updates wire count (sync.StaleUpdate start end)
  FollowFails o updates wire count blocks (WrongRoot found) = IsStopped o updates wire count (sync.WrongRoot found)
  FollowFails o updates wire count blocks (BadLog location) = HasNoReport o updates wire blocks (causes.BadLog location)
  FollowFails o updates wire count blocks (BadValue location) = HasNoReport o updates wire blocks (causes.BadValue location)
  FollowFails o updates wire count blocks (Rejected block rejection) = HasNoReport o updates wire blocks (causes.Rejected block rejection)
  FollowFails o updates wire count blocks (Full block) = HasNoReport o updates wire blocks (causes.Full block)
  FollowFails o updates wire count blocks OutOfMemory = IsStopped o updates wire count sync.OutOfMemory ⊎ HasNoReport o updates wire blocks causes.OutOfMemory

-- What a call took off the list of answers on later targets. The report's target is that of the last one taken; a target is refused as stale exactly after all that were taken.
abbrev pub TakesLater : {A : Type 0} → Result (Report A) Fault → Target → List (Option Target) → List (Option Target) → Type 0
TakesLater (Ok report) target before now = (took : List (Option Target)) × AreTaken target took before now × IsSynced target (last_of target (targets_in took)) report.target
TakesLater (Err (StaleUpdate start end)) target before now =
    (took : List (Option Target)) × (stale : Target) × AreTaken target took before (Some stale ∷ now) × (length (targets_in took) < 8)
    × (IsFresh (last_of target (targets_in took)) stale → ⊥) × (start ≡ stale.start) × (end ≡ stale.end)
TakesLater (Err fault) target before now = (took : List (Option Target)) × AreTaken target took before now

-- the answers on later targets that a call took off the list; the log has each target among them, each fresh after the one before it; and this target has the first start, and the root and end of the last one
pub record Foretold (log : LogView AnyOp) (target : Target) (before now : List (Option Target)) (synced : Target) : Type 0 where
  pub took : List (Option Target)
  pub all : before ≡ took ++ now
  pub later : HasLater any_spelling log target (targets_in took)
  pub synced_is : IsSynced target (last_of target (targets_in took)) synced

-- the operations of the target's range
abbrev pub range_in : LogView AnyOp → Target → List AnyOp
range_in log target = log_range log target.start (target.end - target.start)

module _ {T A E : Type 0} (m : Meaning T A E) where
  -- Over a link that serves this log what was fetched is the log's own range of the synced target: its operations, and its nodes where they begin. Without a report a call of the link failed, memory was wanting, or the log's own operations and the blocks have none.
  abbrev pub FollowsLog : LogView AnyOp → Target → List (Block T) → Result (Report A) Fault → Type 0
  FollowsLog log target blocks (Ok report) = IsSynced target target report.target × (report.kept ≡ range_in log target) × (report.pinned ≡ log_peaks_at sha256 any_spelling log target.start)
  FollowsLog log target blocks (Err (BadLog location)) = RunFails m target (range_in log target) blocks (causes.BadLog location)
  FollowsLog log target blocks (Err (BadValue location)) = RunFails m target (range_in log target) blocks (causes.BadValue location)
  FollowsLog log target blocks (Err (Rejected block rejection)) = RunFails m target (range_in log target) blocks (causes.Rejected block rejection)
  FollowsLog log target blocks (Err (Full block)) = RunFails m target (range_in log target) blocks (causes.Full block)
  FollowsLog log target blocks (Err Network) = ⊤
  FollowsLog log target blocks (Err OutOfMemory) = ⊤
  FollowsLog log target blocks (Err fault) = ⊥

-- The input is valid over this log: the target's range ends in a commit of its own, each value in it is an account, and the blocks settle, one after another, with room for what they append.
pub record IsValid {T A E : Type 0} (m : Meaning T A E) (log : LogView AnyOp) (target : Target) (blocks : List (Block T)) : Type 0 where
  pub whole : IsWhole target.start (range_in log target)
  pub readable : All (IsReadable m.values) (range_in log target)
  pub verdicts : List BlockVerdicts
  pub all : List AnyOp
  pub runs : RunsTo m target.start (range_in log target) blocks verdicts all
  pub room : target.start + length all ≤ 2 ^ 62

-- each answer but Network and want of memory leaves the link's count
abbrev pub LeavesCount : {X : Type 0} → Result X Fault → ℕ → ℕ → Type 0
LeavesCount (Err Network) before now = ⊤
LeavesCount (Err OutOfMemory) before now = ⊤
LeavesCount result before now = now ≡ before

-- the count stays, and Network isn't answered
abbrev pub IsSteady : {X : Type 0} → Result X Fault → ℕ → ℕ → Type 0
IsSteady (Err Network) before now = ⊥
IsSteady result before now = now ≡ before

-- Network isn't answered
abbrev pub IsCalm : {X : Type 0} → Result X Fault → Type 0
IsCalm (Err Network) = ⊥
IsCalm result = ⊤

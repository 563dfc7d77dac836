-- What a followed log's session and report answer, as what the whole call does.
use Rattle.std.proofs.Common.{◌≡◌, ℕ, ◌-◌, ◌≤◌, ◌++◌, inl, inr, List, All, Option, Some, Result, Ok, Err, length, take, refl, sym, ap, ◌∙◌, subst, arith, length-append}
use Rattle.std.proofs.lemmas.List.{take_at}
use Rattle.ledger_job.specs.declared.block.Block.{Block}
use Rattle.ledger_log.specs.Any.{any_spelling}
use Rattle.ledger_log.specs.Spellings.{any_at}
use Rattle.ledger_log.specs.View.{LogView, log_range, log_peaks_at}
use Rattle.ledger_log.specs.declared.any.AnyOp.{AnyOp}
use Rattle.ledger_log.specs.declared.target.Target.{Target}
use Rattle.ledger_merkle.specs.declared.proof.Part.{Part as Fetched}
use Rattle.ledger_program.specs.Faults.{fault_of}
use Rattle.ledger_program.specs.declared.fault.Fault.{Fault}
use Rattle.ledger_program.specs.Follow.{idle, beginning, IsFetched, Follows, FollowFails, FollowsLog, TakesLater, Foretold, range_in, MayStop, IsCalm, fault_of_sync}
use Rattle.ledger_settling.specs.Blocks.{Meaning, IsReadable, IsRejected, IsFull}
use Rattle.ledger_settling.specs.Faults.{RunFails, IsBadValue}
use Rattle.ledger_settling.specs.Reports.{ReportOf, IsWhole}
use Rattle.ledger_settling.specs.declared.fault.ReportFault.{ReportFault}
use Rattle.ledger_settling.specs.declared.fault.ReportFault.TheVariants as causes
use Rattle.ledger_settling.specs.declared.report.Report.{Report}
use Rattle.sha2.specs.Sha256.{sha256}
use Rattle.sync_client.specs.Counts.{NeverNetwork}
use Rattle.sync_client.specs.Asking.{LimitsView, first_plan}
use Rattle.sync_client.specs.Ending.{Origin, origin_of, Finished, Stopped}
use Rattle.sync_client.specs.declared.fault.SyncFault.{SyncFault}
use Rattle.sync_client.specs.declared.fault.SyncFault.TheVariants as sync
use Rattle.sync_client.proofs.Numbering.{numbers_last}
use Rattle.sync_client.specs.Owing.{Begins, OwesNothing, IsLogs, MayStop as MayFail}
use Rattle.sync_client.specs.Updates.{AreTaken, IsSynced, TakesUpdates, last_of, targets_in}
use Rattle.sync_net.specs.Core.{LogData}
use Rattle.sync_net.specs.Service.{Service}
use Rattle.sync_net.specs.View.{MachineView}
use Rattle.sync_net.specs.Wire.{Wire}

-- ---- faults

calm_stop : (X Y : Type 0) (fault : SyncFault) (before now : ℕ) → NeverNetwork {X = Y} (Err fault) before now → IsCalm {X = X} (Err (fault_of_sync fault))
calm_stop X Y sync.Network before now h = absurd h
calm_stop X Y sync.RequestChannelClosed before now h = tt
calm_stop X Y sync.InvalidResponse before now h = tt
calm_stop X Y (sync.UnexpectedResponse number) before now h = tt
calm_stop X Y (sync.Server code text) before now h = tt
calm_stop X Y (sync.InvalidProof number) before now h = tt
calm_stop X Y sync.TooManyStrays before now h = tt
calm_stop X Y (sync.StaleUpdate start end) before now h = tt
calm_stop X Y (sync.WrongRoot found) before now h = tt
calm_stop X Y sync.Closed before now h = tt
calm_stop X Y sync.Exhausted before now h = tt
calm_stop X Y sync.OutOfMemory before now h = tt

-- a session over a link whose calls can't fail doesn't end with Network
pub calm_session : (X : Type 0) {Y : Type 0} (r : Result Y SyncFault) (fault : SyncFault) (before now : ℕ) → r ≡ Err fault → NeverNetwork r before now → IsCalm {X = X} (Err (fault_of_sync fault))
calm_session X {Y} r fault before now e h = calm_stop X Y fault before now (subst (λ q. NeverNetwork q before now) e h)

-- nor does a report
pub calm_report : (X : Type 0) (cause : ReportFault) → IsCalm {X = X} (Err (fault_of cause))
calm_report X (causes.BadLog location) = tt
calm_report X (causes.BadValue location) = tt
calm_report X (causes.Rejected block rejection) = tt
calm_report X (causes.Full block) = tt
calm_report X causes.OutOfMemory = tt

-- a session that begins with an open machine and number 1 is neither closed nor exhausted
pub may_stop : (target : Target) (updates : List (Option Target)) (limits : LimitsView) (before : Option Wire) (count : ℕ) (fault : SyncFault) (m : MachineView) (now : List (Option Target)) (wire : Option Wire) (risen : ℕ)
    → limits.outstanding ≤ 64 → Stopped (beginning target updates limits before count) fault m now wire risen → MayStop fault
may_stop target updates limits before count sync.Network m now wire risen few h = tt
may_stop target updates limits before count sync.RequestChannelClosed m now wire risen few h = tt
may_stop target updates limits before count sync.InvalidResponse m now wire risen few h = tt
may_stop target updates limits before count (sync.UnexpectedResponse n) m now wire risen few h = tt
may_stop target updates limits before count (sync.Server code text) m now wire risen few h = tt
may_stop target updates limits before count (sync.InvalidProof n) m now wire risen few h = tt
may_stop target updates limits before count sync.TooManyStrays m now wire risen few h = tt
may_stop target updates limits before count (sync.StaleUpdate start end) m now wire risen few h = tt
may_stop target updates limits before count (sync.WrongRoot found) m now wire risen few h = tt
may_stop target updates limits before count sync.Closed m now wire risen few h = absurd (cc h.1)
may_stop target updates limits before count sync.Exhausted m now wire risen few h = numbers_last (beginning target updates limits before count) now updates wire (first_plan target limits) refl few h.2
may_stop target updates limits before count sync.OutOfMemory m now wire risen few h = tt

module _ {T A E : Type 0} (meaning : Meaning T A E) (o : Origin AnyOp) (now : List (Option Target)) (wire : Option Wire) (count : ℕ) (blocks : List (Block T)) where
  -- the session's fault is the call's
  stopped_so : (fault : SyncFault) (m : MachineView) → MayStop fault → Stopped o fault m now wire count → FollowFails meaning o now wire count blocks (fault_of_sync fault)
  stopped_so sync.Network m may h = record { machine = m; stopped = h }
  stopped_so sync.RequestChannelClosed m may h = record { machine = m; stopped = h }
  stopped_so sync.InvalidResponse m may h = record { machine = m; stopped = h }
  stopped_so (sync.UnexpectedResponse n) m may h = record { machine = m; stopped = h }
  stopped_so (sync.Server code text) m may h = record { machine = m; stopped = h }
  stopped_so (sync.InvalidProof n) m may h = record { machine = m; stopped = h }
  stopped_so sync.TooManyStrays m may h = record { machine = m; stopped = h }
  stopped_so (sync.StaleUpdate start end) m may h = record { machine = m; stopped = h }
  stopped_so (sync.WrongRoot found) m may h = record { machine = m; stopped = h }
  stopped_so sync.Closed m may h = absurd may
  stopped_so sync.Exhausted m may h = absurd may
  stopped_so sync.OutOfMemory m may h = inl (record { machine = m; stopped = h })

  -- so is the fault of the part and the blocks
  no_report : (synced : Target) (part : Fetched AnyOp) → IsFetched o now wire synced part → (cause : ReportFault) → RunFails meaning synced part.ops blocks cause → FollowFails meaning o now wire count blocks (fault_of cause)
  no_report synced part f (causes.BadLog location) h = record { synced = synced; part = part; fetched = f; fails = h }
  no_report synced part f (causes.BadValue location) h = record { synced = synced; part = part; fetched = f; fails = h }
  no_report synced part f (causes.Rejected block rejection) h = record { synced = synced; part = part; fetched = f; fails = h }
  no_report synced part f (causes.Full block) h = record { synced = synced; part = part; fetched = f; fails = h }
  no_report synced part f causes.OutOfMemory h = inr (record { synced = synced; part = part; fetched = f; fails = h })

-- ---- from the machine that the call made

-- how the session begins, with this machine
abbrev from : Target → List (Option Target) → LimitsView → Option Wire → ℕ → MachineView → Origin AnyOp
from target updates limits before count v = origin_of any_at any_spelling any_spelling target updates limits v before count

module _ (target : Target) (updates : List (Option Target)) (limits : LimitsView) (before : Option Wire) (count : ℕ) (v : MachineView) (m : MachineView) (now : List (Option Target)) (wire : Option Wire) (e : v ≡ idle (Some 1)) where
  pub may_stop_from : (risen : ℕ) (fault : SyncFault) → limits.outstanding ≤ 64 → Stopped (from target updates limits before count v) fault m now wire risen → MayStop fault
  may_stop_from risen fault few h =
      may_stop target updates limits before count fault m now wire risen few (subst (λ (x : MachineView). Stopped (from target updates limits before count x) fault m now wire risen) e h)

  pub fetched_from : (synced : Target) (part : Fetched AnyOp) → Finished (from target updates limits before count v) synced part m now wire → IsFetched (beginning target updates limits before count) now wire synced part
  fetched_from synced part f = record { machine = m; finished = subst (λ (x : MachineView). Finished (from target updates limits before count x) synced part m now wire) e f }

  module _ {T A E : Type 0} (meaning : Meaning T A E) (blocks : List (Block T)) where
    pub stopped_from : (risen : ℕ) (fault : SyncFault) → limits.outstanding ≤ 64 → Stopped (from target updates limits before count v) fault m now wire risen
        → FollowFails meaning (beginning target updates limits before count) now wire risen blocks (fault_of_sync fault)
    stopped_from risen fault few h =
        stopped_so meaning (beginning target updates limits before count) now wire risen blocks fault m (may_stop_from risen fault few h)
        (subst (λ (x : MachineView). Stopped (from target updates limits before count x) fault m now wire risen) e h)

    pub no_report_from : (risen : ℕ) (synced : Target) (part : Fetched AnyOp) (cause : ReportFault) → Finished (from target updates limits before count v) synced part m now wire → RunFails meaning synced part.ops blocks cause
        → FollowFails meaning (beginning target updates limits before count) now wire risen blocks (fault_of cause)
    no_report_from risen synced part cause f h = no_report meaning (beginning target updates limits before count) now wire risen blocks synced part (fetched_from synced part f) cause h

    -- the report is of the part that was fetched
    pub follows_from : (synced : Target) (part : Fetched AnyOp) (report : Report A) → Finished (from target updates limits before count v) synced part m now wire → report.pinned ≡ part.pinned → report.kept ≡ part.ops
        → ReportOf meaning synced blocks report → Follows meaning (beginning target updates limits before count) now wire blocks report
    follows_from synced part report f pinned kept of = record {
      part = part;
      fetched = subst (λ t. IsFetched (beginning target updates limits before count) now wire t part) (sym of.target_is) (fetched_from synced part f);
      pinned = pinned;
      kept = kept;
      report_is = subst (λ t. ReportOf meaning t blocks report) (sym of.target_is) of;
    }

-- ---- what was taken off the list of answers

module _ (A : Type 0) (target : Target) (before now : List (Option Target)) where
  stopped_as : (X : Type 0) (fault : SyncFault) → TakesUpdates {X = X} (Err fault) target before now → TakesLater {A = A} (Err (fault_of_sync fault)) target before now
  stopped_as X sync.Network h = h
  stopped_as X sync.RequestChannelClosed h = h
  stopped_as X sync.InvalidResponse h = h
  stopped_as X (sync.UnexpectedResponse n) h = h
  stopped_as X (sync.Server code text) h = h
  stopped_as X (sync.InvalidProof n) h = h
  stopped_as X sync.TooManyStrays h = h
  stopped_as X (sync.StaleUpdate start end) h = h
  stopped_as X (sync.WrongRoot found) h = h
  stopped_as X sync.Closed h = h
  stopped_as X sync.Exhausted h = h
  stopped_as X sync.OutOfMemory h = h

  pub took_stopped : (X : Type 0) (fault : SyncFault) (given : Fault) → given ≡ fault_of_sync fault → TakesUpdates {X = X} (Err fault) target before now → TakesLater {A = A} (Err given) target before now
  took_stopped X fault given e h = subst (λ f. TakesLater {A = A} (Err f) target before now) (sym e) (stopped_as X fault h)

  unreported_as : (cause : ReportFault) → (took : List (Option Target)) × AreTaken target took before now → TakesLater {A = A} (Err (fault_of cause)) target before now
  unreported_as (causes.BadLog location) h = h
  unreported_as (causes.BadValue location) h = h
  unreported_as (causes.Rejected block rejection) h = h
  unreported_as (causes.Full block) h = h
  unreported_as causes.OutOfMemory h = h

  pub took_unreported : (X : Type 0) (x : Target × X) (cause : ReportFault) (given : Fault) → given ≡ fault_of cause → TakesUpdates (Ok x) target before now → TakesLater {A = A} (Err given) target before now
  took_unreported X x cause given e h = subst (λ f. TakesLater {A = A} (Err f) target before now) (sym e) (unreported_as cause (h.0, h.1))

  pub took_reported : (X : Type 0) (x : Target × X) (report : Report A) → report.target ≡ x.0 → TakesUpdates (Ok x) target before now → TakesLater (Ok report) target before now
  took_reported X x report e h = (h.0, h.1, subst (IsSynced target (last_of target (targets_in h.0))) (sym e) h.2)

same_front : {X : Type 0} (xs ys zs : List X) → xs ++ zs ≡ ys ++ zs → xs ≡ ys
same_front xs ys zs e =
    let one : length xs ≡ length ys = omega (arith, length-append xs zs, length-append ys zs, ap length e) in
    sym (take_at xs zs (length xs) refl) ∙ ap (take (length xs)) e ∙ take_at ys zs (length xs) (sym one)

-- what was synced is what was foretold
pub synced_alike : {X : Type 0} (log : LogView AnyOp) (target : Target) (before now : List (Option Target)) (synced : Target) (x : Target × X) → Foretold log target before now synced → TakesUpdates (Ok x) target before now → IsSynced synced synced x.0
synced_alike log target before now synced x f (took, taken, is) =
    let same : took ≡ f.took = same_front took f.took now (sym taken.all ∙ f.all) in
    let here : IsSynced target (last_of target (targets_in f.took)) x.0 = subst (λ t. IsSynced target (last_of target (targets_in t)) x.0) same is in
    record {
      start = here.start ∙ sym f.synced_is.start;
      root = here.root ∙ sym f.synced_is.root;
      end = here.end ∙ sym f.synced_is.end;
    }

-- ---- over a link that serves a log

-- so the call begins, over a link that serves a log and owes nothing
pub begins_so : (held : LogData) (v : MachineView) (now : Option Service) → v ≡ idle (Some 1) → OwesNothing held now → Begins held v now
begins_so held v now e told = subst (λ (x : MachineView). Begins held x now) (sym e) (record { live = refl; empty = refl; small = λ n h. (let one : 1 ≡ n = cc h in omega arith); told = told })

-- targets of one start and end have one range
range_alike : (log : LogView AnyOp) (one other : Target) → IsSynced one one other → range_in log other ≡ range_in log one
range_alike log one other s = ap (λ n. log_range log n (other.end - n)) s.start ∙ ap (λ n. log_range log one.start (n - one.start)) s.end

module _ {T A E : Type 0} (meaning : Meaning T A E) (log : LogView AnyOp) (synced : Target) (blocks : List (Block T)) where
  -- the session over such a link has few faults
  pub session_served : (fault : SyncFault) → MayFail fault → FollowsLog meaning log synced blocks (Err (fault_of_sync fault))
  session_served sync.Network h = tt
  session_served sync.RequestChannelClosed h = absurd h
  session_served sync.InvalidResponse h = absurd h
  session_served (sync.UnexpectedResponse n) h = absurd h
  session_served (sync.Server code text) h = absurd h
  session_served (sync.InvalidProof n) h = absurd h
  session_served sync.TooManyStrays h = absurd h
  session_served (sync.StaleUpdate start end) h = absurd h
  session_served (sync.WrongRoot found) h = absurd h
  session_served sync.Closed h = absurd h
  session_served sync.Exhausted h = tt
  session_served sync.OutOfMemory h = tt

  -- causes are those of any target of one start and end
  fails_alike : (other : Target) (ops : List AnyOp) (cause : ReportFault) → IsSynced synced synced other → RunFails meaning other ops blocks cause → RunFails meaning synced ops blocks cause
  fails_alike other ops (causes.BadLog location) s f = (f.0 ∙ s.end, λ w. f.1 (subst (λ n. IsWhole n ops) (sym s.start) w))
  fails_alike other ops (causes.BadValue location) s f = subst (λ n. IsWhole n ops × IsBadValue meaning.values n ops location) s.start f
  fails_alike other ops (causes.Rejected block rejection) s f = subst (λ n. IsWhole n ops × All (IsReadable meaning.values) ops × IsRejected meaning n ops blocks block rejection) s.start f
  fails_alike other ops (causes.Full block) s f = subst (λ n. IsWhole n ops × All (IsReadable meaning.values) ops × IsFull meaning n ops blocks block) s.start f
  fails_alike other ops causes.OutOfMemory s f = tt

  -- the report's faults are those of the log's own operations
  pub report_served : (other : Target) (ops : List AnyOp) (cause : ReportFault) → IsSynced synced synced other → ops ≡ range_in log other → RunFails meaning other ops blocks cause → FollowsLog meaning log synced blocks (Err (fault_of cause))
  report_served other ops cause s e f = by cause (subst (λ (x : List AnyOp). RunFails meaning synced x blocks cause) (e ∙ range_alike log synced other s) (fails_alike other ops cause s f))
    where
      by : (c : ReportFault) → RunFails meaning synced (range_in log synced) blocks c → FollowsLog meaning log synced blocks (Err (fault_of c))
      by (causes.BadLog location) h = h
      by (causes.BadValue location) h = h
      by (causes.Rejected block rejection) h = h
      by (causes.Full block) h = h
      by causes.OutOfMemory h = tt

  -- the report is of the log's own operations
  pub reported_served : (held : LogData) (other : Target) (part : Fetched AnyOp) (m : MachineView) (now : Option Service) (report : Report A) → IsSynced synced synced other → IsLogs any_spelling held log other part m now
      → report.target ≡ other → report.kept ≡ part.ops → report.pinned ≡ part.pinned → FollowsLog meaning log synced blocks (Ok report)
  reported_served held other part m now report s own target kept pinned = (
    subst (IsSynced synced synced) (sym target) s,
    kept ∙ own.ops ∙ range_alike log synced other s,
    pinned ∙ own.pinned ∙ ap (log_peaks_at sha256 any_spelling log) s.start,
  )

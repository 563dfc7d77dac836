-- A job over a peer's log: what its report and its faults say of what the dialed link gave.
use Rattle.std.specs.Prelude.{◌≡◌, ℕ, List, ◌++◌, Option, Some, Ok, Err, ⊤}
use Rattle.ledger_codec.specs.Causes.{Rose}
use Rattle.ledger_job.specs.Bounds.{LimitsView as JobLimitsView}
use Rattle.ledger_job.specs.Payments.{payment_changes}
use Rattle.ledger_job.specs.declared.job.Job.{Job}
use Rattle.ledger_job.specs.declared.payment.Payment.{Payment}
use Rattle.ledger_log.specs.Any.{any_spelling, IsSoundAny}
use Rattle.ledger_log.specs.declared.target.Target.{Target}
use Rattle.ledger_managed.specs.Spelled.{sequenced_values}
use Rattle.ledger_managed.specs.SpelledProofs.{sequenced_same}
use Rattle.ledger_program.specs.Follow.{beginning, Follows, FollowFails, TakesLater, IsValid}
use Rattle.ledger_program.specs.declared.fault.Fault.{Fault}
use Rattle.ledger_program.specs.declared.fault.Fault.TheVariants.{OutOfMemory as FollowMemory}
use Rattle.ledger_program.specs.declared.outcome.RunFault.{RunFault}
use Rattle.ledger_program.specs.declared.outcome.RunFault.TheVariants.{Dial, Follow, OutOfMemory}
use Rattle.ledger_settling.specs.Blocks.{Meaning, meaning}
use Rattle.ledger_settling.specs.declared.report.Report.{Report}
use Rattle.ledger_transfers.specs.Accounts.{sequenced_rules}
use Rattle.ledger_transfers.specs.declared.sequenced.Sequenced.{Sequenced}
use Rattle.sync_client.specs.Asking.{LimitsView}
use Rattle.sync_client.specs.Owing.{OwesNothing}
use Rattle.sync_client.specs.Serving.{Serves, HasLater}
use Rattle.sync_client.specs.Updates.{IsSynced, last_of, targets_in}
use Rattle.sync_net.specs.Core.{LogData}
use Rattle.sync_net.specs.Service.{Service}
use Rattle.sync_net.specs.Wire.{Wire}

-- what payments and sequenced accounts mean
abbrev pub payments : Meaning Payment Sequenced ℕ
payments = meaning payment_changes sequenced_same sequenced_rules sequenced_values

-- what a link told as a call began, and its bytes and its count as it ended
pub record Over : Type 0 where
  pub service : Option Service
  pub wire : Option Wire
  pub wire_now : Option Wire
  pub count : ℕ
  pub count_now : ℕ

-- the same of these parts
abbrev pub link_over : Option Service → Option Wire → Option Wire → ℕ → ℕ → Over
link_over service wire wire_now count count_now = record { service = service; wire = wire; wire_now = wire_now; count = count; count_now = count_now }

-- how much is asked at once
abbrev pub asked : JobLimitsView → LimitsView
asked limits = record { batch = limits.batch; outstanding = limits.outstanding }

-- the report is that of the job's target, later targets and blocks over what the link gave
pub record ReportsPeer (job : Job) (over : Over) (report : Report Sequenced) : Type 0 where
  pub target : Target
  pub is_target : job.target ≡ Some target
  pub left : List (Option Target)
  pub follows : Follows payments (beginning target job.updates (asked job.limits) over.wire over.count) left over.wire_now job.blocks report
  pub took : TakesLater (Ok report) target job.updates left

-- The link serves a log that has each target of the job, and over each of them that may be the last one taken the job is valid.
pub record IsServing (held : LogData) (job : Job) (service : Option Service) : Type 0 where
  pub target : Target
  pub is_target : job.target ≡ Some target
  pub serves : Serves any_spelling IsSoundAny held target
  pub owes : OwesNothing held service
  pub later : HasLater any_spelling serves.log target (targets_in job.updates)
  pub valid : (took left : List (Option Target)) → job.updates ≡ took ++ left → (synced : Target) → IsSynced target (last_of target (targets_in took)) synced → IsValid payments serves.log synced job.blocks

-- why the job has no report over what the link gave; over a link that serves, with valid input, only a failed call of it
pub record FailsPeer (job : Job) (over : Over) (fault : Fault) : Type 0 where
  pub target : Target
  pub is_target : job.target ≡ Some target
  pub left : List (Option Target)
  pub fails : FollowFails payments (beginning target job.updates (asked job.limits) over.wire over.count) left over.wire_now over.count_now job.blocks fault
  pub took : TakesLater {A = Sequenced} (Err fault) target job.updates left
  pub served : (held : LogData) → IsServing held job over.service → (Rose over.count over.count_now → ⊥) → ⊥

-- a fault that isn't want of memory
abbrev pub IsNoMemory : Fault → Type 0
IsNoMemory FollowMemory = ⊥
IsNoMemory fault = ⊤

-- why a job over a peer's log has no report where the dial didn't fail
abbrev pub FollowPeerFails : Job → Over → RunFault → Type 0
FollowPeerFails job over (Follow fault) = IsNoMemory fault × FailsPeer job over fault
FollowPeerFails job over OutOfMemory = ⊤
FollowPeerFails job over fault = ⊥

-- why a job over a peer's log has no report: the dial failed, and nothing was sent or read; or the log wasn't followed
abbrev pub PeerFails : Job → Over → ℕ → ℕ → RunFault → Type 0
PeerFails job over before now Dial = Rose before now × (over.wire_now ≡ over.wire)
PeerFails job over before now fault = FollowPeerFails job over fault

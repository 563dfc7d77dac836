-- When two runs over one stream of bytes answer alike.
use Rattle.std.specs.Prelude.{◌≡◌, ◌⊎◌, ℕ, ◌<◌, ◌≤◌, ◌^◌, Bool, true, List, [], ◌++◌, Option, Some, Result, Ok, Err, ⊤}
use Rattle.std.specs.List.{AllByRecursion}
use Rattle.ledger_job.specs.declared.block.Block.{Block}
use Rattle.ledger_log.specs.declared.any.AnyOp.{AnyOp}
use Rattle.ledger_log.specs.declared.target.Target.{Target}
use Rattle.ledger_program.specs.Follow.{Follows, FollowFails}
use Rattle.ledger_program.specs.declared.fault.Fault.{Fault}
use Rattle.ledger_program.specs.declared.fault.Fault.TheVariants.{Network, Rejected, OutOfMemory}
use Rattle.ledger_settling.specs.Blocks.{Meaning}
use Rattle.ledger_settling.specs.Reports.{held}
use Rattle.ledger_settling.specs.declared.report.Report.{Report}
use Rattle.ledger_transfers.specs.Rules.{SameOutcome}
use Rattle.ledger_transfers.specs.declared.fault.Rejection.TheVariants.{Refused}
use Rattle.sync_client.specs.Ending.{Origin}
use Rattle.sync_net.specs.Wire.{Wire}

-- numbers below 256
abbrev pub AreBytes : List ℕ → Type 0
AreBytes = AllByRecursion (λ (b : ℕ). b < 256)

-- The link tells what it gives. What it gave in between is the beginning of the stream, and all of it where it gave the end.
pub record Tells (stream : List ℕ) (before now : Option Wire) : Type 0 where
  pub was : Wire
  pub is : Wire
  pub given : List ℕ
  pub more : List ℕ
  pub before_is : before ≡ Some was
  pub now_is : now ≡ Some is
  pub grew : is.given ≡ was.given ++ given
  pub all : stream ≡ given ++ more
  pub whole : is.ended ≡ true → more ≡ []

-- two reports say one thing: each field is the same, and accounts are the same by their own equality
pub record SayOne {A : Type 0} (same : A → A → Bool) (one other : Report A) : Type 0 where
  pub target : one.target ≡ other.target
  pub start : one.start ≡ other.start
  pub end : one.end ≡ other.end
  pub pinned : one.pinned ≡ other.pinned
  pub kept : one.kept ≡ other.kept
  pub log : one.log ≡ other.log
  pub accounts : (key : List ℕ) → SameOutcome same (held one.accounts key) (held other.accounts key)
  pub verdicts : one.verdicts ≡ other.verdicts
  pub root : one.root ≡ other.root
  pub size : one.size ≡ other.size

-- a fault that isn't one of the bytes: a call of the link failed, or memory was wanting
abbrev pub IsFree : Fault → Type 0
IsFree Network = ⊤
IsFree OutOfMemory = ⊤
IsFree fault = ⊥

-- a fault without the key and the reason of a rejection
abbrev pub unreasoned : Fault → Fault
unreasoned (Rejected block rejection) = Rejected block (Refused [])
unreasoned fault = fault

-- one of two faults isn't one of the bytes, or they are one fault
abbrev pub AreOne : Fault → Fault → Type 0
AreOne fault other = IsFree fault ⊎ IsFree other ⊎ (unreasoned fault ≡ unreasoned other)

-- two answers are one, but for failed calls and want of memory
abbrev pub IsAlike : {A : Type 0} → (A → A → Bool) → Result (Report A) Fault → Result (Report A) Fault → Type 0
IsAlike same (Ok one) (Ok other) = SayOne same one other
IsAlike same (Ok one) (Err fault) = IsFree fault
IsAlike same (Err fault) (Ok other) = IsFree fault
IsAlike same (Err fault) (Err other) = AreOne fault other

-- what a run came to: a report over what was fetched, which is no longer than a log may be, or why there is none
abbrev pub Ran : {T A E : Type 0} → Meaning T A E → Origin AnyOp → List (Option Target) → Option Wire → ℕ → List (Block T) → Result (Report A) Fault → Type 0
Ran m o updates wire count blocks (Ok report) = Follows m o updates wire blocks report × (report.size ≤ 2 ^ 62)
Ran m o updates wire count blocks (Err fault) = FollowFails m o updates wire count blocks fault

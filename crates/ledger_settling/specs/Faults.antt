-- Why there is no report.
use Rattle.std.specs.Prelude.{◌≡◌, ℕ, ◌+◌, List, take, slice_get, Some, None, All, ⊤}
use Rattle.ledger_log.specs.declared.any.AnyOp.{AnyOp}
use Rattle.ledger_log.specs.declared.any.AnyOp.TheVariants.{Update}
use Rattle.ledger_managed.specs.Values.{Values}
use Rattle.ledger_settling.specs.Blocks.{IsReadable, Meaning, IsRejected, IsFull}
use Rattle.ledger_settling.specs.Reports.{IsWhole}
use Rattle.ledger_job.specs.declared.block.Block.{Block}
use Rattle.ledger_log.specs.declared.target.Target.{Target}
use Rattle.ledger_settling.specs.declared.fault.ReportFault.{ReportFault}
use Rattle.ledger_settling.specs.declared.fault.ReportFault.TheVariants.{BadLog, BadValue, Rejected, Full, OutOfMemory}

-- an Update whose value is no account
pub record IsUnreadable {A : Type 0} (values : Values A) (op : AnyOp) : Type 0 where
  pub key : List ℕ
  pub value : List ℕ
  pub is : op ≡ Update key value
  pub unreadable : values.read value ≡ None

-- the least location of an Update whose value is no account
pub record IsBadValue {A : Type 0} (values : Values A) (start : ℕ) (ops : List AnyOp) (location : ℕ) : Type 0 where
  pub place : ℕ
  pub location_is : location ≡ start + place
  pub op : AnyOp
  pub at : slice_get ops place ≡ Some op
  pub unreadable : IsUnreadable values op
  pub before : All (IsReadable values) (take place ops)

-- why the accounts can't be read
abbrev pub ReplayFails : {A : Type 0} → Values A → ℕ → List AnyOp → ReportFault → Type 0
ReplayFails values start ops (BadValue location) = IsBadValue values start ops location
ReplayFails values start ops OutOfMemory = ⊤
ReplayFails values start ops (BadLog location) = ⊥
ReplayFails values start ops (Rejected block rejection) = ⊥
ReplayFails values start ops (Full block) = ⊥

-- the last operation is no commit with a floor from the start to its own location, which is `location`
abbrev pub IsBadLog : Target → List AnyOp → ℕ → Type 0
IsBadLog target kept location = (location + 1 ≡ target.end) × (IsWhole target.start kept → ⊥)

-- why a part is no log
abbrev pub OpenFails : Target → List AnyOp → ReportFault → Type 0
OpenFails target kept (BadLog location) = IsBadLog target kept location
OpenFails target kept OutOfMemory = ⊤
OpenFails target kept (BadValue location) = ⊥
OpenFails target kept (Rejected block rejection) = ⊥
OpenFails target kept (Full block) = ⊥

-- why there is no report, cause by cause
abbrev pub RunFails : {T A E : Type 0} → Meaning T A E → Target → List AnyOp → List (Block T) → ReportFault → Type 0
RunFails m target kept blocks (BadLog location) = IsBadLog target kept location
RunFails m target kept blocks (BadValue location) = IsWhole target.start kept × IsBadValue m.values target.start kept location
RunFails m target kept blocks (Rejected block rejection) = IsWhole target.start kept × All (IsReadable m.values) kept × IsRejected m target.start kept blocks block rejection
RunFails m target kept blocks (Full block) = IsWhole target.start kept × All (IsReadable m.values) kept × IsFull m target.start kept blocks block
RunFails m target kept blocks OutOfMemory = ⊤

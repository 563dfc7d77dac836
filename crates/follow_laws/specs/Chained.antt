-- What the next run has of a report.
use Rattle.std.specs.Prelude.{◌≡◌, ℕ, ◌≤◌, Bool, List, Some}
use Rattle.ledger_log.specs.Any.{any_floor}
use Rattle.ledger_log.specs.Spelling.{Is32Bytes}
use Rattle.ledger_log.specs.View.{log_floor}
use Rattle.ledger_log.specs.declared.target.Target.{Target}
use Rattle.ledger_managed.specs.Values.{Values}
use Rattle.ledger_settling.specs.Reports.{held}
use Rattle.ledger_settling.specs.declared.report.Report.{Report}
use Rattle.ledger_transfers.specs.Rules.{Rules, SameOutcome}
use Rattle.ledger_transfers.specs.Touches.{max_amount}

-- the target of a report's log: its root, from its start to its size
pub record LogTarget {A : Type 0} (report : Report A) (target : Target) : Type 0 where
  pub root : target.root ≡ report.root
  pub start : target.start ≡ report.start
  pub end : target.end ≡ report.size

-- the target of the end of a report's log: its root, from its floor to its size
pub record FloorTarget {A : Type 0} (report : Report A) (target : Target) : Type 0 where
  pub root : target.root ≡ report.root
  pub start : target.start ≡ log_floor any_floor report.log
  pub end : target.end ≡ report.size

-- the next report has the accounts of one
abbrev pub HasAccounts : {A : Type 0} → (A → A → Bool) → Report A → Report A → Type 0
HasAccounts same report next = (key : List ℕ) → SameOutcome same (held next.accounts key) (held report.accounts key)

-- the next report goes on where one ended: it has its root, its size, its operations and its accounts
pub record Continues {A : Type 0} (same : A → A → Bool) (report next : Report A) : Type 0 where
  pub start : next.start ≡ report.start
  pub pinned : next.pinned ≡ report.pinned
  pub kept : next.kept ≡ report.log.ops
  pub log : next.log.ops ≡ report.log.ops
  pub root : next.root ≡ report.root
  pub size : next.size ≡ report.size
  pub accounts : (key : List ℕ) → SameOutcome same (held next.accounts key) (held report.accounts key)

-- what the rules make of sound accounts is sound, and so is what 32 bytes spell (in a law an account's numbers are any numbers; a sound account is one that the type has)
pub record KeepSound {A E : Type 0} (IsSound : A → Type 0) (rules : Rules A E) (values : Values A) : Type 0 where
  pub initial : IsSound rules.initial
  pub applied : (a b : A) (effect : E) → IsSound a → rules.applied a effect ≡ Some b → IsSound b
  pub balanced : (a : A) (n : ℕ) → IsSound a → n ≤ max_amount → IsSound (rules.with_balance a n)
  pub read : (v : List ℕ) (a : A) → Is32Bytes v → values.read v ≡ Some a → IsSound a

-- What a report says.
use Rattle.std.specs.Prelude.{◌≡◌, ℕ, ◌+◌, ◌<◌, ◌≤◌, Bool, false, List, length, map, Option, Some, MatchOption, All, count_ones, ⊤}
use Rattle.std.specs.BTreeMap.{BTreeMap, get}
use Rattle.std.specs.Cmp.Lexicographic.{slice_cmp}
use Rattle.std.specs.Ordering.{nat_cmp}
use Rattle.sha2.specs.Sha256.{sha256}
use Rattle.ledger_log.specs.Any.{any_floor, any_write, any_spelling}
use Rattle.ledger_log.specs.View.{last_floor, log_floor, value_at}
use Rattle.ledger_raising.specs.Raised.{FloorSound}
use Rattle.ledger_log.specs.declared.any.AnyOp.{AnyOp}
use Rattle.ledger_merkle.specs.Leaves.{ListView, leaves_from}
use Rattle.ledger_merkle.specs.Tree.{part_root}
use Rattle.ledger_transfers.specs.Rules.{Rules, SameOutcome}
use Rattle.ledger_settling.specs.Blocks.{Meaning, account_at, log_from, with_changes, IsReadable, RunsTo}
use Rattle.ledger_managed.specs.Values.{Values}
use Rattle.ledger_job.specs.declared.block.Block.{Block}
use Rattle.ledger_settling.specs.declared.report.Report.{Report}
use Rattle.ledger_log.specs.declared.target.Target.{Target}

-- the account that the map holds under the key
abbrev pub held : {A : Type 0} → BTreeMap (List ℕ) A → List ℕ → Option A
held accounts key = get (slice_cmp nat_cmp) accounts key

-- the map holds the accounts of these operations
abbrev pub IsReplay : {A : Type 0} → (A → A → Bool) → Values A → BTreeMap (List ℕ) A → List AnyOp → Type 0
IsReplay same values accounts ops = (key : List ℕ) → SameOutcome same (held accounts key) (account_at values ops key)

-- the last operation is a commit, with a floor from the start to its own location
pub record IsWhole (start : ℕ) (ops : List AnyOp) : Type 0 where
  pub floor : ℕ
  pub commits : last_floor any_floor ops ≡ Some floor
  pub least : start ≤ floor
  pub most : floor < start + length ops

-- these operations span the target and, behind the pinned nodes, have its root
pub record Spans (target : Target) (pinned : List (List ℕ)) (kept : List AnyOp) : Type 0 where
  pub nodes : length pinned ≡ count_ones target.start
  pub range : target.start + length kept ≡ target.end
  pub root : part_root sha256 pinned target.start (map any_spelling kept) ≡ target.root

-- from one list of operations to another, the first of each at `start`, the floor doesn't fall, lies below the end, and stays sound
pub record Rises (start : ℕ) (before after : List AnyOp) : Type 0 where
  pub least : log_floor any_floor (log_from start before) ≤ log_floor any_floor (log_from start after)
  pub most : log_floor any_floor (log_from start after) < start + length after
  pub sound : FloorSound any_floor any_write (log_from start before) → FloorSound any_floor any_write (log_from start after)

-- the pinned nodes at `start` with the leaves of the operations behind them
abbrev pub leaves_of : ℕ → List (List ℕ) → List AnyOp → ListView
leaves_of start pinned ops = record { front = start; pinned = pinned; leaves = leaves_from sha256 start (map any_spelling ops) }

-- the account of no key is that of a key without a value
abbrev pub NoneInitial : {A E : Type 0} → (A → A → Bool) → Rules A E → (List ℕ → Option A) → Type 0
NoneInitial same rules account = (key : List ℕ) → MatchOption (account key) ⊤ (λ a. same a rules.initial ≡ false)

module _ {T A E : Type 0} (m : Meaning T A E) where
  -- the report of these blocks over this target
  pub record ReportOf (target : Target) (blocks : List (Block T)) (report : Report A) : Type 0 where
    pub target_is : report.target ≡ target
    pub start : report.start ≡ target.start
    pub end : report.end ≡ target.end
    pub spans : Spans target report.pinned report.kept
    pub whole : IsWhole target.start report.kept
    pub readable : All (IsReadable m.values) report.kept
    pub grows : RunsTo m target.start report.kept blocks report.verdicts report.log.ops
    pub rises : Rises target.start report.kept report.log.ops
    pub replay : (key : List ℕ) → value_at any_write key report.log.ops ≡ value_at any_write key (with_changes m report.kept blocks report.verdicts)
    pub front : report.log.front ≡ target.start
    pub nodes : report.log.pinned ≡ report.pinned
    pub accounts : IsReplay m.same m.values report.accounts report.log.ops
    pub size : report.size ≡ target.start + length report.log.ops
    pub none_initial : NoneInitial m.same m.rules (account_at m.values report.kept) → NoneInitial m.same m.rules (account_at m.values report.log.ops)
    pub root : report.root ≡ part_root sha256 report.pinned target.start (map any_spelling report.log.ops)

-- Counts of kept syncs, and which syncs of the keeper in memory fail.
use Rattle.std.specs.Prelude.{ℕ, ◌≤◌, List, OnOk}
use Rattle.std.specs.declared.result.Result.{Result}
use Rattle.ledger_codec.specs.Causes.{Rose}
use Rattle.ledger_keeper.specs.declared.counting.CountingKeeper.{CountingKeeper}

-- a sync that may be kept: the count never falls, and it rises where the sync is kept
pub record Keeps {T E : Type 0} (before now : ℕ) (result : Result T E) : Type 0 where
  pub later : before ≤ now
  pub kept : OnOk result (Rose before now)

-- how many syncs were asked for
abbrev pub keeper_calls : CountingKeeper → ℕ
keeper_calls keeper = keeper.calls

-- the syncs that fail
abbrev pub keeper_failing : CountingKeeper → List ℕ
keeper_failing keeper = keeper.failing.items

-- how many syncs failed
abbrev pub keeper_faults : CountingKeeper → ℕ
keeper_faults keeper = keeper.faults

-- how many were kept
abbrev pub keeper_kept : CountingKeeper → ℕ
keeper_kept keeper = keeper.kept

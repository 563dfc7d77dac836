-- What a batch appends: its changes, copies of old operations, and a commit whose floor is as high as they allow.
use Rattle.std.specs.Prelude.{◌≡◌, ◌≤◌, ◌<◌, ℕ, ◌+◌, List, [], ◌∷◌, ◌++◌, Option, All, length, map, take, filter, nat_lt}
use Rattle.ledger_log.specs.View.{LogView, log_size, log_floor, value_at}
use Rattle.ledger_log.specs.Active.{active, living_from}
use Rattle.ledger_compact.specs.View.{with_ops}

-- the first of these places, where there is none the given one
abbrev pub first_place : {Op : Type 0} → ℕ → List (ℕ × Op) → ℕ
first_place none [] = none
first_place none (e ∷ es) = e.0

module _ {Op : Type 0} (floor_of : Op → Option ℕ) (write_of : Op → Option (List ℕ × Option (List ℕ))) where
  -- what counts at or above the log's floor where these operations stand behind the log, each with its place
  abbrev pub counting : LogView Op → List Op → List (ℕ × Op)
  counting log ops = living_from write_of log ops (log_floor floor_of log)

  -- the operations of the log from its floor on that still count behind these changes: the first of them, one for each change
  abbrev pub copies : LogView Op → List Op → List Op
  copies log changes = map (λ e. e.1) (take (length changes) (filter (λ e. nat_lt e.0 (log_size log)) (counting log changes)))

  -- the place of the first operation from the log's floor on that counts with these behind the log, else the place behind them all
  abbrev pub next_floor : LogView Op → List Op → ℕ
  next_floor log ops = first_place (log_size log + length ops) (counting log ops)

  -- the changes, the copies, and the commit
  abbrev pub raised : (Option (List ℕ) → ℕ → Op) → LogView Op → List Op → Option (List ℕ) → List Op
  raised commit_of log changes metadata = (changes ++ copies log changes) ++ commit_of metadata (next_floor log (changes ++ copies log changes)) ∷ []

  -- no operation that counts stands below the floor
  abbrev pub FloorSound : LogView Op → Type 0
  FloorSound log = All (λ place. log_floor floor_of log ≤ place) (active write_of log.front log.ops)

  -- this batch leaves the values that its changes alone leave, and a floor that doesn't fall, lies at most at the batch's last operation, and stays sound
  pub record Raises (log : LogView Op) (changes batch : List Op) : Type 0 where
    pub replay : (key : List ℕ) → value_at write_of key (log.ops ++ batch) ≡ value_at write_of key (log.ops ++ changes)
    pub least : log_floor floor_of log ≤ log_floor floor_of (with_ops log batch)
    pub most : log_floor floor_of (with_ops log batch) < log_size (with_ops log batch)
    pub sound : FloorSound log → FloorSound (with_ops log batch)

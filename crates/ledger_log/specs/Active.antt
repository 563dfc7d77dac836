-- Which operations of a log still count: those that leave a value which nothing later changes.
use Rattle.std.specs.Prelude.{ℕ, ◌+◌, Bool, false, cond, nat_le, List, [], ◌∷◌, ◌++◌, length, map, filter, take, Option, Some, None, is_none}
use Rattle.ledger_log.specs.Index.{last_write}
use Rattle.ledger_log.specs.View.{LogView}

module _ {Op : Type 0} (write_of : Op → Option (List ℕ × Option (List ℕ))) where
  -- a write counts before these operations where it leaves a value and none of them writes its key
  abbrev pub counts : Option (List ℕ × Option (List ℕ)) → List Op → Bool
  counts None later = false
  counts (Some (key, None)) later = false
  counts (Some (key, Some value)) later = is_none (last_write write_of key later)

  -- the operations that count, each with its place, where the first of them all stands at `start`
  abbrev pub living : ℕ → List Op → List (ℕ × Op)
  living start [] = []
  living start (op ∷ later) = cond (counts (write_of op) later) ((start, op) ∷ living (start + 1) later) (living (start + 1) later)

  -- the places of the operations that count, in ascending order
  abbrev pub active : ℕ → List Op → List ℕ
  active start ops = map (λ e. e.0) (living start ops)

  -- those at or above a place that count where these operations stand behind the log
  abbrev pub living_from : LogView Op → List Op → ℕ → List (ℕ × Op)
  living_from log more loc = filter (λ e. nat_le loc e.0) (living log.front (log.ops ++ more))

  -- the places at or above a place that count
  abbrev pub active_from : LogView Op → ℕ → List ℕ
  active_from log loc = filter (nat_le loc) (active log.front log.ops)

-- Logs of test operations, and what is appended to them.
use Rattle.std.specs.Prelude.{◌≡◌, ℕ, Bool, true, not, List, [], ◌∷◌, ◌++◌, filter, map, Option, Some, None, is_some}
use Rattle.ledger_log.specs.View.{LogView}
use Rattle.ledger_examples.specs.Tests.{test_operations}

module _ {Op : Type 0} (floor_of : Op → Option ℕ) (commit_of : Option (List ℕ) → ℕ → Op) (write : List ℕ → List ℕ → Op) (commit : ℕ → ℕ → Bool → Op) where
  -- a fresh log, and behind its commit so many test operations as a log of floor 0 takes them
  abbrev pub test_log : (ℕ → Op → Op) → ℕ → ℕ → LogView Op
  test_log added count seed = record { front = 0; pinned = []; ops = commit_of None 0 ∷ map (added 0) (test_operations write commit seed 0 count) }

  -- so many test operations without their commits, and one commit of this floor
  abbrev pub test_batch : ℕ → ℕ → ℕ → List Op
  test_batch count seed floor = filter (λ op. not (is_some (floor_of op))) (test_operations write commit seed 0 count) ++ commit_of None floor ∷ []

-- A family's test operations can be added to a log of floor 0: the last of them is a commit, those that are added to
-- such a log have no other floor, and a log of one commit of floor 0 shows the floor 0.
pub record HasTests {Op : Type 0} (floor_of : Op → Option ℕ) (write : List ℕ → List ℕ → Op) (commit : ℕ → ℕ → Bool → Op) (added : ℕ → Op → Op) (shown : ℕ → ℕ → ℕ) : Type 0 where
  pub writes : (key value : List ℕ) → floor_of (added 0 (write key value)) ≡ None
  pub commits : (count : ℕ) (last : Bool) → floor_of (added 0 (commit 0 count last)) ≡ Some 0
  pub ends : (count : ℕ) → is_some (floor_of (commit 0 count true)) ≡ true
  pub shows : shown 0 1 ≡ 0

use Rattle.std.specs.Prelude.{ℕ, ◌+◌, ◌-◌, ◌%◌, ◌==◌, cond, Bool, true, false, List, [], ◌∷◌, ◌++◌, codes, replicate, Option, Some, None}
use Rattle.std.specs.List.{flat_map, range_with_len}
use Rattle.sha2.specs.Sha256.{sha256}
use Rattle.ledger_merkle.specs.Tree.{be64}
use Rattle.ledger_log.specs.declared.any.AnyOp.{AnyOp}
use Rattle.ledger_log.specs.declared.any.AnyOp.TheVariants as any
use Rattle.ledger_log.specs.declared.immutable.ImmutableOp.{ImmutableOp}
use Rattle.ledger_log.specs.declared.immutable.ImmutableOp.TheVariants as immutable
use Rattle.ledger_log.specs.declared.keyless.KeylessOp.{KeylessOp}
use Rattle.ledger_log.specs.declared.keyless.KeylessOp.TheVariants as keyless

-- the key of the test operation with this number
unfoldable pub test_key : ℕ → ℕ → List ℕ
test_key seed i = sha256 (be64 i ++ be64 seed)

-- the value of a test key
unfoldable pub test_value : List ℕ → List ℕ
test_value key = sha256 (key ++ codes "value")

-- the metadata of a test commit: ones in the last one
abbrev pub test_metadata : Bool → Option (List ℕ)
test_metadata true = Some (replicate 32 1)
test_metadata false = None

-- any and current update the key
abbrev pub any_test : List ℕ → List ℕ → AnyOp
any_test key value = any.Update key value

-- their commits have the number of operations before them as floor
abbrev pub any_test_commit : ℕ → ℕ → Bool → AnyOp
any_test_commit start count last = any.CommitFloor None count

-- immutable sets the key
abbrev pub immutable_test : List ℕ → List ℕ → ImmutableOp
immutable_test key value = immutable.Set key value

-- its commits have the given floor
abbrev pub immutable_test_commit : ℕ → ℕ → Bool → ImmutableOp
immutable_test_commit start count last = immutable.Commit (test_metadata last) start

-- keyless appends the key as a value
abbrev pub keyless_test : List ℕ → List ℕ → KeylessOp
keyless_test key value = keyless.Append key

-- its commits have the given floor
abbrev pub keyless_test_commit : ℕ → ℕ → Bool → KeylessOp
keyless_test_commit start count last = keyless.Commit (test_metadata last) start

-- an operation as it is added to a log of this floor: any and current put the log's floor for a commit's own
abbrev pub any_added : ℕ → AnyOp → AnyOp
any_added floor (any.Update key value) = any.Update key value
any_added floor (any.Delete key) = any.Delete key
any_added floor (any.CommitFloor metadata given) = any.CommitFloor metadata floor

-- and immutable and keyless leave it as it is
abbrev pub same_added : {Op : Type 0} → ℕ → Op → Op
same_added floor op = op

-- the floor that is shown of a log of this floor and size: none of any and current
abbrev pub no_floor : ℕ → ℕ → ℕ
no_floor floor size = 0

-- the floor of immutable
abbrev pub own_floor : ℕ → ℕ → ℕ
own_floor floor size = floor

-- the place of the last commit of keyless
abbrev pub last_place : ℕ → ℕ → ℕ
last_place floor size = size - 1

module _ {Op : Type 0} where
  -- the test operation with this number, and a commit behind each tenth
  abbrev pub test_step : (List ℕ → List ℕ → Op) → (ℕ → ℕ → Bool → Op) → ℕ → ℕ → ℕ → List Op
  test_step write commit seed start i =
      write (test_key seed i) (test_value (test_key seed i)) ∷ cond ((i + 1) % 10 == 0) (commit start (i + 1) false ∷ []) []

  -- this many test operations, with a commit behind all of them
  abbrev pub test_operations : (List ℕ → List ℕ → Op) → (ℕ → ℕ → Bool → Op) → ℕ → ℕ → ℕ → List Op
  test_operations write commit seed start count =
      flat_map (test_step write commit seed start) (range_with_len 0 count) ++ commit start count true ∷ []

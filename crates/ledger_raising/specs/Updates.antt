-- The operations that write keys.
use Rattle.std.specs.Prelude.{◌≡◌, ℕ, List, Option, Some, None}
use Rattle.std.proofs.Common.{refl}
use Rattle.ledger_log.specs.Any.{any_floor, any_write}
use Rattle.ledger_log.specs.declared.any.AnyOp.{AnyOp}
use Rattle.ledger_log.specs.declared.any.AnyOp.TheVariants.{Update, Delete, CommitFloor}

-- the operation that gives a key its value
abbrev pub update : List ℕ → List ℕ → AnyOp
update key value = Update key value

-- the operation that takes a key's value
abbrev pub deletion : List ℕ → AnyOp
deletion key = Delete key

-- an update writes its value
pub update_writes : (key value : List ℕ) → any_write (update key value) ≡ Some (key, Some value)
update_writes key value = refl

-- a deletion writes that there is none
pub deletion_writes : (key : List ℕ) → any_write (deletion key) ≡ Some (key, None)
deletion_writes key = refl

-- an operation that writes a key is no commit
pub no_commit : (op : AnyOp) (write : List ℕ × Option (List ℕ)) → any_write op ≡ Some write → any_floor op ≡ None
no_commit (Update key value) write e = refl
no_commit (Delete key) write e = refl
no_commit (CommitFloor metadata floor) write e = absurd cc

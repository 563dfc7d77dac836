use Rattle.std.specs.Prelude.{◌≡◌, ℕ, List, ◌∷◌, length, Option, Some, None}
use Rattle.std.proofs.Common.{refl}
use Rattle.ledger_log.specs.Spelling.{commit_spelling, Is32Bytes, IsSoundCommit}
use Rattle.ledger_log.specs.Unique.{commit_distinct}
use Rattle.ledger_log.specs.declared.keyless.KeylessOp.{KeylessOp}
use Rattle.ledger_log.specs.declared.keyless.KeylessOp.TheVariants.{Append, Commit}

-- a tag, then the operation's parts
abbrev pub keyless_spelling : KeylessOp → List ℕ
keyless_spelling (Append value) = 0 ∷ value
keyless_spelling (Commit metadata floor) = 1 ∷ commit_spelling metadata floor

-- the floor of a commit
abbrev pub keyless_floor : KeylessOp → Option ℕ
keyless_floor (Append value) = None
keyless_floor (Commit metadata floor) = Some floor

-- no operation writes a key
abbrev pub keyless_write : KeylessOp → Option (List ℕ × Option (List ℕ))
keyless_write op = None

-- the commit with these parts
abbrev pub keyless_commit : Option (List ℕ) → ℕ → KeylessOp
keyless_commit metadata floor = Commit metadata floor

-- a commit has its floor
pub keyless_commit_has_floor : (metadata : Option (List ℕ)) (floor : ℕ) → keyless_floor (keyless_commit metadata floor) ≡ Some floor
keyless_commit_has_floor metadata floor = refl

-- values and metadata are 32 bytes each, and a floor is a location
abbrev pub IsSoundKeyless : KeylessOp → Type 0
IsSoundKeyless (Append value) = Is32Bytes value
IsSoundKeyless (Commit metadata floor) = IsSoundCommit metadata floor

-- operations with one spelling are one operation
pub keyless_distinct : (x y : KeylessOp) → IsSoundKeyless x → IsSoundKeyless y → keyless_spelling x ≡ keyless_spelling y → x ≡ y
keyless_distinct (Append a) (Append c) p q e = cc
keyless_distinct (Append a) (Commit c d) p q e = absurd cc
keyless_distinct (Commit a b) (Append c) p q e = absurd cc
keyless_distinct (Commit a b) (Commit c d) p q e = let s = commit_distinct a c b d p q cc in let l : a ≡ c = s.0 in let r : b ≡ d = s.1 in cc

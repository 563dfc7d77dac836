use Rattle.std.specs.Prelude.{◌≡◌, ℕ, List, ◌∷◌, ◌++◌, length, Option, Some, None}
use Rattle.std.proofs.Common.{refl, sym, ◌∙◌}
use Rattle.ledger_log.specs.Spelling.{commit_spelling, Is32Bytes, IsSoundCommit}
use Rattle.ledger_log.specs.Unique.{split_equal, commit_distinct}
use Rattle.ledger_log.specs.declared.any.AnyOp.{AnyOp}
use Rattle.ledger_log.specs.declared.any.AnyOp.TheVariants.{Update, Delete, CommitFloor}

-- a tag, then the operation's parts
abbrev pub any_spelling : AnyOp → List ℕ
any_spelling (Update key value) = 0 ∷ key ++ value
any_spelling (Delete key) = 1 ∷ key
any_spelling (CommitFloor metadata floor) = 2 ∷ commit_spelling metadata floor

-- the floor of a commit
abbrev pub any_floor : AnyOp → Option ℕ
any_floor (Update key value) = None
any_floor (Delete key) = None
any_floor (CommitFloor metadata floor) = Some floor

-- the key that an operation writes, with its new value
abbrev pub any_write : AnyOp → Option (List ℕ × Option (List ℕ))
any_write (Update key value) = Some (key, Some value)
any_write (Delete key) = Some (key, None)
any_write (CommitFloor metadata floor) = None

-- the commit with these parts
abbrev pub any_commit : Option (List ℕ) → ℕ → AnyOp
any_commit metadata floor = CommitFloor metadata floor

-- a commit has its floor
pub any_commit_has_floor : (metadata : Option (List ℕ)) (floor : ℕ) → any_floor (any_commit metadata floor) ≡ Some floor
any_commit_has_floor metadata floor = refl

-- keys, values and metadata are 32 bytes each, and a floor is a location
abbrev pub IsSoundAny : AnyOp → Type 0
IsSoundAny (Update key value) = Is32Bytes key × Is32Bytes value
IsSoundAny (Delete key) = Is32Bytes key
IsSoundAny (CommitFloor metadata floor) = IsSoundCommit metadata floor

-- operations with one spelling are one operation
pub any_distinct : (x y : AnyOp) → IsSoundAny x → IsSoundAny y → any_spelling x ≡ any_spelling y → x ≡ y
any_distinct (Update a b) (Update c d) p q e = let s = split_equal a c b d (p.0.0 ∙ sym q.0.0) (cc) in let l : a ≡ c = s.0 in let r : b ≡ d = s.1 in cc
any_distinct (Update a b) (Delete c) p q e = absurd cc
any_distinct (Update a b) (CommitFloor c d) p q e = absurd cc
any_distinct (Delete a) (Update c d) p q e = absurd cc
any_distinct (Delete a) (Delete c) p q e = cc
any_distinct (Delete a) (CommitFloor c d) p q e = absurd cc
any_distinct (CommitFloor a b) (Update c d) p q e = absurd cc
any_distinct (CommitFloor a b) (Delete c) p q e = absurd cc
any_distinct (CommitFloor a b) (CommitFloor c d) p q e = let s = commit_distinct a c b d p q cc in let l : a ≡ c = s.0 in let r : b ≡ d = s.1 in cc

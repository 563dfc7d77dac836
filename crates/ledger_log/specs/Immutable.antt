use Rattle.std.specs.Prelude.{◌≡◌, ℕ, List, ◌∷◌, ◌++◌, length, Option, Some, None}
use Rattle.std.proofs.Common.{refl, sym, ◌∙◌}
use Rattle.ledger_log.specs.Spelling.{commit_spelling, Is32Bytes, IsSoundCommit}
use Rattle.ledger_log.specs.Unique.{split_equal, commit_distinct}
use Rattle.ledger_log.specs.declared.immutable.ImmutableOp.{ImmutableOp}
use Rattle.ledger_log.specs.declared.immutable.ImmutableOp.TheVariants.{Set, Commit}

-- a tag, then the operation's parts
abbrev pub immutable_spelling : ImmutableOp → List ℕ
immutable_spelling (Set key value) = 0 ∷ key ++ value
immutable_spelling (Commit metadata floor) = 1 ∷ commit_spelling metadata floor

-- the floor of a commit
abbrev pub immutable_floor : ImmutableOp → Option ℕ
immutable_floor (Set key value) = None
immutable_floor (Commit metadata floor) = Some floor

-- the key that an operation writes, with its new value
abbrev pub immutable_write : ImmutableOp → Option (List ℕ × Option (List ℕ))
immutable_write (Set key value) = Some (key, Some value)
immutable_write (Commit metadata floor) = None

-- the commit with these parts
abbrev pub immutable_commit : Option (List ℕ) → ℕ → ImmutableOp
immutable_commit metadata floor = Commit metadata floor

-- a commit has its floor
pub immutable_commit_has_floor : (metadata : Option (List ℕ)) (floor : ℕ) → immutable_floor (immutable_commit metadata floor) ≡ Some floor
immutable_commit_has_floor metadata floor = refl

-- keys, values and metadata are 32 bytes each, and a floor is a location
abbrev pub IsSoundImmutable : ImmutableOp → Type 0
IsSoundImmutable (Set key value) = Is32Bytes key × Is32Bytes value
IsSoundImmutable (Commit metadata floor) = IsSoundCommit metadata floor

-- operations with one spelling are one operation
pub immutable_distinct : (x y : ImmutableOp) → IsSoundImmutable x → IsSoundImmutable y → immutable_spelling x ≡ immutable_spelling y → x ≡ y
immutable_distinct (Set a b) (Set c d) p q e = let s = split_equal a c b d (p.0.0 ∙ sym q.0.0) (cc) in let l : a ≡ c = s.0 in let r : b ≡ d = s.1 in cc
immutable_distinct (Set a b) (Commit c d) p q e = absurd cc
immutable_distinct (Commit a b) (Set c d) p q e = absurd cc
immutable_distinct (Commit a b) (Commit c d) p q e = let s = commit_distinct a c b d p q cc in let l : a ≡ c = s.0 in let r : b ≡ d = s.1 in cc

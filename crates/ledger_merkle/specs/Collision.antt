-- Two different inputs of one digest.
use Rattle.std.specs.Prelude.{◌≡◌, ◌≢◌, ℕ, List, vec_items}
use Rattle.ledger_merkle.specs.declared.binding.Met.{Met}
use Rattle.ledger_merkle.specs.declared.binding.Met.TheVariants.{Inputs, OutOfMemory}

-- two different lists of bytes have one digest
abbrev pub Collides : (List ℕ → List ℕ) → List ℕ → List ℕ → Type 0
Collides hash one other = (one ≢ other) × (hash one ≡ hash other)

-- what ended a walk was a collision, or the want of memory for one
abbrev pub Meets : (List ℕ → List ℕ) → Met → Type 0
Meets hash (Inputs one other) = Collides hash (vec_items one) (vec_items other)
Meets hash OutOfMemory = Unit {0}

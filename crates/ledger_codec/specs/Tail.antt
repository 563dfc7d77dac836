-- The end of a list of bytes.
use Rattle.std.specs.Prelude.{◌≡◌, ℕ, ◌≤◌, List, length, drop}

-- the bytes from some place on
abbrev pub IsTail : List ℕ → List ℕ → Type 0
IsTail rest bytes = (j : ℕ) × (j ≤ length bytes) × (rest ≡ drop j bytes)

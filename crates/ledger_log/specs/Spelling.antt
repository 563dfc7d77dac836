use Rattle.std.specs.Prelude.{◌≡◌, ℕ, ◌^◌, ◌<◌, ◌≤◌, List, ◌∷◌, ◌++◌, length, get_or, Option, Some, None}
use Rattle.ledger_codec.specs.Numbers.{varint}

-- what follows a commit's tag: a flag, the metadata where there are any, and the floor
abbrev pub commit_spelling : Option (List ℕ) → ℕ → List ℕ
commit_spelling None floor = 0 ∷ varint floor
commit_spelling (Some metadata) floor = 1 ∷ metadata ++ varint floor

-- 32 bytes: as many numbers below 256
abbrev pub Is32Bytes : List ℕ → Type 0
Is32Bytes bytes = (length bytes ≡ 32) × ((i : ℕ) → get_or bytes i 0 < 256)

-- metadata are 32 bytes, where there are any
abbrev pub IsSoundMetadata : Option (List ℕ) → Type 0
IsSoundMetadata None = Unit {0}
IsSoundMetadata (Some metadata) = Is32Bytes metadata

-- a commit's metadata are sound, and its floor is a location
abbrev pub IsSoundCommit : Option (List ℕ) → ℕ → Type 0
IsSoundCommit metadata floor = IsSoundMetadata metadata × (floor ≤ 2 ^ 62)

use Rattle.std.specs.Prelude.{ℕ, zero, suc, ◌+◌, ◌*◌, ◌/◌, if◌then◌else◌, Bool, false, List, [], ◌∷◌, ◌++◌, length, get_or}
use Rattle.ledger_merkle.specs.Tree.{tree_root}

-- a bit as a number, 0 past the end
abbrev pub bit_of : List Bool → ℕ → ℕ
bit_of bits i = if get_or bits i false then 1 else 0

-- the eight bits from place i on as a byte, the first as its top bit
abbrev pub byte_of : List Bool → ℕ → ℕ
byte_of bits i =
    128 * bit_of bits i + 64 * bit_of bits (i + 1) + 32 * bit_of bits (i + 2) + 16 * bit_of bits (i + 3)
    + 8 * bit_of bits (i + 4) + 4 * bit_of bits (i + 5) + 2 * bit_of bits (i + 6) + bit_of bits (i + 7)

-- the first k bytes of the bits from place i on
unfoldable pub bytes_of : List Bool → ℕ → ℕ → List ℕ
bytes_of bits i zero = []
bytes_of bits i (suc k) = bytes_of bits i k ++ byte_of bits (i + 8 * k) ∷ []

-- a chunk is 32 bytes, filled with zero bits past the end
abbrev pub chunk_of : List Bool → ℕ → List ℕ
chunk_of bits i = bytes_of bits i 32

-- the first k chunks
unfoldable pub first_chunks : List Bool → ℕ → List (List ℕ)
first_chunks bits zero = []
first_chunks bits (suc k) = first_chunks bits k ++ chunk_of bits (256 * k) ∷ []

-- the chunks of the bits, the last of which may be filled up
abbrev pub chunks_of : List Bool → List (List ℕ)
chunks_of bits = first_chunks bits ((length bits + 255) / 256)

-- the root over the chunks as leaves
abbrev pub bits_root : (List ℕ → List ℕ) → List Bool → List ℕ
bits_root hash bits = tree_root hash (chunks_of bits)

-- the canonical root, of the root over the operations and the root over the bits
unfoldable pub canonical_root : (List ℕ → List ℕ) → List ℕ → List ℕ → List ℕ
canonical_root hash ops_root root_of_bits = hash (3 ∷ ops_root ++ root_of_bits)

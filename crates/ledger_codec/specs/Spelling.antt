-- What holds of every spelling.
use Rattle.std.specs.Prelude.{◌≡◌, ℕ, List, [], ◌++◌, Ok}
use Rattle.ledger_codec.specs.Parsing.{Parsed}
use Rattle.ledger_codec.specs.Sequences.{all_of}

-- the bytes that were read, after which anything may follow
pub record Used {T : Type 0} (reading : List ℕ → Parsed T) (bytes : List ℕ) (value : T) (rest : List ℕ) : Type 0 where
  pub used : List ℕ
  pub parts : bytes ≡ used ++ rest
  pub whatever_follows : (more : List ℕ) → reading (used ++ more) ≡ Ok (value, more)

-- reading takes a value's own bytes alone, whatever follows
pub record IsLocal {T : Type 0} (reading : List ℕ → Parsed T) : Type 0 where
  pub used : (bytes : List ℕ) (value : T) (rest : List ℕ) → reading bytes ≡ Ok (value, rest) → Used reading bytes value rest

-- what was written is read again, whatever follows
abbrev pub IsReadAgain : {T : Type 0} → (List ℕ → Parsed T) → T → List ℕ → Type 0
IsReadAgain reading value written = (rest : List ℕ) → reading (written ++ rest) ≡ Ok (value, rest)

-- The laws of a type's spelling. In a law a number is any number: a sound value is one that the type has.
pub record SpellLaws {T : Type 0} (reading : List ℕ → Parsed T) (written : T → List ℕ) (sound fits : T → Type 0) : Type 0 where
  pub again : (value : T) → sound value → fits value → IsReadAgain reading value (written value)
  pub local : IsLocal reading

-- bytes were appended
abbrev pub Grows : List ℕ → List ℕ → Type 0
Grows old now = (more : List ℕ) × (now ≡ old ++ more)

-- no longer list of bytes that begins so is a value's spelling
abbrev pub IsAlone : {T : Type 0} → (List ℕ → Parsed T) → List ℕ → Type 0
IsAlone {T} reading bytes = (more : List ℕ) (other : T) → all_of reading (bytes ++ more) ≡ Ok other → more ≡ []

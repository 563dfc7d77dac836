-- Reading from left to right, with the first fault that is met.
use Rattle.std.specs.Prelude.{◌≡◌, ℕ, List, Result, Ok, Err}
use Rattle.ledger_codec.specs.declared.fault.CodecError.{CodecError}
use Rattle.ledger_codec.specs.declared.fault.CodecError.TheVariants as faults

-- a value and the bytes after it, or the first fault
abbrev pub Parsed : Type 0 → Type 0
Parsed T = Result (T × List ℕ) CodecError

-- what is read goes on with the value and the bytes after it
infixl 10 ◌>>=◌
abbrev pub ◌>>=◌ : {A B : Type 0} → Parsed A → (A → List ℕ → Result B CodecError) → Result B CodecError
(Ok x) >>= f = f x.0 x.1
(Err e) >>= f = Err e

-- a refusal is that of reading; want of memory is free
abbrev pub Fails : {Y : Type 0} → CodecError → Result Y CodecError → Type 0
Fails faults.OutOfMemory read = Unit {0}
Fails faults.EndOfBuffer read = read ≡ Err faults.EndOfBuffer
Fails faults.InvalidVarint read = read ≡ Err faults.InvalidVarint
Fails (faults.InvalidLength found limit) read = read ≡ Err (faults.InvalidLength found limit)
Fails (faults.InvalidEnum tag) read = read ≡ Err (faults.InvalidEnum tag)
Fails faults.Invalid read = read ≡ Err faults.Invalid
Fails (faults.ExtraData rest) read = read ≡ Err (faults.ExtraData rest)

-- what a function answers, seen by view, is what reading gives
abbrev pub Gives : {X Y : Type 0} → (X → Y) → Result X CodecError → Result Y CodecError → Type 0
Gives view (Ok x) read = read ≡ Ok (view x)
Gives view (Err e) read = Fails e read

-- the same, where no memory is taken
abbrev pub GivesExactly : {X Y : Type 0} → (X → Y) → Result X CodecError → Result Y CodecError → Type 0
GivesExactly view (Ok x) read = read ≡ Ok (view x)
GivesExactly view (Err e) read = read ≡ Err e

-- what was read from the bytes old, with the bytes now left, is what reading gives; a refused read leaves all
abbrev pub Reads : {X : Type 0} → Result X CodecError → List ℕ → List ℕ → Parsed X → Type 0
Reads (Ok x) old now read = read ≡ Ok (x, now)
Reads (Err e) old now read = (now ≡ old) × Fails e read

-- the same, where no memory is taken
abbrev pub ReadsExactly : {X : Type 0} → Result X CodecError → List ℕ → List ℕ → Parsed X → Type 0
ReadsExactly (Ok x) old now read = read ≡ Ok (x, now)
ReadsExactly (Err e) old now read = (now ≡ old) × (read ≡ Err e)

-- the same, where the value is seen by view
abbrev pub ReadsAs : {X Y : Type 0} → (X → Y) → Result X CodecError → List ℕ → List ℕ → Parsed Y → Type 0
ReadsAs view (Ok x) old now read = read ≡ Ok (view x, now)
ReadsAs view (Err e) old now read = (now ≡ old) × Fails e read

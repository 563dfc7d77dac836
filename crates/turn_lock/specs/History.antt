-- A history, the value that it leads to, and when it is one that a single thread could have made.
use Rattle.std.specs.Prelude.{◌≡◌, ℕ, ◌==◌, List, [], ◌∷◌, ◌++◌, cond}
use Rattle.turn_lock.specs.declared.entry.Entry.{Entry}

-- of a history, whose events are of type E, and whose outcomes are of type A
module _ {E A : Type 0} where
  -- the events of one caller, in order
  abbrev pub calls : ℕ → List (Entry E A) → List E
  calls c [] = []
  calls c (e ∷ es) = cond (e.caller == c) (e.event ∷ calls c es) (calls c es)

  abbrev pub entry : ℕ → E → A → Entry E A
  entry c event outcome = record { caller = c; event = event; outcome = outcome }

  -- the second list begins with the first
  abbrev pub IsBeginning : List (Entry E A) → List (Entry E A) → Type 0
  IsBeginning xs ys = (rest : List (Entry E A)) × (ys ≡ xs ++ rest)

-- of a value of type V, which is `after` its old state, an event and the outcome
module _ {V E A : Type 0} (after : V → E → A → V) where
  -- the value that a history leads to
  abbrev pub value_after : V → List (Entry E A) → V
  value_after value [] = value
  value_after value (e ∷ es) = value_after (after value e.event e.outcome) es

  -- each outcome is one that the value gives after the entries before it
  abbrev pub Legal : (V → E → A → Type 0) → V → List (Entry E A) → Type 0
  Legal Answers value [] = Unit {0}
  Legal Answers value (e ∷ es) = Answers value e.event e.outcome × Legal Answers (after value e.event e.outcome) es

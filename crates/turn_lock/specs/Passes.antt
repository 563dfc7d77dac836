-- What contracts see of the lock, of passes and of notes, and what the calls say of them.
use Rattle.std.specs.Prelude.{◌≡◌, ◌⊎◌, ℕ, ◌+◌, Bool, true, false, List, [], ◌∷◌, ◌++◌, Option, Some, None}
use Rattle.std.specs.List.{All}
use Rattle.atomic_table.specs.Seated.{TableId}
use Rattle.turn_lock.specs.declared.entry.Entry.{Entry}
use Rattle.turn_lock.specs.declared.held.Held.{Held}
use Rattle.turn_lock.specs.declared.rule.Stage.{Stage}
use Rattle.turn_lock.specs.declared.rule.Stage.TheVariants.{Idle, Waits, Holds}
use Rattle.turn_lock.specs.History.{value_after, Legal, calls, IsBeginning}

-- whether a seat holds the slot
abbrev pub is_holding : Stage → Bool
is_holding Idle = false
is_holding (Waits t) = false
is_holding (Holds t) = true

-- which lock it is, with the value that was given to `share`
pub record Origin (V : Type 0) : Type 0 where
  pub table : TableId
  pub opening : Option V

-- a lock, the value that was given to `share`, and how many passes there are
pub record LockValue (V : Type 0) : Type 0 where
  pub from : Origin V
  pub opening : V
  pub passes : ℕ

-- A pass: its number, the history that it has seen, how many of its turns it took, and whether it holds the value.
pub record PassValue (V E A : Type 0) : Type 0 where
  pub from : Origin V
  pub caller : ℕ
  pub seen : List (Entry E A)
  pub used : ℕ
  pub turns : ℕ
  pub within : Bool

-- a note, and the history that it has seen
pub record NoteValue (E A : Type 0) : Type 0 where
  pub table : TableId
  pub seen : List (Entry E A)

-- of a history
module _ {E A : Type 0} where
  -- the entry of a turn, if it adds one
  abbrev pub added : Option (Entry E A) → List (Entry E A)
  added None = []
  added (Some e) = e ∷ []

-- of a pass
module _ {V E A : Type 0} where
  -- a pass that has made no call
  abbrev pub fresh : Origin V → ℕ → ℕ → PassValue V E A
  fresh from turns caller = record { from = from; caller = caller; seen = []; used = 0; turns = turns; within = false }

  -- the pass in a turn, which has seen this
  abbrev pub within_turn : PassValue V E A → List (Entry E A) → PassValue V E A
  within_turn p seen = record { from = p.from; caller = p.caller; seen = seen; used = p.used + 1; turns = p.turns; within = true }

  -- the pass between two turns, which has seen this
  abbrev pub having_seen : PassValue V E A → List (Entry E A) → PassValue V E A
  having_seen p seen = record { from = p.from; caller = p.caller; seen = seen; used = p.used; turns = p.turns; within = false }

  -- of the two lists one was a beginning of the other, and the pass has the longer
  pub record Meets (p : PassValue V E A) (note : List (Entry E A)) (q : PassValue V E A) : Type 0 where
    pub pass : q ≡ having_seen p q.seen
    pub one : (q.seen ≡ p.seen) ⊎ (q.seen ≡ note)
    pub mine : IsBeginning p.seen q.seen
    pub noted : IsBeginning note q.seen
    pub own : calls p.caller q.seen ≡ calls p.caller p.seen

  -- a list of passes has the one of this caller
  abbrev pub Present : ℕ → List (PassValue V E A) → Type 0
  Present c [] = ⊥
  Present c (p ∷ ps) = (p.caller ≡ c) ⊎ Present c ps

  -- a caller, and the calls that it has in the history that it has seen
  abbrev pub call_of : PassValue V E A → ℕ × List E
  call_of p = (p.caller, calls p.caller p.seen)

-- of a value that is `after` its old state, an event and the outcome, and which `Answers` an event by an outcome
module _ {V E A : Type 0} (after : V → E → A → V) (Answers : V → E → A → Type 0) where
  -- A turn begins: the history so far is legal, led to the value, begins with all that the pass had seen, and has
  -- no call of its caller that it hadn't seen.
  pub record Takes (opening : V) (p q : PassValue V E A) (y : Held V E A) : Type 0 where
    pub pass : q ≡ within_turn p y.history.items
    pub begins : IsBeginning p.seen y.history.items
    pub legal : Legal after Answers opening y.history.items
    pub value : y.value ≡ value_after after opening y.history.items
    pub own : calls p.caller y.history.items ≡ calls p.caller p.seen

  -- nothing is added, or one call of this caller, answered as the value answers
  abbrev pub IsTurn : V → ℕ → Option (Entry E A) → Type 0
  IsTurn value c None = Unit {0}
  IsTurn value c (Some e) = (e.caller ≡ c) × Answers value e.event e.outcome

  -- What may be given back: the history has at most one entry more, a call of the caller that the value answered,
  -- and the value is the one that the history leads to.
  pub record Gives (opening : V) (p : PassValue V E A) (y : Held V E A) : Type 0 where
    pub place : Option (Entry E A)
    pub turn : IsTurn (value_after after opening p.seen) p.caller place
    pub history : y.history.items ≡ p.seen ++ added place
    pub value : y.value ≡ value_after after opening y.history.items

  -- The history is legal and led to the value; what each pass had seen begins it, and it has the calls of the
  -- passes and no others.
  pub record Closes (opening : V) (passes : List (PassValue V E A)) (y : Held V E A) : Type 0 where
    pub legal : Legal after Answers opening y.history.items
    pub value : y.value ≡ value_after after opening y.history.items
    pub seen : All (λ (p : PassValue V E A). IsBeginning p.seen y.history.items) passes
    pub own : All (λ (p : PassValue V E A). calls p.caller y.history.items ≡ calls p.caller p.seen) passes
    pub others : (c : ℕ) → (Present c passes → ⊥) → calls c y.history.items ≡ []

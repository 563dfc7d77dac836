-- What a seat knows before, in and after a turn.
use Rattle.std.specs.Prelude.{◌≡◌, ℕ, ◌-◌, ◌≤◌, List, [], ◌∷◌, ◌++◌, Option, Some, None}
use Rattle.atomic_table.specs.Table.{Me}
use Rattle.atomic_table.specs.Seated.{TableId}
use Rattle.atomic_table.specs.declared.shared.Seat.{Seat}
use Rattle.turn_lock.specs.declared.entry.Entry.{Entry}
use Rattle.turn_lock.specs.declared.held.Held.{Held}
use Rattle.turn_lock.specs.declared.rule.Key.{Key}
use Rattle.turn_lock.specs.declared.rule.View.{View}
use Rattle.turn_lock.specs.declared.rule.Stage.TheVariants.{Idle, Waits, Holds}
use Rattle.turn_lock.specs.History.{value_after, Legal, calls}
use Rattle.turn_lock.specs.Rule.{filled, Begins, Told, StandsFor, recount, met, longer}

module _ {V E A : Type 0} where
  -- the seat is one of this table, which has two words and a slot
  abbrev pub Fit : TableId → Seat (Option (Held V E A)) (View V E A) → Type 0
  Fit z seat = (seat.table_id ≡ z) × (z.words ≡ 2) × (z.slots ≡ 1)

  -- it is the same seat
  abbrev pub IsSame : Seat (Option (Held V E A)) (View V E A) → Seat (Option (Held V E A)) (View V E A) → Type 0
  IsSame a b = (b.table_id ≡ a.table_id) × (b.id ≡ a.id)

  -- the seat has no ticket and no slot
  abbrev pub IsIdle : Seat (Option (Held V E A)) (View V E A) → Type 0
  IsIdle seat = (seat.me.0.stage ≡ Idle) × (seat.me.1 ≡ [])

  -- the view of a seat that waits with this ticket
  abbrev pub waiting : View V E A → ℕ → View V E A
  waiting v t = record v { budget = v.budget - 1; stage = Waits t }

  -- the seat has seen one place more, with which the history is this
  abbrev pub Leaves : View V E A → Held V E A → Me (Option (Held V E A)) (View V E A) → Type 0
  Leaves v y m =
      (place : Option (Entry E A)) × (m ≡ (record v { places = v.places ++ place ∷ []; left = []; right = []; mine = recount y.history.items v.mine; stage = Idle }, []))
      × (y.history.items ≡ filled (v.places ++ place ∷ []))

-- of a value that is `after` its old state, an event and the outcome, and which `Answers` an event by an outcome
module _ {V E A : Type 0} (after : V → E → A → V) (Answers : V → E → A → Type 0) where
  -- the seat has the slot, out of which y was moved, and knows what led to it
  abbrev pub Took : View V E A → ℕ → Me (Option (Held V E A)) (View V E A) → Held V E A → Type 0
  Took v t m y =
      (places : List (Option (Entry E A))) × (m ≡ (record v { places = places; left = []; right = []; stage = Holds t }, (0, None) ∷ []))
      × Begins v.places places × (y.history.items ≡ filled places)
      × ((o : V) → v.opening ≡ Some o → (y.value ≡ value_after after o (filled places)) × Legal after Answers o (filled places))
      × Told (filled places) v.mine

  -- what a place may be: empty, or a call by one of these callers, answered as the value answers
  abbrev pub Good : V → List (Entry E A) → List (ℕ × List E) → Option (Entry E A) → Type 0
  Good opening h ms None = Unit {0}
  Good opening h ms (Some e) = Answers (value_after after opening h) e.event e.outcome × StandsFor e.caller ms

  -- the value and the history are those after one place more
  abbrev pub Placed : View V E A → Held V E A → Type 0
  Placed v y =
      (o : V) × (place : Option (Entry E A)) × (v.opening ≡ Some o) × Good o (filled v.places) v.mine place
      × (y.history.items ≡ filled (v.places ++ place ∷ [])) × (y.value ≡ value_after after o (filled (v.places ++ place ∷ [])))

  -- the views v and w are one now
  abbrev pub Joined : View V E A → View V E A → Me (Option (Held V E A)) (View V E A) → Type 0
  Joined v w m =
      (m ≡ (met v w, [])) × Begins v.places (longer v.places w.places) × Begins w.places (longer v.places w.places)
      × Told (filled (longer v.places w.places)) (v.mine ++ w.mine) × ((o : V) → v.opening ≡ Some o → Legal after Answers o (filled (longer v.places w.places)))

  -- what is left when every caller is in one seat that has no ticket
  pub record Left (key : Key V) (v : View V E A) (y : Held V E A) : Type 0 where
    pub places : List (Option (Entry E A))
    pub history : y.history.items ≡ filled places
    pub value : y.value ≡ value_after after key.opening.value (filled places)
    pub legal : Legal after Answers key.opening.value (filled places)
    pub seen : Begins v.places places
    pub told : Told (filled places) v.mine
    pub others : (c : ℕ) → key.passes ≤ c → calls c (filled places) ≡ []

-- The rule of the turn lock, and what each step tells.
use Rattle.std.specs.Prelude.{◌≡◌, ◌≢◌, ◌⊎◌, ℕ, zero, suc, ◌+◌, ◌-◌, ◌*◌, ◌<◌, ◌≤◌, List, [], ◌∷◌, ◌++◌, length, Option, Some, None, cond}
use Rattle.std.proofs.Common.{leb}
use mathlib.Core.Option.{some, none}
use mathlib.Core.Option as maybe
use lib.ListN.{get_elem?}
use Rattle.atomic_table.specs.Table.{State, Me, Step}
use Rattle.turn_lock.specs.declared.entry.Entry.{Entry}
use Rattle.turn_lock.specs.declared.held.Held.{Held}
use Rattle.turn_lock.specs.declared.rule.Key.{Key}
use Rattle.turn_lock.specs.declared.rule.View.{View}
use Rattle.turn_lock.specs.declared.rule.Stage.{Stage}
use Rattle.turn_lock.specs.declared.rule.Stage.TheVariants.{Idle, Waits, Holds}
use Rattle.turn_lock.specs.History.{value_after, Legal, calls}

abbrev pub HasTicket : Stage → ℕ → Type 0
HasTicket Idle t = ⊥
HasTicket (Waits u) t = u ≡ t
HasTicket (Holds u) t = u ≡ t

-- 1 where there is a ticket
abbrev pub tickets : Stage → ℕ
tickets Idle = 0
tickets (Waits u) = 1
tickets (Holds u) = 1

-- of callers, each with its events
module _ {E : Type 0} where
  -- a list of callers has this one
  abbrev pub StandsFor : ℕ → List (ℕ × List E) → Type 0
  StandsFor c [] = ⊥
  StandsFor c (m ∷ ms) = (m.0 ≡ c) ⊎ StandsFor c ms

  -- n callers from the number c on, which have made no call
  abbrev pub callers : ℕ → ℕ → List (ℕ × List E)
  callers c zero = []
  callers c (suc n) = (c, []) ∷ callers (suc c) n

  -- all but the first caller
  abbrev pub tail_of : List (ℕ × List E) → List (ℕ × List E)
  tail_of [] = []
  tail_of (m ∷ ms) = ms

  -- the first caller alone
  abbrev pub head_of : List (ℕ × List E) → List (ℕ × List E)
  head_of [] = []
  head_of (m ∷ ms) = m ∷ []

-- of places, one a turn
module _ {E A : Type 0} where
  -- the entries of the places that are not empty
  abbrev pub filled : List (Option (Entry E A)) → List (Entry E A)
  filled [] = []
  filled (None ∷ ps) = filled ps
  filled (Some e ∷ ps) = e ∷ filled ps

  -- the second list begins with the first
  abbrev pub Begins : List (Option (Entry E A)) → List (Option (Entry E A)) → Type 0
  Begins xs ys = (rest : List (Option (Entry E A))) × (ys ≡ xs ++ rest)

  -- one of the two lists, the longer where they differ in length
  abbrev pub longer : List (Option (Entry E A)) → List (Option (Entry E A)) → List (Option (Entry E A))
  longer xs ys = cond (leb (length ys) (length xs)) xs ys

  -- the calls of each are those that it has in the history
  abbrev pub Told : List (Entry E A) → List (ℕ × List E) → Type 0
  Told h [] = Unit {0}
  Told h (m ∷ ms) = (m.1 ≡ calls m.0 h) × Told h ms

  -- these callers with the calls that each has in the history
  abbrev pub recount : List (Entry E A) → List (ℕ × List E) → List (ℕ × List E)
  recount h [] = []
  recount h (m ∷ ms) = (m.0, calls m.0 h) ∷ recount h ms

-- of views
module _ {V E A : Type 0} where
  -- a number of each view, added up
  abbrev pub total : (View V E A → ℕ) → List (View V E A) → ℕ
  total f [] = 0
  total f (v ∷ vs) = f v + total f vs

  -- What one view knows is so: its list begins the places, its callers have the calls that it holds of them, its
  -- ticket is drawn and not over, and where it holds the slot it has seen every place.
  pub record Fits (key : Key V) (places : List (Option (Entry E A))) (ticket : ℕ) (v : View V E A) : Type 0 where
    pub opening : (o : V) → v.opening ≡ Some o → o ≡ key.opening.value
    pub seen : Begins v.places places
    pub left : Begins v.left v.places
    pub right : Begins v.right v.places
    pub mine : Told (filled v.places) v.mine × Told (filled places) v.mine
    pub inside : (c : ℕ) → StandsFor c v.mine → c < key.passes
    pub turn : (t : ℕ) → HasTicket v.stage t → (length places ≤ t) × (t < ticket) × ((c : ℕ) × StandsFor c v.mine)
    pub holds : (t : ℕ) → v.stage ≡ Holds t → (t ≡ length places) × (v.places ≡ places)

  -- no two views have one ticket, or stand for one caller
  pub record Apart (v w : View V E A) : Type 0 where
    pub turns : (t : ℕ) → HasTicket v.stage t → HasTicket w.stage t → ⊥
    pub callers : (c : ℕ) → StandsFor c v.mine → StandsFor c w.mine → ⊥

  abbrev pub view : Option V → List (Option (Entry E A)) → List (Option (Entry E A)) → List (Option (Entry E A)) → List (ℕ × List E) → ℕ → Stage → View V E A
  view opening places left right mine budget stage = record { opening = opening; places = places; left = left; right = right; mine = mine; budget = budget; stage = stage }

  -- it stands for every caller, each of which may draw 2^32 tickets
  abbrev pub first_view : Key V → View V E A
  first_view key = view (Some key.opening.value) [] [] [] (callers 0 key.passes) (key.passes * 4294967296) Idle

  -- the view of a seat that was joined into another
  abbrev pub blank : View V E A
  blank = view None [] [] [] [] 0 Idle

  -- what the dealing seat keeps
  abbrev pub rest_dealt : View V E A → View V E A
  rest_dealt v = record v { mine = tail_of v.mine; budget = v.budget - 4294967296 }

  -- what the seat has that is dealt
  abbrev pub one_dealt : View V E A → View V E A
  one_dealt v = view v.opening v.places [] [] (head_of v.mine) 4294967296 Idle

  -- as much was seen, and there is no caller
  abbrev pub note_of : View V E A → View V E A
  note_of v = view None v.places [] [] [] 0 Idle

  -- two views as one, which has the longer list
  abbrev pub met : View V E A → View V E A → View V E A
  met v w = view v.opening (longer v.places w.places) v.places w.places (v.mine ++ w.mine) (v.budget + w.budget) v.stage

  -- a draw tells the ticket
  abbrev pub drawn : Step (Option (Held V E A)) → Me (Option (Held V E A)) (View V E A) → ℕ → Me (Option (Held V E A)) (View V E A) → Type 0
  drawn st m found m' = m' ≡ (record m.0 { budget = m.0.budget - 1; stage = Waits found }, m.1)

  -- a raise adds a place, which is empty or has the entry that the history gained
  abbrev pub raised : Step (Option (Held V E A)) → Me (Option (Held V E A)) (View V E A) → ℕ → Me (Option (Held V E A)) (View V E A) → Type 0
  raised st m found m' =
      (y : Held V E A) → m.1 ≡ (0, Some y) ∷ []
      → (place : Option (Entry E A)) × (m' ≡ (record m.0 { places = m.0.places ++ place ∷ []; left = []; right = []; mine = recount y.history.items m.0.mine; stage = Idle }, []))
      × (y.history.items ≡ filled (m.0.places ++ place ∷ []))

-- of a value that is `after` its old state, an event and the outcome, and which `Answers` an event by an outcome
module _ {V E A : Type 0} (after : V → E → A → V) (Answers : V → E → A → Type 0) where
  -- what is held is the history of the places, and the value that it leads to
  abbrev pub IsValue : Key V → List (Option (Entry E A)) → Held V E A → Type 0
  IsValue key places y = (y.history.items ≡ filled places) × (y.value ≡ value_after after key.opening.value (filled places))

  -- the slot is home, and no view holds it; or it is away, and a view holds it
  abbrev pub Home : Key V → List (Option (Entry E A)) → List (maybe.Option (Option (Held V E A))) → List (View V E A) → Type 0
  Home key places homes views =
      ((y : Held V E A) × (homes ≡ some (Some y) ∷ []) × IsValue key places y × ((i t : ℕ) (v : View V E A) → get_elem? views i ≡ some v → v.stage ≡ Holds t → ⊥))
      ⊎ ((homes ≡ none ∷ []) × ((h : ℕ) × (v : View V E A) × (get_elem? views h ≡ some v) × (v.stage ≡ Holds (length places))))

  -- The rule. The turns that are over are the places, one each; the history is their entries, and legal. No ticket
  -- is drawn twice: each view has a budget of tickets, and none is made anew.
  pub record Kept (key : Key V) (s : State (Option (Held V E A)) (View V E A)) : Type 0 where
    pub places : List (Option (Entry E A))
    pub ticket : ℕ
    pub words : s.words ≡ ticket ∷ length places ∷ []
    pub few : key.passes ≤ 8
    pub bound : ticket + total (λ v. v.budget) s.views ≡ key.passes * 4294967296
    pub counted : ticket ≡ length places + total (λ v. tickets v.stage) s.views
    pub legal : Legal after Answers key.opening.value (filled places)
    pub others : (c : ℕ) → key.passes ≤ c → calls c (filled places) ≡ []
    pub home : Home key places s.homes s.views
    pub each : (i : ℕ) (v : View V E A) → get_elem? s.views i ≡ some v → Fits key places ticket v
    pub apart : (i j : ℕ) (v w : View V E A) → i ≢ j → get_elem? s.views i ≡ some v → get_elem? s.views j ≡ some w → Apart v w

  -- the seat has the slot, and has seen all places, which led to the value there
  abbrev pub Taken : View V E A → ℕ → Me (Option (Held V E A)) (View V E A) → Type 0
  Taken v t m' =
      (places : List (Option (Entry E A))) × (y : Held V E A) × (m' ≡ (record v { places = places; left = []; right = []; stage = Holds t }, (0, Some y) ∷ []))
      × Begins v.places places × (y.history.items ≡ filled places)
      × ((o : V) → v.opening ≡ Some o → (y.value ≡ value_after after o (filled places)) × Legal after Answers o (filled places))
      × Told (filled places) v.mine

  -- a look at the turns tells a pass that its own has come, and then gives it the slot
  abbrev pub watched : Step (Option (Held V E A)) → Me (Option (Held V E A)) (View V E A) → ℕ → Me (Option (Held V E A)) (View V E A) → Type 0
  watched st m found m' = (t : ℕ) → m.0.stage ≡ Waits t → (found ≡ t → Taken m.0 t m') × (found ≢ t → m' ≡ m)

  -- a look after a join tells what the joined lists are to the one that was kept
  abbrev pub looked : Step (Option (Held V E A)) → Me (Option (Held V E A)) (View V E A) → ℕ → Me (Option (Held V E A)) (View V E A) → Type 0
  looked st m found m' =
      (m' ≡ m) × Begins m.0.left m.0.places × Begins m.0.right m.0.places × Told (filled m.0.places) m.0.mine
      × ((o : V) → m.0.opening ≡ Some o → Legal after Answers o (filled m.0.places))

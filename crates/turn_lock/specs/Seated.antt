-- How passes and notes lie on seats.
use Rattle.std.specs.Prelude.{◌≡◌, ℕ, ◌+◌, ◌*◌, ◌≤◌, List, [], ◌∷◌, ◌++◌, map, Option, Some, None}
use Rattle.std.specs.List.{All}
use Rattle.atomic_table.specs.declared.shared.Seat.{Seat}
use Rattle.turn_lock.specs.declared.held.Held.{Held}
use Rattle.turn_lock.specs.declared.rule.View.{View}
use Rattle.turn_lock.specs.declared.rule.Stage.{Stage}
use Rattle.turn_lock.specs.declared.rule.Stage.TheVariants.{Idle, Waits, Holds}
use Rattle.turn_lock.specs.History.{Legal, calls, IsBeginning}
use Rattle.turn_lock.specs.Rule.{filled, callers}
use Rattle.turn_lock.specs.Turns.{IsSame, IsIdle}
use Rattle.turn_lock.specs.Passes.{PassValue, NoteValue, is_holding, call_of}

-- of what a seat carries
module _ {V E A : Type 0} where
  -- a seat carries the slot, out of which the value was moved, exactly where it holds it; between two calls none waits
  abbrev pub Carries : Stage → List (ℕ × Option (Held V E A)) → Type 0
  Carries Idle carried = carried ≡ []
  Carries (Waits t) carried = ⊥
  Carries (Holds t) carried = carried ≡ (0, None) ∷ []

  -- what a pass with this seat is to contracts
  abbrev pub pass_value : Seat (Option (Held V E A)) (View V E A) → ℕ → ℕ → ℕ → PassValue V E A
  pass_value seat caller used turns = record {
    from = record { table = seat.table_id; opening = seat.me.0.opening };
    caller = caller;
    seen = filled seat.me.0.places;
    used = used;
    turns = turns;
    within = is_holding seat.me.0.stage;
  }

  abbrev pub note_value : Seat (Option (Held V E A)) (View V E A) → NoteValue E A
  note_value seat = record { table = seat.table_id; seen = filled seat.me.0.places }

  -- a note's seat has no caller and draws no ticket
  pub record IsNote (seat : Seat (Option (Held V E A)) (View V E A)) : Type 0 where
    pub idle : IsIdle seat
    pub mine : seat.me.0.mine ≡ []
    pub budget : seat.me.0.budget ≡ 0

  -- the seat from which passes are dealt: it stands for n callers from c on, and has seen nothing
  pub record Deals (seat : Seat (Option (Held V E A)) (View V E A)) (c n : ℕ) : Type 0 where
    pub idle : IsIdle seat
    pub places : seat.me.0.places ≡ []
    pub mine : seat.me.0.mine ≡ callers c n
    pub budget : seat.me.0.budget ≡ n * 4294967296

  -- the seat knows what these passes knew, and stands for their callers too
  pub record Gathers (a b : Seat (Option (Held V E A)) (View V E A)) (ps : List (PassValue V E A)) : Type 0 where
    pub same : IsSame a b
    pub idle : IsIdle b
    pub begins : IsBeginning (filled a.me.0.places) (filled b.me.0.places)
    pub seen : All (λ (p : PassValue V E A). IsBeginning p.seen (filled b.me.0.places)) ps
    pub mine : b.me.0.mine ≡ a.me.0.mine ++ map call_of ps

module _ {V E A : Type 0} (after : V → E → A → V) (Answers : V → E → A → Type 0) where
  -- The seat stands for the caller alone, has seen a legal history, and may draw as many tickets as there are turns.
  pub record IsPass (seat : Seat (Option (Held V E A)) (View V E A)) (caller used turns : ℕ) : Type 0 where
    pub carries : Carries seat.me.0.stage seat.me.1
    pub legal : (opening : V) → seat.me.0.opening ≡ Some opening → Legal after Answers opening (filled seat.me.0.places)
    pub mine : seat.me.0.mine ≡ (caller, calls caller (filled seat.me.0.places)) ∷ []
    pub budget : seat.me.0.budget + used ≡ 4294967296
    pub used_up : used ≤ turns

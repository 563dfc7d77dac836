-- What a candidate's changes make of the registered keys.
use Rattle.std.specs.Prelude.{◌≡◌, ℕ, ◌≤◌, ◌++◌, Bool, List, [], ◌∷◌, Option, Some, MatchOption, slice_get, length, position}
use Rattle.std.specs.Map.{lookup, keys_of, values_of}
use Rattle.ledger_transfers.specs.Rules.{Rules}
use Rattle.ledger_transfers.specs.Touches.{total_of, with_change, max_amount}
use Rattle.ledger_transfers.specs.Settling.{opened, Settles}
use Rattle.ledger_transfers.specs.Taking.{IsHeld, merged}
use Rattle.ledger_transfers.specs.Selecting.{StandsFor, SettledBy, AreReadBy, StandTogether}
use Rattle.ledger_transfers.specs.Revising.{revised, revised_at}
use Rattle.ledger_transfers.specs.declared.change.Change.{Change}
use Rattle.ledger_transfers.specs.declared.held.Held.{Held}
use Rattle.ledger_transfers.specs.declared.revise.Revision.{Revision}
use Rattle.ledger_transfers.specs.declared.totals.Totals.{Totals}

module _ {A E : Type 0} (same : A → A → Bool) (rules : Rules A E) where
  -- what a change makes of a key: its sums with the change, or nothing where the key settles with no batch that goes on with it
  abbrev pub IsRevision : Held A → Change E → Option (Revision A) → Type 0
  IsRevision h change r = (taken : Totals E) → IsHeld same rules h.read h.sums taken
      → MatchOption r ((more : Totals E) → rules.balance_of (opened rules h.read) ≤ max_amount → Settles rules (opened rules h.read) (merged (with_change taken change) more) → ⊥)
      (λ v. IsHeld same rules h.read (revised v h).sums (with_change taken change))

  -- the key settles with what its sums stand for
  abbrev pub SettlesHeld : Held A → Type 0
  SettlesHeld h = (total : Totals E) → IsHeld same rules h.read h.sums total → Settles rules (opened rules h.read) total

  -- the key doesn't settle with what its sums stand for
  abbrev pub FailsHeld : Held A → Type 0
  FailsHeld h = (total : Totals E) → IsHeld same rules h.read h.sums total → Settles rules (opened rules h.read) total → ⊥

  -- the key at a place, if there is one, settles
  abbrev pub SettlesAt : {K : Type 0} → List (K × Held A) → ℕ → Type 0
  SettlesAt entries i = (h : Held A) → slice_get (values_of entries) i ≡ Some h → SettlesHeld h

  -- there is a key at a place, and it doesn't settle
  abbrev pub FailsAt : {K : Type 0} → List (K × Held A) → ℕ → Type 0
  FailsAt entries i = (h : Held A) × (slice_get (values_of entries) i ≡ Some h) × FailsHeld h

  -- the key at some place of a log doesn't settle
  abbrev pub HasFailing : {K : Type 0} → List (K × Held A) → List (ℕ × Revision A) → Type 0
  HasFailing entries log = (i : ℕ) × (b : ℕ × Revision A) × (slice_get log i ≡ Some b) × FailsAt entries b.0

module _ {A E K : Type 0} (eq : K → K → Bool) (same : A → A → Bool) (rules : Rules A E) where
  -- the registered keys opened with amounts, and their sums and accounts are those of the batch
  pub record AreSumsOf (entries : List (K × Held A)) (us : List (K × Change E)) : Type 0 where
    pub amounts : (k : K) (h : Held A) → lookup (eq k) entries ≡ Some h → rules.balance_of (opened rules h.read) ≤ max_amount
    pub each : (k : K) (h : Held A) → lookup (eq k) entries ≡ Some h → IsHeld same rules h.read h.sums (total_of eq us k)

  -- a log entry has the place of a touch's key
  abbrev pub IsPlaceOf : List K → K × Change E → ℕ × Revision A → Type 0
  IsPlaceOf keys t b = position (eq t.0) keys ≡ Some b.0

  -- one touch more, with the log entry that undoes it
  pub record IsAdded (old new : List (K × Held A)) (t : K × Change E) (b : ℕ × Revision A) : Type 0 where
    pub place : IsPlaceOf (keys_of old) t b
    pub back : revised_at new b.0 b.1 ≡ old
    pub reads : AreReadBy eq old new
    pub sums : (us : List (K × Change E)) → AreSumsOf old us → AreSumsOf new (us ++ t ∷ [])

  -- all touches of a candidate, with the places of their keys
  pub record AreAdded (old new : List (K × Held A)) (cs : List (K × Change E)) (log : List (ℕ × Revision A)) : Type 0 where
    pub all : length log ≡ length cs
    pub places : StandTogether (IsPlaceOf (keys_of old)) cs log
    pub sums : (us : List (K × Change E)) → AreSumsOf old us → AreSumsOf new (us ++ cs)

  -- no batch that has these sums settles with these touches
  abbrev pub IsRefused : List (K × Held A) → List (K × Change E) → Type 0
  IsRefused entries cs = (us : List (K × Change E)) → AreSumsOf entries us → SettledBy eq same rules entries (us ++ cs) → ⊥

  -- each batch that has these sums settles with these touches, and then has the new ones
  abbrev pub IsTaken : List (K × Held A) → List (K × Held A) → List (K × Change E) → Type 0
  IsTaken old new cs = (ts : List (K × Change E)) → StandsFor eq same rules old ts → SettledBy eq same rules old (ts ++ cs) × StandsFor eq same rules new (ts ++ cs)

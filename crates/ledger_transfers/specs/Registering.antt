-- What touching and registering make of a selection.
use Rattle.std.specs.Prelude.{◌≡◌, ℕ, ◌≤◌, ◌++◌, Bool, List, Option, None, Some, map, length, take, drop, slice_get}
use Rattle.std.specs.List.{All, IsDistinct, zip}
use Rattle.std.specs.Map.{keys_of}
use Rattle.indexmap.specs.IndexSet.{insert_all}
use Rattle.ledger_transfers.specs.Rules.{Rules}
use Rattle.ledger_transfers.specs.Touches.{total_of, max_amount}
use Rattle.ledger_transfers.specs.Settling.{opened, SettlesTo}
use Rattle.ledger_transfers.specs.Selecting.{StandsFor, opened_at}
use Rattle.ledger_transfers.specs.declared.change.Change.{Change}
use Rattle.ledger_transfers.specs.declared.slot.Slot.{Slot}
use Rattle.ledger_transfers.specs.declared.held.Held.{Held}

-- the keys, and after them the keys of the touches that weren't there, in order of first touch
abbrev pub touched : {K E : Type 0} → (K → K → Bool) → List K → List (K × Change E) → List K
touched eq keys ts = insert_all eq keys (map (λ t. t.0) ts)

-- the registered keys are the first of the touched ones, and no two of these are equal
pub record IsSelection {A K : Type 0} (eq : K → K → Bool) (keys : List K) (entries : List (K × Held A)) : Type 0 where
  pub front : keys_of entries ≡ take (length entries) keys
  pub distinct : IsDistinct eq keys

-- a key that was read, with nothing accepted yet
abbrev pub fresh : {A : Type 0} → Option A → Held A
fresh read = record { read = read; sums = record { debits = 0; credits = 0; account = None } }

-- the registered keys with one read more for each of the next keys
abbrev pub registered : {A K : Type 0} → List K → List (K × Held A) → List (Option A) → List (K × Held A)
registered keys entries reads = entries ++ map (λ p. (p.0, fresh p.1)) (zip (drop (length entries) keys) reads)

-- each read opens with an amount
abbrev pub AreAmounts : {A E : Type 0} → Rules A E → List (Option A) → Type 0
AreAmounts rules reads = All (λ read. rules.balance_of (opened rules read) ≤ max_amount) reads

-- one slot per key, each that of the key in the batch
module _ {A E K : Type 0} (eq : K → K → Bool) (same : A → A → Bool) (rules : Rules A E) where
  pub record AreSettled (keys : List K) (opened_at : K → A) (ts : List (K × Change E)) (slots : List (Slot A)) : Type 0 where
    pub all : length slots ≡ length keys
    pub each : (i : ℕ) (k : K) (slot : Slot A) → slice_get keys i ≡ Some k → slice_get slots i ≡ Some slot → SettlesTo same rules (opened_at k) (total_of eq ts k) slot

module _ {A E K : Type 0} (eq : K → K → Bool) (same : A → A → Bool) (rules : Rules A E) where
  -- the slot is that of the key at a place, in each batch that the selection stands for
  abbrev pub IsKeySlot : List K → List (K × Held A) → ℕ → Slot A → Type 0
  IsKeySlot keys entries i slot = (ts : List (K × Change E)) → StandsFor eq same rules entries ts → (k : K) → slice_get keys i ≡ Some k → SettlesTo same rules (opened_at eq same rules entries k) (total_of eq ts k) slot

-- A batch against the reads of its plan.
use Rattle.std.specs.Prelude.{◌≡◌, ℕ, Bool, true, List, Option, None, Some, slice_get, unwrap_or, ⊤}
use Rattle.std.specs.List.{zip}
use Rattle.std.specs.Map.{lookup, keys_of}
use Rattle.ledger_transfers.specs.Rules.{Rules}
use Rattle.ledger_transfers.specs.Touches.{IsTouched, IsPlanOf}
use Rattle.ledger_transfers.specs.Settling.{opened, Settled, HasFirstOffence, SameSlot}
use Rattle.ledger_transfers.specs.Registering.{AreSettled}
use Rattle.ledger_transfers.specs.declared.change.Change.{Change}
use Rattle.ledger_transfers.specs.declared.slot.Slot.{Slot}
use Rattle.ledger_transfers.specs.declared.totals.Totals.{Totals}
use Rattle.ledger_transfers.specs.declared.fault.PlanFault.{PlanFault}
use Rattle.ledger_transfers.specs.declared.fault.PlanFault.TheVariants.{Rejected, OutOfMemory}

module _ {A E K : Type 0} (eq : K → K → Bool) (rules : Rules A E) where
  -- the account that a key opens with, where the reads stand at the places of the keys
  abbrev pub opened_by : List K → List (Option A) → K → A
  opened_by keys reads k = opened rules (unwrap_or (lookup (eq k) (zip keys reads)) None)

  -- the batch isn't settled, by the first offence of some touched key, or memory is wanting
  abbrev pub BatchFails : (K → A) → List (K × Change E) → PlanFault K → Type 0
  BatchFails opened_at ts (Rejected r) = HasFirstOffence eq rules opened_at ts r × (Settled eq rules opened_at ts → ⊥)
  BatchFails opened_at ts OutOfMemory = ⊤

  -- the batch is settled, with one slot per key
  pub record BatchSettles (same : A → A → Bool) (keys : List K) (opened_at : K → A) (ts : List (K × Change E)) (slots : List (Slot A)) : Type 0 where
    pub settled : Settled eq rules opened_at ts
    pub slots_are : AreSettled eq same rules keys opened_at ts slots

-- equal keys have the same slot
abbrev pub SameSlots : {A K : Type 0} → (K → K → Bool) → (A → A → Bool) → List K → List (Slot A) → List K → List (Slot A) → Type 0
SameSlots {A} {K} eq same keys slots others theirs = (i j : ℕ) (k q : K) (s t : Slot A) → slice_get keys i ≡ Some k → slice_get slots i ≡ Some s → slice_get others j ≡ Some q → slice_get theirs j ≡ Some t → eq k q ≡ true → SameSlot same s t

module _ {A E K : Type 0} (eq : K → K → Bool) (same : A → A → Bool) (rules : Rules A E) where
  -- each touched key opens with an account that is the same
  abbrev pub OpensAlike : List (K × Change E) → (K → A) → (K → A) → Type 0
  OpensAlike ts opened_at to = (k : K) → IsTouched eq ts k → same (opened_at k) (to k) ≡ true

  -- over all accounts that open the touched keys alike the batch is settled, and wherever it is settled by a plan of it, equal keys have these slots
  pub record AgreesWithPlans (keys : List K) (opened_at : K → A) (ts : List (K × Change E)) (slots : List (Slot A)) : Type 0 where
    pub settled : (to : K → A) → OpensAlike ts opened_at to → Settled eq rules to ts
    pub slots_are : (plan : List (K × Totals E)) (to : K → A) (theirs : List (Slot A)) → IsPlanOf eq ts plan → OpensAlike ts opened_at to
        → AreSettled eq same rules (keys_of plan) to ts theirs → SameSlots eq same keys slots (keys_of plan) theirs

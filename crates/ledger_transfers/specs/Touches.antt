-- What the transfers of a batch do to each key.
use Rattle.std.specs.Prelude.{◌≡◌, ℕ, ◌+◌, ◌-◌, ◌^◌, ◌<◌, ◌≤◌, ◌++◌, Bool, not, List, [], Option, None, Some, filter, sum_by, IsTrue, if◌then◌else◌}
use Rattle.std.specs.List.{filter_map, flat_map, list_any, IsDistinct}
use Rattle.std.specs.Map.{lookup, keys_of}
use Rattle.std.specs.Option.{option_to_list}
use Rattle.ledger_transfers.specs.Changes.{is_empty_change}
use Rattle.ledger_transfers.specs.declared.change.Change.{Change}
use Rattle.ledger_transfers.specs.declared.fault.Rejection.{Rejection}
use Rattle.ledger_transfers.specs.declared.fault.Rejection.TheVariants.{Refused, Insufficient, Overflow}
use Rattle.ledger_transfers.specs.declared.totals.Totals.{Totals}

-- the changes of a batch's transfers in order, with their keys, without the empty ones
abbrev pub touches : {T K E : Type 0} → (T → List (K × Change E)) → List T → List (K × Change E)
touches changes_of batch = filter (λ t. not (is_empty_change t.1)) (flat_map changes_of batch)

module _ {K E : Type 0} (eq : K → K → Bool) where
  -- the touches of a key
  abbrev pub touches_of : List (K × Change E) → K → List (K × Change E)
  touches_of ts k = filter (λ t. eq k t.0) ts

  -- the sum of a key's debits
  abbrev pub deb : List (K × Change E) → K → ℕ
  deb ts k = sum_by (λ t. t.1.debit) (touches_of ts k)

  -- the sum of a key's credits
  abbrev pub cred : List (K × Change E) → K → ℕ
  cred ts k = sum_by (λ t. t.1.credit) (touches_of ts k)

  -- a key's effects, in order
  abbrev pub effs : List (K × Change E) → K → List E
  effs ts k = filter_map (λ t. t.1.effect) (touches_of ts k)

  -- some change of the batch names the key
  abbrev pub IsTouched : List (K × Change E) → K → Type 0
  IsTouched ts k = IsTrue (list_any (λ t. eq k t.0) ts)

module _ {K E : Type 0} (eq : K → K → Bool) where
  -- a key's debits, credits and effects
  abbrev pub total_of : List (K × Change E) → K → Totals E
  total_of ts k = record { debits = deb eq ts k; credits = cred eq ts k; effects = effs eq ts k }

  -- what the batch does to a key, if some change names it
  abbrev pub found_total : List (K × Change E) → K → Option (Totals E)
  found_total ts k = if list_any (λ t. eq k t.0) ts then Some (total_of ts k) else None

  -- exactly the touched keys, each once, with their debits, credits and effects
  pub record IsPlanOf (ts : List (K × Change E)) (plan : List (K × Totals E)) : Type 0 where
    pub distinct : IsDistinct eq (keys_of plan)
    pub each : (k : K) → lookup (eq k) plan ≡ found_total ts k

-- one change more
abbrev pub with_change : {E : Type 0} → Totals E → Change E → Totals E
with_change total change = record {
  debits = total.debits + change.debit;
  credits = total.credits + change.credit;
  effects = total.effects ++ option_to_list change.effect;
}

-- the greatest amount
abbrev pub max_amount : ℕ
max_amount = 2 ^ 64 - 1

-- a key whose debits or credits alone are too great
abbrev pub IsSumOffence : {K E : Type 0} → (K → K → Bool) → List (K × Change E) → Rejection K → Type 0
IsSumOffence eq ts (Refused k) = ⊥
IsSumOffence eq ts (Insufficient k) = max_amount < deb eq ts k
IsSumOffence eq ts (Overflow k) = max_amount < cred eq ts k

-- nothing yet
abbrev pub no_total : {E : Type 0} → Totals E
no_total = record { debits = 0; credits = 0; effects = [] }

-- the sums with one change more are amounts
abbrev pub FitsWith : {E : Type 0} → Totals E → Change E → Type 0
FitsWith total change = (total.debits + change.debit ≤ max_amount) × (total.credits + change.credit ≤ max_amount)

-- each key's sums are amounts
abbrev pub IsWithinSums : {K E : Type 0} → (K → K → Bool) → List (K × Change E) → Type 0
IsWithinSums {K} eq ts = (k : K) → (deb eq ts k ≤ max_amount) × (cred eq ts k ≤ max_amount)

-- What settling makes of accounts.
use Rattle.std.specs.Prelude.{◌≡◌, ℕ, ◌+◌, ◌-◌, ◌<◌, ◌≤◌, Bool, true, List, [], ◌∷◌, length, slice_get, Option, Some, IsSome, IsNone, MatchOption, unwrap_or, option_and_then, if◌then◌else◌, ⊤}
use Rattle.std.specs.Option.{option_map}
use Rattle.std.specs.List.{All}
use Rattle.ledger_transfers.specs.Rules.{Rules}
use Rattle.ledger_transfers.specs.Touches.{max_amount, total_of, IsTouched}
use Rattle.ledger_transfers.specs.declared.change.Change.{Change}
use Rattle.ledger_transfers.specs.declared.slot.Slot.{Slot}
use Rattle.ledger_transfers.specs.declared.slot.Slot.TheVariants.{Keep, Delete, Put}
use Rattle.ledger_transfers.specs.declared.fault.Rejection.{Rejection}
use Rattle.ledger_transfers.specs.declared.fault.Rejection.TheVariants.{Refused, Insufficient, Overflow}
use Rattle.ledger_transfers.specs.declared.fault.PlanFault.{PlanFault}
use Rattle.ledger_transfers.specs.declared.fault.PlanFault.TheVariants.{Rejected, OutOfMemory}
use Rattle.ledger_transfers.specs.declared.totals.Totals.{Totals}

module _ {A E : Type 0} (rules : Rules A E) where
  -- the account after the effects in order, or none where one is refused
  abbrev pub folded : A → List E → Option A
  folded a [] = Some a
  folded a (e ∷ es) = option_and_then (λ b. folded b es) (rules.applied a e)

  -- the account that a key opens with
  abbrev pub opened : Option A → A
  opened read = unwrap_or read rules.initial

  -- the opening balance less the debits, and then the credits
  abbrev pub final_balance : A → Totals E → ℕ
  final_balance a total = (rules.balance_of a - total.debits) + total.credits

  -- the account after the effects, with the final balance
  abbrev pub after : A → Totals E → Option A
  after a total = option_map (λ b. rules.with_balance b (final_balance a total)) (folded a total.effects)

  -- no effect is refused, the opening balance covers the debits, and the final balance is an amount
  pub record Settles (a : A) (total : Totals E) : Type 0 where
    pub accepted : IsSome (folded a total.effects)
    pub funded : total.debits ≤ rules.balance_of a
    pub fits : final_balance a total ≤ max_amount

  -- the first reason for which a key doesn't settle
  abbrev pub IsFirstOffence : {K : Type 0} → A → Totals E → K → Rejection K → Type 0
  IsFirstOffence a total k (Refused q) = (q ≡ k) × IsNone (folded a total.effects)
  IsFirstOffence a total k (Insufficient q) = (q ≡ k) × IsSome (folded a total.effects) × (rules.balance_of a < total.debits)
  IsFirstOffence a total k (Overflow q) = (q ≡ k) × IsSome (folded a total.effects) × (total.debits ≤ rules.balance_of a) × (max_amount < final_balance a total)

-- the same slot, where accounts are compared by `same`
abbrev pub SameSlot : {A : Type 0} → (A → A → Bool) → Slot A → Slot A → Type 0
SameSlot same Keep Keep = ⊤
SameSlot same Delete Delete = ⊤
SameSlot same (Put a) (Put b) = same a b ≡ true
SameSlot same s t = ⊥

module _ {A E : Type 0} (same : A → A → Bool) (rules : Rules A E) where
  -- what becomes of the account a that ends as e
  abbrev pub slot_of : A → A → Slot A
  slot_of a e = if same e a then Keep else (if same e rules.initial then Delete else Put e)

  -- the key settles, with this slot
  pub record SettlesTo (a : A) (total : Totals E) (slot : Slot A) : Type 0 where
    pub settles : Settles rules a total
    pub slot_is : MatchOption (after rules a total) ⊥ (λ e. SameSlot same slot (slot_of a e))

  -- the slot is that of the key and the read at a place
  abbrev pub IsSlotAt : {K : Type 0} → List (K × Totals E) → List (Option A) → ℕ → Slot A → Type 0
  IsSlotAt {K} plan reads i slot = (entry : K × Totals E) (read : Option A) → slice_get plan i ≡ Some entry → slice_get reads i ≡ Some read → SettlesTo (opened rules read) entry.1 slot

  -- each slot is that of the key and the read at its place
  abbrev pub SlotsStand : {K : Type 0} → List (K × Totals E) → List (Option A) → List (Slot A) → Type 0
  SlotsStand {K} plan reads slots = (i : ℕ) (entry : K × Totals E) (read : Option A) (slot : Slot A) → slice_get plan i ≡ Some entry → slice_get reads i ≡ Some read → slice_get slots i ≡ Some slot
      → SettlesTo (opened rules read) entry.1 slot

  -- one slot per key of a plan, over one read per key
  pub record AreSlots {K : Type 0} (plan : List (K × Totals E)) (reads : List (Option A)) (slots : List (Slot A)) : Type 0 where
    pub all : length slots ≡ length plan
    pub each : SlotsStand plan reads slots

module _ {A E K : Type 0} (rules : Rules A E) where
  -- a key's first offence, or want of memory
  abbrev pub KeyFails : A → Totals E → K → PlanFault K → Type 0
  KeyFails a total k (Rejected r) = IsFirstOffence rules a total k r
  KeyFails a total k OutOfMemory = ⊤

  -- the first offence of some key of a plan, over one read per key, or want of memory
  abbrev pub PlanFails : List (K × Totals E) → List (Option A) → PlanFault K → Type 0
  PlanFails plan reads (Rejected r) = (i : ℕ) × (entry : K × Totals E) × (read : Option A) × (slice_get plan i ≡ Some entry) × (slice_get reads i ≡ Some read) × IsFirstOffence rules (opened rules read) entry.1 entry.0 r
  PlanFails plan reads OutOfMemory = ⊤

module _ {A E K : Type 0} (eq : K → K → Bool) (rules : Rules A E) (opened_at : K → A) where
  -- each touched key settles
  abbrev pub Settled : List (K × Change E) → Type 0
  Settled ts = All (λ t. Settles rules (opened_at t.0) (total_of eq ts t.0)) ts

  -- the first offence of a touched key
  abbrev pub HasFirstOffence : List (K × Change E) → Rejection K → Type 0
  HasFirstOffence ts r = (k : K) × IsTouched eq ts k × IsFirstOffence rules (opened_at k) (total_of eq ts k) k r

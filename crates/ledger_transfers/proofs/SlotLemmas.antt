-- Slots that are worked out in parts.
use Rattle.std.proofs.Common.{◌≡◌, ℕ, Bool, List, Option, Result, Err, Vec, Global, IfErr, length, slice_get, Some, sym, subst, ◌∙◌}
use mathlib.Core.Logic.{◌⊎◌, inl, inr}
use Rattle.ledger_strategy.specs.Parts.{AreResults, HasFault}
use Rattle.ledger_strategy.proofs.PartsLemmas.{fault_at}
use Rattle.ledger_transfers.specs.Rules.{Rules}
use Rattle.ledger_transfers.specs.Settling.{opened, SettlesTo, IsSlotAt, AreSlots, PlanFails}
use Rattle.ledger_transfers.specs.declared.fault.PlanFault.{PlanFault}
use Rattle.ledger_transfers.specs.declared.fault.PlanFault.TheVariants.{OutOfMemory}
use Rattle.ledger_transfers.specs.declared.slot.Slot.{Slot}
use Rattle.ledger_transfers.specs.declared.totals.Totals.{Totals}
use Rattle.ledger_transfers.proofs.SelectLemmas.{Some_injective}

module _ {A E K : Type 0} (same : A → A → Bool) (rules : Rules A E) where
  -- the slot of what stands at a place
  pub slot_at : (plan : List (K × Totals E)) (reads : List (Option A)) (i : ℕ) (e : K × Totals E) (r : Option A) (slot : Slot A)
      → slice_get plan i ≡ Some e → slice_get reads i ≡ Some r → SettlesTo same rules (opened rules r) e.1 slot → IsSlotAt same rules plan reads i slot
  slot_at plan reads i e r slot a b s entry read p q =
      let is : e ≡ entry = Some_injective e entry (sym a ∙ p) in
      let was : r ≡ read = Some_injective r read (sym b ∙ q) in
      subst (λ (x : K × Totals E). SettlesTo same rules (opened rules read) x.1 slot) is (subst (λ x. SettlesTo same rules (opened rules x) e.1 slot) was s)

  -- the slots of all places are those of the plan
  pub slots_of_places : (plan : List (K × Totals E)) (reads : List (Option A)) (slots : List (Slot A)) → length reads ≡ length plan
      → AreResults (IsSlotAt same rules plan reads) (length reads) slots → AreSlots same rules plan reads slots
  slots_of_places plan reads slots l are = record { all = are.all ∙ l; each = λ i entry read slot p q u. are.each i slot u entry read p q }

module _ {A E K : Type 0} (rules : Rules A E) where
  -- the fault of a part
  pub fails_in_part : {X : Type 0} (plan : List (K × Totals E)) (reads : List (Option A)) (lists : List (Result (Vec X Global) (PlanFault K))) (fault : PlanFault K)
      → ((i : ℕ) (list : Result (Vec X Global) (PlanFault K)) → slice_get lists i ≡ Some list → IfErr list (PlanFails rules plan reads))
      → HasFault lists fault ⊎ (fault ≡ OutOfMemory) → PlanFails rules plan reads fault
  fails_in_part plan reads lists fault each (inl h) = let at = fault_at lists fault h in each at.0 (Err fault) at.1
  fails_in_part plan reads lists fault each (inr e) = subst (PlanFails rules plan reads) (sym e) tt

-- a fault that is of a list, or want of memory
pub fault_of : {W X K : Type 0} (lists : List (Result (Vec X Global) (PlanFault K))) (fault : PlanFault K) → HasFault lists fault ⊎ (W × (fault ≡ OutOfMemory)) → HasFault lists fault ⊎ (fault ≡ OutOfMemory)
fault_of lists fault (inl h) = inl h
fault_of lists fault (inr h) = inr (h.1)

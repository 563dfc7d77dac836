-- No account of a key without a value comes into the map.
use Rattle.std.proofs.Common.{◌≡◌, ℕ, suc, Bool, true, false, cond, List, [], ◌∷◌, ◌++◌, length, reverse, slice_get, Option, None, Some, refl, sym, subst, ◌∙◌, bytes_eq, arith}
use Rattle.std.specs.Prelude.{MatchOption, OnOk, Result, Ok, Err, option_to_list, ⊤}
use Rattle.std.specs.Cmp.{IsEquivalence}
use Rattle.std.proofs.lemmas.List.{reverse-append}
use Rattle.std.specs.BTreeMap.{BTreeMap}
use Rattle.ledger_log.specs.declared.any.AnyOp.{AnyOp}
use Rattle.ledger_managed.specs.Values.{Values}
use Rattle.ledger_transfers.specs.Rules.{Rules, SameOutcome}
use Rattle.ledger_transfers.specs.Touches.{total_of}
use Rattle.ledger_transfers.specs.Registering.{AreSettled}
use Rattle.ledger_transfers.specs.Settling.{after, SettlesTo, SameSlot, slot_of}
use Rattle.ledger_transfers.specs.declared.change.Change.{Change}
use Rattle.ledger_transfers.specs.declared.slot.Slot.{Slot}
use Rattle.ledger_transfers.specs.declared.slot.Slot.TheVariants.{Keep, Put, Delete as Remove}
use Rattle.ledger_transfers.specs.declared.totals.Totals.{Totals}
use Rattle.ledger_settling.specs.Blocks.{account_at}
use Rattle.ledger_settling.specs.Reports.{held, IsReplay, NoneInitial}
use Rattle.ledger_settling.specs.Slots.{IsProper, AreProper, StaysProper}

module _ {A E : Type 0} (same : A → A → Bool) (rules : Rules A E) where
  -- one key more has an account, or none
  pub proper_with : (old new : BTreeMap (List ℕ) A) (key : List ℕ) (at : List ℕ → Bool) (found : Option A) → MatchOption found ⊤ (λ a. same a rules.initial ≡ false)
      → ((q : List ℕ) → held new q ≡ cond (at q) found (held old q)) → StaysProper same rules old new
  proper_with old new key at found p u h q = subst (λ o. MatchOption o ⊤ (λ a. same a rules.initial ≡ false)) (sym (u q)) (by (at q))
    where
      by : (b : Bool) → MatchOption (cond b found (held old q)) ⊤ (λ a. same a rules.initial ≡ false)
      by true = p
      by false = h q

  -- what is proper of all slots is of those before the last one, and of this
  pub proper_before : (rest : List (Slot A)) (r : Option (Slot A)) → AreProper same rules (rest ++ option_to_list r) → AreProper same rules rest
  proper_before [] r h = tt
  proper_before (s ∷ rest) r h = (h.0, proper_before rest r h.1)

  pub proper_last : (rest : List (Slot A)) (r : Option (Slot A)) → AreProper same rules (rest ++ option_to_list r) → MatchOption r ⊤ (IsProper same rules)
  proper_last [] None h = tt
  proper_last [] (Some s) h = h.0
  proper_last (s ∷ rest) r h = proper_last rest r h.1

  proper_push : (ss : List (Slot A)) (s : Slot A) → AreProper same rules ss → IsProper same rules s → AreProper same rules (ss ++ s ∷ [])
  proper_push [] s h k = (k, tt)
  proper_push (t ∷ ss) s h k = (h.0, proper_push ss s h.1 k)

  -- in either order
  pub proper_reversed : (ss : List (Slot A)) → AreProper same rules ss → AreProper same rules (reverse ss)
  proper_reversed [] h = tt
  proper_reversed (s ∷ ss) h = subst (AreProper same rules) (sym (reverse-append (s ∷ []) ss)) (proper_push (reverse ss) s (proper_reversed ss h.1) h.0)

  module _ (equiv : IsEquivalence same) where
    proper_slot : (a : A) (total : Totals E) (slot : Slot A) → SettlesTo same rules a total slot → IsProper same rules slot
    proper_slot a total Keep h = tt
    proper_slot a total Remove h = tt
    proper_slot a total (Put x) h = by (after rules a total) h.slot_is
      where
        at : (e : A) (b c : Bool) → same e rules.initial ≡ c → SameSlot same (Put x) (cond b Keep (cond c Remove (Put e))) → same x rules.initial ≡ false
        at e true c k s = absurd s
        at e false true k s = absurd s
        at e false false k s = equiv.congr x e rules.initial s ∙ k

        by : (o : Option A) → MatchOption o ⊥ (λ e. SameSlot same (Put x) (slot_of same rules a e)) → same x rules.initial ≡ false
        by None s = absurd s
        by (Some e) s = at e (same e a) (same e rules.initial) refl s

    proper_each : (P : List ℕ → Slot A → Type 0) (ks : List (List ℕ)) (ss : List (Slot A)) → length ss ≡ length ks → ((k : List ℕ) (s : Slot A) → P k s → IsProper same rules s)
        → ((i : ℕ) (k : List ℕ) (s : Slot A) → slice_get ks i ≡ Some k → slice_get ss i ≡ Some s → P k s) → AreProper same rules ss
    proper_each P ks [] l f h = tt
    proper_each P [] (s ∷ ss) l f h = absurd (omega (arith, l))
    proper_each P (k ∷ ks) (s ∷ ss) l f h = (f k s (h 0 k s refl refl), proper_each P ks ss (omega (arith, l)) f (λ i q t a b. h (suc i) q t a b))

    -- slots that settle are proper
    pub settled_proper : (keys : List (List ℕ)) (opening : List ℕ → A) (ts : List (List ℕ × Change E)) (slots : List (Slot A)) → AreSettled bytes_eq same rules keys opening ts slots → AreProper same rules slots
    settled_proper keys opening ts slots are =
        proper_each (λ k s. SettlesTo same rules (opening k) (total_of bytes_eq ts k) s) keys slots are.all (λ k s. proper_slot (opening k) (total_of bytes_eq ts k) s) are.each

    -- accounts that are the same are proper alike
    proper_alike : (r s : Option A) → SameOutcome same r s → MatchOption r ⊤ (λ a. same a rules.initial ≡ false) → MatchOption s ⊤ (λ a. same a rules.initial ≡ false)
    proper_alike None None o h = tt
    proper_alike None (Some b) o h = absurd o
    proper_alike (Some a) None o h = absurd o
    proper_alike (Some a) (Some b) o h = sym (equiv.congr a b rules.initial o) ∙ h

    proper_back : (r s : Option A) → SameOutcome same r s → MatchOption s ⊤ (λ a. same a rules.initial ≡ false) → MatchOption r ⊤ (λ a. same a rules.initial ≡ false)
    proper_back None None o h = tt
    proper_back None (Some b) o h = absurd o
    proper_back (Some a) None o h = absurd o
    proper_back (Some a) (Some b) o h = equiv.congr a b rules.initial o ∙ h

    -- and so the operations' accounts, where the maps' are
    pub proper_replays : (values : Values A) (before after : BTreeMap (List ℕ) A) (ops all : List AnyOp) → IsReplay same values before ops → IsReplay same values after all → StaysProper same rules before after
        → NoneInitial same rules (account_at values ops) → NoneInitial same rules (account_at values all)
    proper_replays values before after ops all r s stays h key =
        proper_alike (held after key) (account_at values all key) (s key) (stays (λ q. proper_back (held before q) (account_at values ops q) (r q) (h q)) key)

-- what follows from a premise that holds
pub on_ok_use : {X Y : Type 0} (r : Result X Y) (P Q : Type 0) → P → OnOk r (P → Q) → OnOk r Q
on_ok_use (Ok x) P Q p h = h p
on_ok_use (Err e) P Q p h = tt

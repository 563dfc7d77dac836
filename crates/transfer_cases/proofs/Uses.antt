-- What the clauses of settling come to at the payments that they are tried on.
use Rattle.std.proofs.Common.{◌≡◌, ℕ, ◌&&◌, Bool, true, false, List, [], ◌∷◌, ◌++◌, length, take, Option, Some, None, Result, Ok, Err, cond, refl, sym, ap, subst, ◌∙◌}
use Rattle.std.specs.Prelude.{◌↔◌, nat_eq, IfOk, OnOk, IsTrue, IsNone, IsPermutation, option_and_then, unwrap_or}
use Rattle.std.specs.List.{All}
use Rattle.std.specs.Map.{keys_of}
use Rattle.std.proofs.lemmas.Bool.{eqb-true, eq-eqb}
use Rattle.std.proofs.lemmas.List.Elements.{All-nil, All-cons}
use Rattle.std.proofs.lemmas.List.Sorted.{IsPermutation-append_comm}
use Rattle.ledger_transfers.specs.Accounts.{balance_rules, sequenced_rules}
use Rattle.ledger_transfers.specs.Batches.{AgreesWithPlans, BatchFails, BatchSettles, SameSlots, opened_by}
use Rattle.ledger_transfers.specs.Greedy.{IsChosen}
use Rattle.ledger_transfers.specs.Orders.{EndsAlike, HasNoEffects, OpensByKey}
use Rattle.ledger_transfers.specs.Registering.{AreSettled, fresh, touched}
use Rattle.ledger_transfers.specs.Selecting.{AllDecided, AreReadBy, opened_at}
use Rattle.ledger_transfers.specs.Settling.{opened}
use Rattle.ledger_transfers.specs.Touches.{IsPlanOf, touches}
use Rattle.ledger_transfers.specs.declared.balance.Balance.{Balance}
use Rattle.ledger_transfers.specs.declared.balance.NoEffect.{NoEffect}
use Rattle.ledger_transfers.specs.declared.change.Change.{Change}
use Rattle.ledger_transfers.specs.declared.fault.PlanFault.{PlanFault}
use Rattle.ledger_transfers.specs.declared.held.Held.{Held}
use Rattle.ledger_transfers.specs.declared.sequenced.Sequenced.{Sequenced}
use Rattle.ledger_transfers.specs.declared.slot.Slot.{Slot}
use Rattle.ledger_transfers.specs.declared.totals.Totals.{Totals}
use Rattle.ledger_transfers.proofs.TakenLemmas.{opened_alike}
use Rattle.transfer_cases.specs.Payments.{payment_changes, same_account}
use Rattle.transfer_cases.specs.Promised.{AreRight, ArePlanned, FailsBoth, SettlesFirst, StandsOver, candidates, first, opening, paid, second, two_keys}
use Rattle.transfer_cases.specs.declared.payment.Payment.{Payment}

-- ---- verdicts

pub whole : (payments : List Payment) (verdicts : List Bool) → payments ≡ candidates → length verdicts ≡ length payments → payments ≡ take (length verdicts) candidates
whole payments verdicts are l = are ∙ sym (ap (λ (n : ℕ). take n candidates) (l ∙ ap length are))

pub right_of : (old new : List (ℕ × Held Sequenced)) (given : List Payment) (verdicts : List Bool) → old ≡ opening → StandsOver old [] → given ≡ take (length verdicts) candidates
    → AllDecided nat_eq same_account sequenced_rules payment_changes old new given verdicts → IsChosen nat_eq same_account sequenced_rules payment_changes old new given verdicts → AreRight new (take (length verdicts) candidates) verdicts
right_of old new given verdicts e stands g decided chosen =
    let all : List Payment = take (length verdicts) candidates in
    let from : StandsOver opening [] = subst (λ (o : List (ℕ × Held Sequenced)). StandsOver o []) e stands in
    let d = subst (λ (o : List (ℕ × Held Sequenced)). AllDecided nat_eq same_account sequenced_rules payment_changes o new all verdicts) e
    (subst (λ (cs : List Payment). AllDecided nat_eq same_account sequenced_rules payment_changes old new cs verdicts) g decided) in
    let h = subst (λ (o : List (ℕ × Held Sequenced)). IsChosen nat_eq same_account sequenced_rules payment_changes o new all verdicts) e
    (subst (λ (cs : List Payment). IsChosen nat_eq same_account sequenced_rules payment_changes old new cs verdicts) g chosen) in
    record { verdicts_are = (d [] from).0; stands = (d [] from).1; greedy = (h [] from).0; stands_taken = (h [] from).1 }

-- ---- slots

-- the touches of the first payment
abbrev pub firsts : List (ℕ × Change ℕ)
firsts = touches payment_changes (first ∷ [])

alike_self : (a : Sequenced) → same_account a a ≡ true
alike_self a = ap (λ (b : Bool). b && nat_eq a.nonce a.nonce) (eq-eqb a.balance a.balance refl) ∙ eq-eqb a.nonce a.nonce refl

pub same_slots : (keys : List ℕ) (entries : List (ℕ × Held Sequenced)) (slots theirs : List (Slot Sequenced)) → keys ≡ two_keys → AreReadBy nat_eq opening entries
    → AgreesWithPlans nat_eq same_account sequenced_rules keys (opened_at nat_eq same_account sequenced_rules entries) firsts slots → ArePlanned theirs → SameSlots nat_eq same_account two_keys slots two_keys theirs
same_slots keys entries slots theirs k reads agrees planned =
    let opens : ℕ → Sequenced = opened_at nat_eq same_account sequenced_rules opening in
    let one : opened_at nat_eq same_account sequenced_rules entries ≡ opens = opened_alike nat_eq same_account sequenced_rules opening entries reads in
    let settled = subst (λ (ks : List ℕ). AreSettled nat_eq same_account sequenced_rules ks opens firsts theirs) (sym planned.keys_are) planned.slots_are in
    let same = agrees.slots_are planned.plan opens theirs planned.is_plan (λ q touched. subst (λ (o : ℕ → Sequenced). same_account (o q) (opens q) ≡ true) (sym one) (alike_self (opens q))) settled in
    subst (λ (ks : List ℕ). SameSlots nat_eq same_account two_keys slots ks theirs) planned.keys_are (subst (λ (ks : List ℕ). SameSlots nat_eq same_account ks slots (keys_of planned.plan) theirs) k same)

pub settles_first : (keys : List ℕ) (entries : List (ℕ × Held Sequenced)) (slots : List (Slot Sequenced)) → keys ≡ two_keys → AreReadBy nat_eq opening entries
    → AreSettled nat_eq same_account sequenced_rules keys (opened_at nat_eq same_account sequenced_rules entries) firsts slots → SettlesFirst slots
settles_first keys entries slots k reads settled =
    let at_keys = subst (λ (ks : List ℕ). AreSettled nat_eq same_account sequenced_rules ks (opened_at nat_eq same_account sequenced_rules entries) firsts slots) k settled in
    subst (λ (o : ℕ → Sequenced). AreSettled nat_eq same_account sequenced_rules two_keys o firsts slots) (opened_alike nat_eq same_account sequenced_rules opening entries reads) at_keys

-- ---- a plan

-- an account of 10
abbrev pub ten : Sequenced
ten = record { balance = 10; nonce = 0 }

-- what is read of it, and of the one that isn't held
abbrev pub two_reads : List (Option Sequenced)
two_reads = Some ten ∷ None ∷ []

-- what is read and what is held where the key is the first, the second or neither
abbrev read_if : Bool → Bool → Option (Option Sequenced)
read_if b c = cond b (Some (Some ten)) (cond c (Some None) None)

abbrev held_if : Bool → Bool → Option (Held Sequenced)
held_if b c = cond b (Some (fresh (Some ten))) (cond c (Some (fresh None)) None)

opened_if : (b c : Bool) → opened sequenced_rules (unwrap_or (read_if b c) None) ≡ opened sequenced_rules (option_and_then (λ (h : Held Sequenced). h.read) (held_if b c))
opened_if true c = refl
opened_if false true = refl
opened_if false false = refl

opens_so : (k : ℕ) → opened_by nat_eq sequenced_rules two_keys two_reads k ≡ opened_at nat_eq same_account sequenced_rules opening k
opens_so k = opened_if (nat_eq k 1) (nat_eq k 2)

pub planned_so : (plan : List (ℕ × Totals ℕ)) (p : Payment) (reads : List (Option Sequenced)) (slots : List (Slot Sequenced)) → p ≡ first → reads ≡ two_reads
    → IsPlanOf nat_eq (touches payment_changes (p ∷ [])) plan → keys_of plan ≡ touched nat_eq [] (touches payment_changes (p ∷ []))
    → BatchSettles nat_eq sequenced_rules same_account (keys_of plan) (opened_by nat_eq sequenced_rules (keys_of plan) reads) (touches payment_changes (p ∷ [])) slots → ArePlanned slots
planned_so plan p reads slots e r is order batch =
    let keys : keys_of plan ≡ two_keys = order ∙ ap (λ (q : Payment). touched nat_eq [] (touches payment_changes (q ∷ []))) e in
    let at_first = subst (λ (q : Payment). AreSettled nat_eq same_account sequenced_rules (keys_of plan) (opened_by nat_eq sequenced_rules (keys_of plan) reads) (touches payment_changes (q ∷ [])) slots) e batch.slots_are in
    let at_keys = subst (λ (ks : List ℕ). AreSettled nat_eq same_account sequenced_rules ks (opened_by nat_eq sequenced_rules ks reads) firsts slots) keys at_first in
    let at_reads = subst (λ (rs : List (Option Sequenced)). AreSettled nat_eq same_account sequenced_rules two_keys (opened_by nat_eq sequenced_rules two_keys rs) firsts slots) r at_keys in
    record {
      plan = plan;
      is_plan = subst (λ (q : Payment). IsPlanOf nat_eq (touches payment_changes (q ∷ [])) plan) e is;
      keys_are = keys;
      slots_are = subst (λ (o : ℕ → Sequenced). AreSettled nat_eq same_account sequenced_rules two_keys o firsts slots) (λ i k. opens_so k i) at_reads;
    }

pub fails_so : (plan : List (ℕ × Totals ℕ)) (p q : Payment) (reads : List (Option Sequenced)) (fault : PlanFault ℕ) → p ≡ first → q ≡ second → reads ≡ two_reads → keys_of plan ≡ touched nat_eq [] (touches payment_changes (p ∷ q ∷ []))
    → BatchFails nat_eq sequenced_rules (opened_by nat_eq sequenced_rules (keys_of plan) reads) (touches payment_changes (p ∷ q ∷ [])) fault → FailsBoth fault
fails_so plan p q reads fault e f r order fails =
    let ps : p ∷ q ∷ [] ≡ candidates = ap (λ (x : Payment). x ∷ q ∷ []) e ∙ ap (λ (x : Payment). first ∷ x ∷ []) f in
    let keys : keys_of plan ≡ two_keys = order ∙ ap (λ (all : List Payment). touched nat_eq [] (touches payment_changes all)) ps in
    let at_both = subst (λ (all : List Payment). BatchFails nat_eq sequenced_rules (opened_by nat_eq sequenced_rules (keys_of plan) reads) (touches payment_changes all) fault) ps fails in
    let at_keys = subst (λ (ks : List ℕ). BatchFails nat_eq sequenced_rules (opened_by nat_eq sequenced_rules ks reads) (touches payment_changes candidates) fault) keys at_both in
    let at_reads = subst (λ (rs : List (Option Sequenced)). BatchFails nat_eq sequenced_rules (opened_by nat_eq sequenced_rules two_keys rs) (touches payment_changes candidates) fault) r at_keys in
    subst (λ (o : ℕ → Sequenced). BatchFails nat_eq sequenced_rules o (touches payment_changes candidates) fault) (λ i k. opens_so k i) at_reads

-- ---- orders

abbrev paid_by : ℕ → ℕ → ℕ × Change NoEffect
paid_by k n = (k, record { debit = n; credit = 0; effect = None })

abbrev paid_to : ℕ → ℕ → ℕ × Change NoEffect
paid_to k n = (k, record { debit = 0; credit = n; effect = None })

all_four : {X : Type 0} (P : X → Type 0) (a b c d : X) → P a → P b → P c → P d → All P (a ∷ b ∷ c ∷ d ∷ [])
all_four P a b c d pa pb pc pd = All-cons P a (b ∷ c ∷ d ∷ []) pa (All-cons P b (c ∷ d ∷ []) pb (All-cons P c (d ∷ []) pc (All-cons P d [] pd (All-nil P))))

no_effects : HasNoEffects (paid {E = NoEffect} 1 2 30 ++ paid 2 1 5)
no_effects = all_four (λ (t : ℕ × Change NoEffect). IsNone t.1.effect) (paid_by 1 30) (paid_to 2 30) (paid_by 2 5) (paid_to 1 5) refl refl refl refl

pub ends_so : {T E : Type 0} (a b : T) (changes_of : T → List (ℕ × Change NoEffect)) (result : Result Bool E) → IfOk result (λ r. IsTrue r ↔ HasNoEffects (touches changes_of (a ∷ b ∷ [])))
    → IfOk result (λ r. IsTrue r → (at : ℕ → Balance) (others : List T) → OpensByKey nat_eq at → IsPermutation (a ∷ b ∷ []) others → EndsAlike nat_eq balance_rules at (touches changes_of (a ∷ b ∷ [])) (touches changes_of others))
    → (c d : T) → a ≡ c → b ≡ d → touches changes_of (c ∷ d ∷ []) ≡ paid 1 2 30 ++ paid 2 1 5 → touches changes_of (d ∷ c ∷ []) ≡ paid 2 1 5 ++ paid 1 2 30
    → OnOk result ((at : ℕ → Balance) → EndsAlike nat_eq balance_rules at (paid 1 2 30 ++ paid 2 1 5) (paid 2 1 5 ++ paid 1 2 30))
ends_so {T} a b changes_of (Err fault) none any c d ac bd there back = tt
ends_so {T} a b changes_of (Ok free) none any c d ac bd there back =
    let it_is : touches changes_of (a ∷ b ∷ []) ≡ paid 1 2 30 ++ paid 2 1 5 = ap (λ (x : T). touches changes_of (x ∷ b ∷ [])) ac ∙ ap (λ (x : T). touches changes_of (c ∷ x ∷ [])) bd ∙ there in
    let other : touches changes_of (b ∷ a ∷ []) ≡ paid 2 1 5 ++ paid 1 2 30 = ap (λ (x : T). touches changes_of (x ∷ a ∷ [])) bd ∙ ap (λ (x : T). touches changes_of (d ∷ x ∷ [])) ac ∙ back in
    let is_free : IsTrue free = none.1 (subst (λ (ts : List (ℕ × Change NoEffect)). HasNoEffects ts) (sym it_is) no_effects) in
    λ at. subst (λ (us : List (ℕ × Change NoEffect)). EndsAlike nat_eq balance_rules at (paid 1 2 30 ++ paid 2 1 5) us) other
    (subst (λ (ts : List (ℕ × Change NoEffect)). EndsAlike nat_eq balance_rules at ts (touches changes_of (b ∷ a ∷ []))) it_is
    (any is_free at (b ∷ a ∷ []) (λ k q e. ap at (eqb-true k q e)) (IsPermutation-append_comm (a ∷ []) (b ∷ []))))

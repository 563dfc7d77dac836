-- One failure more in a plan.
use Rattle.std.proofs.Common.{◌≡◌, ◌≤◌, ◌+◌, ℕ, Bool, true, false, not, cond, ◌||◌, IsTrue, List, [], ◌∷◌, ◌++◌, count_by, refl, sym, ap, subst, arith}
use Rattle.std.proofs.lemmas.List.Sums.{sum_by-append}
use Rattle.std.specs.List.{list_any}
use Rattle.simulate_parts.specs.declared.peer.Peer.{Peer}
use Rattle.simulate_parts.specs.declared.schedule.Crash.{Crash}
use Rattle.simulate_parts.specs.declared.schedule.Crash.TheVariants.{Random, DelayRound, ProcessedHeight, Schedule}
use Rattle.ledger_simulate.specs.Plans.{Runs, delays, fits_beside, crashes_at_random}

-- what one adds to a count
abbrev mark : Bool → ℕ
mark b = cond b 1 0

none_first : (b c : Bool) (n : ℕ) → IsTrue (not (b || c)) → (IsTrue (not c) → n ≡ 0) → mark b + n ≡ 0
none_first true c n h none = absurd (cc)
none_first false c n h none =
    let others : n ≡ 0 = none h in
    omega arith

-- where none of them is, they count for nothing
none_counted : {X : Type 0} (p : X → Bool) (xs : List X) → IsTrue (not (list_any p xs)) → count_by p xs ≡ 0
none_counted p [] h = refl
none_counted p (x ∷ xs) h =
    let none : mark (p x) + count_by p xs ≡ 0 = none_first (p x) (list_any p xs) (count_by p xs) h (none_counted p xs) in
    let parts : count_by p (x ∷ xs) ≡ (0 + mark (p x)) + count_by p xs = sum_by-append (λ y. mark (p y)) (x ∷ []) xs in
    omega arith

-- the count with one more
counted_more : {X : Type 0} (p : X → Bool) (xs : List X) (x : X) → count_by p (xs ++ x ∷ []) ≡ count_by p xs + mark (p x)
counted_more p xs x =
    let parts : count_by p (xs ++ x ∷ []) ≡ count_by p xs + (0 + mark (p x)) = sum_by-append (λ y. mark (p y)) xs (x ∷ []) in
    omega arith

first_counted : {X : Type 0} (p : X → Bool) (xs : List X) (x : X) → p x ≡ true → IsTrue (not (list_any p xs)) → count_by p (xs ++ x ∷ []) ≤ 1
first_counted p xs x is h =
    let more : count_by p (xs ++ x ∷ []) ≡ count_by p xs + mark (p x) = counted_more p xs x in
    let once : mark (p x) ≡ 1 = ap mark is in
    let others : count_by p xs ≡ 0 = none_counted p xs h in
    omega arith

same_counted : {X : Type 0} (p : X → Bool) (xs : List X) (x : X) → p x ≡ false → count_by p xs ≤ 1 → count_by p (xs ++ x ∷ []) ≤ 1
same_counted p xs x is within =
    let more : count_by p (xs ++ x ∷ []) ≡ count_by p xs + mark (p x) = counted_more p xs x in
    let nothing : mark (p x) ≡ 0 = ap mark is in
    omega arith

-- a plan that may run may run with a failure that fits beside its others
pub runs_more : (ps : List Peer) (cs new : List Crash) (c : Crash) → IsTrue (fits_beside cs c) → new ≡ cs ++ c ∷ [] → Runs ps cs → Runs ps new
runs_more ps cs new c fits grown runs = subst (Runs ps) (sym grown) (more c fits)
  where
    more : (d : Crash) → IsTrue (fits_beside cs d) → Runs ps (cs ++ d ∷ [])
    more (DelayRound participants round) h = (runs.0, first_counted delays cs (DelayRound participants round) refl h, same_counted crashes_at_random cs (DelayRound participants round) refl runs.2)
    more (Random frequency downtime count) h = (runs.0, same_counted delays cs (Random frequency downtime count) refl runs.1, first_counted crashes_at_random cs (Random frequency downtime count) refl h)
    more (ProcessedHeight participant first last downtime) h = (runs.0, same_counted delays cs (ProcessedHeight participant first last downtime) refl runs.1, same_counted crashes_at_random cs (ProcessedHeight participant first last downtime) refl runs.2)
    more (Schedule events) h = (runs.0, same_counted delays cs (Schedule events) refl runs.1, same_counted crashes_at_random cs (Schedule events) refl runs.2)

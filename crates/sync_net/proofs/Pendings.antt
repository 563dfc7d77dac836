-- The numbers of pending asks stay distinct, and a reply takes the one ask of its number.
use Rattle.std.proofs.Common.{◌≡◌, ℕ, ◌+◌, ◌-◌, ◌≤◌, ◌<◌, ◌^◌, Bool, true, false, cond, ltb, List, [], ◌∷◌, ◌++◌, length, get_or, Option, Some, None, refl, sym, ap, subst, ◌∙◌, arith}
use Rattle.std.specs.Prelude.{◌==◌, position, remove}
use Rattle.std.specs.List.{position_or_len}
use Rattle.std.proofs.lemmas.Bool.{eqb-true, ltb-true}
use Rattle.std.proofs.lemmas.List.Sums.{sum_by-append, sum_by-remove, passes_at_first}
use Rattle.sync_net.specs.declared.ask.Pending.{Pending}
use Rattle.sync_net.specs.Asking.{Draws, number_after}
use Rattle.sync_net.specs.Pendings.{named, AreNumbered}

once_of : (b : Bool) (m n total old : ℕ) → (m == n) ≡ b → total ≡ old + cond b 1 0 → old ≤ 1 → (m ≤ n → old ≡ 0) → total ≤ 1
once_of true m n total old t e once drawn = let same : m ≡ n = eqb-true m n t in let none : old ≡ 0 = drawn (omega arith) in omega arith
once_of false m n total old t e once drawn = omega arith

drawn_of : (b : Bool) (m n total old : ℕ) → (m == n) ≡ b → total ≡ old + cond b 1 0 → m < n → old ≡ 0 → total ≡ 0
drawn_of true m n total old t e above none = absurd (let same : m ≡ n = eqb-true m n t in omega arith)
drawn_of false m n total old t e above none = omega arith

after_of : (b : Bool) (m k : ℕ) → cond b (Some (m + 1)) None ≡ Some k → k ≡ m + 1
after_of true m k e = cc
after_of false m k e = absurd cc

abbrev one_if : Bool → ℕ
one_if b = cond b 1 0

grown : (n : ℕ) (ps : List Pending) (p : Pending) → named n (ps ++ p ∷ []) ≡ named n ps + one_if (p.number == n)
grown n ps p =
    let e : named n (ps ++ p ∷ []) ≡ named n ps + (0 + one_if (p.number == n)) = sum_by-append (λ q. one_if (q.number == n)) ps (p ∷ []) in
    omega (arith, e)

pub none_numbered : (next : Option ℕ) → AreNumbered next []
none_numbered next = record { once = λ n. omega arith; drawn = λ m n e le. refl }

-- an ask under the next number
pub pushed : (next : Option ℕ) (ps : List Pending) (p : Pending) → next ≡ Some p.number → AreNumbered next ps → AreNumbered (number_after p.number) (ps ++ p ∷ [])
pushed next ps p at old = record {
  once = λ n. once_of (p.number == n) p.number n (named n (ps ++ p ∷ [])) (named n ps) refl (grown n ps p) (old.once n) (λ le. old.drawn p.number n at le);
  drawn = λ m n e le.
      let above : m ≡ p.number + 1 = after_of (ltb p.number (2 ^ 64 - 1)) p.number m e in
      drawn_of (p.number == n) p.number n (named n (ps ++ p ∷ [])) (named n ps) refl (grown n ps p) (omega arith) (old.drawn p.number n at (omega arith));
}

fewer : (n : ℕ) (ps : List Pending) (i : ℕ) (d : Pending) → i < length ps → named n (remove ps i) ≤ named n ps
fewer n ps i d lt = let e : named n (remove ps i) + one_if ((get_or ps i d).number == n) ≡ named n ps = sum_by-remove (λ q. one_if (q.number == n)) ps i d lt in omega (arith, e)

-- one ask less
pub taken_away : (next : Option ℕ) (ps : List Pending) (i : ℕ) (d : Pending) → i < length ps → AreNumbered next ps → AreNumbered next (remove ps i)
taken_away next ps i d lt old = record {
  once = λ n. omega (arith, fewer n ps i d lt, old.once n);
  drawn = λ m n e le. omega (arith, fewer n ps i d lt, old.drawn m n e le);
}

-- the first ask of a number counts
pub counts : (n : ℕ) (ps : List Pending) (d : Pending) → position_or_len (λ q. q.number == n) ps < length ps → named n (remove ps (position_or_len (λ q. q.number == n) ps)) + 1 ≡ named n ps
counts n ps d lt =
    let i = position_or_len (λ (q : Pending). q.number == n) ps in
    let e : named n (remove ps i) + one_if ((get_or ps i d).number == n) ≡ named n ps = sum_by-remove (λ q. one_if (q.number == n)) ps i d lt in
    let one : one_if ((get_or ps i d).number == n) ≡ 1 = ap one_if (passes_at_first (λ (q : Pending). q.number == n) ps d lt) in
    omega (arith, e, one)

place_of_first : (b : Bool) (i k : ℕ) → cond b (Some k) None ≡ Some i → (b ≡ true) × (k ≡ i)
place_of_first true i k e = (refl, cc)
place_of_first false i k e = absurd cc

-- the place of a number is its first
pub is_first : (n : ℕ) (ps : List Pending) (i : ℕ) → position (λ q. q.number == n) ps ≡ Some i → (position_or_len (λ q. q.number == n) ps < length ps) × (position_or_len (λ q. q.number == n) ps ≡ i)
is_first n ps i e =
    let p = place_of_first (ltb (position_or_len (λ (q : Pending). q.number == n) ps) (length ps)) i (position_or_len (λ (q : Pending). q.number == n) ps) e in
    (ltb-true _ _ p.0, p.1)

none_of : (b : Bool) (n : ℕ) (ps : List Pending) (d : Pending) → ltb (position_or_len (λ q. q.number == n) ps) (length ps) ≡ b → named n ps ≡ 0 → cond b (Some (position_or_len (λ q. q.number == n) ps)) None ≡ None
none_of true n ps d t none = absurd (let e = counts n ps d (ltb-true _ _ t) in omega (arith, e))
none_of false n ps d t none = refl

-- no ask of this number
pub no_place : (n : ℕ) (ps : List Pending) → named n ps ≡ 0 → position (λ q. q.number == n) ps ≡ None
no_place n [] none = refl
no_place n (x ∷ xs) none = none_of (ltb (position_or_len (λ (q : Pending). q.number == n) (x ∷ xs)) (length (x ∷ xs))) n (x ∷ xs) x refl none

drawn_next : (r old now : Option ℕ) (n : ℕ) → Draws r old now → old ≡ Some n → now ≡ number_after n
drawn_next (Some k) old now n d e = let same : k ≡ n = cc (sym d.0 ∙ e) in d.1 ∙ ap number_after same
drawn_next None old now n d e = absurd (let apart : None ≡ Some n = sym d.0 ∙ e in cc)

-- an ask was pushed under the number that was drawn
pub pushed_so : (r next now : Option ℕ) (ps items : List Pending) (p : Pending) → next ≡ Some p.number → Draws r next now → items ≡ ps ++ p ∷ [] → AreNumbered next ps → AreNumbered now items
pushed_so r next now ps items p at drawn grew old =
    let after : now ≡ number_after p.number = drawn_next r next now p.number drawn at in
    subst (λ (o : Option ℕ). AreNumbered o items) (sym after) (subst (λ (qs : List Pending). AreNumbered (number_after p.number) qs) (sym grew) (pushed next ps p at old))

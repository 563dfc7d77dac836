-- Places inside ranges, and lists without one of their ranges.
use Rattle.std.proofs.Common.{◌≡◌, ℕ, suc, ◌+◌, ◌<◌, ◌≤◌, true, false, List, [], ◌∷◌, ◌++◌, length, get_or, slice_get, Option, None, Some, ◌==◌, All, sum_by, position, remove, refl, ap, subst, ◌∙◌, arith, inl, inr}
use Rattle.std.specs.List.{position_or_len}
use Rattle.std.specs.declared.ops.Range.{Range}
use Rattle.std.proofs.lemmas.Bool.{lt-ltb, le-ltb, le-leb, lt-leb, cases_lt, and_from, eq-eqb, eqb-true, and_parts}
use Rattle.std.proofs.lemmas.List.Elements.{All-take, All-drop, All-append, All-get_or}
use Rattle.std.proofs.lemmas.List.Sums.{sum_by-remove, fails_before_first}
use Rattle.std.proofs.lemmas.List.Quantifiers.{position-Some}
use Rattle.std.proofs.lemmas.Option.{slice_get_within, get_or_from_slice_get, slice_get-get_or}
use Rattle.std.proofs.Math.Seq.{get_or-append_seam}
use Rattle.std.proofs.lemmas.List.{length-append}
use Rattle.sync_client.specs.Asking.{without_at}
use Rattle.sync_client.specs.Collected.{same_range, IsOutstanding}
use Rattle.sync_client.specs.Tiles.{inside}

pub inside_in : (x a b : ℕ) → a ≤ x → x < b → inside x a b ≡ 1
unfolding inside
inside_in x a b h k = rw (le-leb a x h, lt-ltb x b k) refl

pub inside_before : (x a b : ℕ) → x < a → inside x a b ≡ 0
unfolding inside
inside_before x a b h = rw (lt-leb a x h) refl

pub inside_behind : (x a b : ℕ) → b ≤ x → inside x a b ≡ 0
unfolding inside
inside_behind x a b h = elim (cases_lt x a) [ inl k ↦ inside_before x a b k | inr k ↦ rw (le-leb a x k, le-ltb x b h) refl ]

pub inside_split : (x a m b : ℕ) → a ≤ m → m ≤ b → inside x a m + inside x m b ≡ inside x a b
inside_split x a m b h k =
    elim (cases_lt x a) [
      | inl p ↦ rw (inside_before x a m p, inside_before x m b (omega arith), inside_before x a b p) refl
      | inr p ↦ elim (cases_lt x m) [
        | inl q ↦ rw (inside_in x a m p q, inside_before x m b q, inside_in x a b p (omega arith)) refl
        | inr q ↦ rw (inside_behind x a m q) (elim (cases_lt x b) [
          | inl r ↦ rw (inside_in x m b q r, inside_in x a b p r) refl
          | inr r ↦ rw (inside_behind x m b r, inside_behind x a b r) refl
        ])
      ]
    ]

pub inside_none : (x a : ℕ) → inside x a a ≡ 0
inside_none x a = elim (cases_lt x a) [ inl p ↦ inside_before x a a p | inr p ↦ inside_behind x a a p ]

-- ---- lists without one of their ranges

-- the ranges but this one
abbrev pub range_without : Range ℕ → List (Range ℕ) → List (Range ℕ)
range_without r rs = without_at (position (λ q. same_range q r) rs) rs

pub All-remove : {X : Type 0} (P : X → Type 0) (xs : List X) (i : ℕ) → All P xs → All P (remove xs i)
All-remove P xs i h = All-append P _ _ (All-take P i xs h) (All-drop P (suc i) xs h)

pub All-without_at : {X : Type 0} (P : X → Type 0) (o : Option ℕ) (xs : List X) → All P xs → All P (without_at o xs)
All-without_at P None xs h = h
All-without_at P (Some i) xs h = All-remove P xs i h

pub All-at : {X : Type 0} (P : X → Type 0) (xs : List X) (i : ℕ) (x : X) → slice_get xs i ≡ Some x → All P xs → P x
All-at P xs i x e h =
    let p : P (get_or xs i x) = All-get_or P xs i x (slice_get_within xs i x e) h in
    subst P (get_or_from_slice_get xs i x x e) p

same_is : (a b : Range ℕ) → same_range a b ≡ true → a ≡ b
same_is a b e =
    let p = and_parts (a.start == b.start) (a.end == b.end) e in
    let q : a.start ≡ b.start = eqb-true a.start b.start p.0 in
    let r : a.end ≡ b.end = eqb-true a.end b.end p.1 in
    ap (λ (z : ℕ). let w : Range ℕ = record { start = z; end = a.end } in w) q ∙ ap (λ (z : ℕ). let w : Range ℕ = record { start = b.start; end = z } in w) r

same_self : (a : Range ℕ) → same_range a a ≡ true
same_self a = and_from (a.start == a.start) (a.end == a.end) (eq-eqb a.start a.start refl) (eq-eqb a.end a.end refl)

-- the place at which a range that stands in a list is found
pub found_at : (r : Range ℕ) (rs : List (Range ℕ)) → IsOutstanding r rs → (i : ℕ) × (position (λ q. same_range q r) rs ≡ Some i) × (i < length rs) × (get_or rs i r ≡ r)
found_at r rs h =
    let i = position_or_len (λ q. same_range q r) rs in
    let within : h.0 < length rs = slice_get_within rs h.0 r h.1 in
    let here : get_or rs h.0 r ≡ r = get_or_from_slice_get rs h.0 r r h.1 in
    elim (cases_lt i (length rs)) [
      | inl lt ↦
          let some : position (λ q. same_range q r) rs ≡ Some i = rw (lt-ltb i (length rs) lt) refl in
          let p = position-Some (λ q. same_range q r) rs i r some in
          (i, some, lt, same_is (get_or rs i r) r p.1)
      | inr ge ↦
          let miss : same_range (get_or rs h.0 r) r ≡ false = fails_before_first (λ q. same_range q r) rs h.0 r (omega arith) in
          let hit : same_range (get_or rs h.0 r) r ≡ true = rw here (same_self r) in
          absurd (cc)
    ]

pub sum_without : (f : Range ℕ → ℕ) (r : Range ℕ) (rs : List (Range ℕ)) → IsOutstanding r rs → sum_by f (range_without r rs) + f r ≡ sum_by f rs
sum_without f r rs h =
    let p = found_at r rs h in
    let e : sum_by f (remove rs p.0) + f (get_or rs p.0 r) ≡ sum_by f rs = sum_by-remove f rs p.0 r p.2 in
    rw p.1 (rw p.3 at e)

pub All-without : (P : Range ℕ → Type 0) (r : Range ℕ) (rs : List (Range ℕ)) → IsOutstanding r rs → All P rs → All P (range_without r rs)
All-without P r rs h all =
    let p = found_at r rs h in
    rw p.1 (All-remove P rs p.0 all)

-- the range that was asked last is outstanding
pub last_outstanding : (ps qs : List (Range ℕ)) (r : Range ℕ) → qs ≡ ps ++ r ∷ [] → IsOutstanding r qs
last_outstanding ps qs r e =
    let within : length ps < length (ps ++ r ∷ []) = omega (arith, length-append ps (r ∷ [])) in
    (length ps, ap (λ (l : List (Range ℕ)). slice_get l (length ps)) e ∙ (slice_get-get_or (ps ++ r ∷ []) (length ps) r within ∙ ap Some (get_or-append_seam ps r [] r)))

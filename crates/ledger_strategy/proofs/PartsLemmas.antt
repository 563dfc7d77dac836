-- How the answers of parts grow.
use Rattle.std.proofs.Common.{◌≡◌, ℕ, ◌+◌, List, [], ◌∷◌, ◌++◌, length, slice_get, Some, Result, Ok, Err, Vec, Global, IfOk, ◌*◌, ◌<◌, slice_index_or, arith, refl, suc, zero, sym, ap, subst, ◌∙◌, append_assoc, mul_comm}
use Rattle.std.specs.List.{All}
use Rattle.std.specs.Int.{div_ceil}
use Rattle.std.proofs.lemmas.Grind.{div_ceil_times}
use Rattle.std.proofs.lemmas.Option.{get_or_from_slice_get, slice_get_within}
use Rattle.std.proofs.lemmas.List.{length_push}
use Rattle.std.proofs.lemmas.List.Elements.{All-head, All-tail, All-cons}
use mathlib.Core.Logic.{◌⊎◌, inl, inr}
use Rattle.ledger_strategy.specs.Parts.{AreResults, AreResultsFrom, piece, pieces, IsPiece, HasFault, start_of}

-- what stands at a place of a list with one more item at its end
pub slice_get_push_cases : {R : Type 0} (xs : List R) (x a : R) (k : ℕ) → slice_get (xs ++ x ∷ []) k ≡ Some a → (slice_get xs k ≡ Some a) ⊎ ((k ≡ length xs) × (x ≡ a))
slice_get_push_cases [] x a zero h = inr (refl, cc)
slice_get_push_cases [] x a (suc k) h = cc
slice_get_push_cases (y ∷ ys) x a zero h = inl h
slice_get_push_cases (y ∷ ys) x a (suc k) h = elim (slice_get_push_cases ys x a k h) [ inl p ↦ inl p | inr q ↦ inr (ap suc q.0, q.1) ]

-- one part more
pub AreResults-push : {R : Type 0} (gives : ℕ → R → Type 0) (n : ℕ) (xs : List R) (x : R) → AreResults gives n xs → gives n x → AreResults gives (n + 1) (xs ++ x ∷ [])
AreResults-push gives n xs x h g = record {
  all = omega (arith, length_push xs x, h.all);
  each = λ k a e. elim (slice_get_push_cases xs x a k e) [
    | inl p ↦ h.each k a p
    | inr q ↦ subst (gives k) q.1 (subst (λ m. gives m x) (sym (q.0)) (subst (λ m. gives m x) (sym h.all) g))
  ];
}

module _ {R : Type 0} (gives : ℕ → R → Type 0) where
  -- no part yet
  pub AreResultsFrom-none : (first : ℕ) → AreResultsFrom gives first first []
  AreResultsFrom-none first = record {
    all = omega arith;
    each = λ k a e. cc;
  }

  -- one part more of a row
  pub AreResultsFrom-push : (first n : ℕ) (xs : List R) (x : R) → AreResultsFrom gives first n xs → gives n x → AreResultsFrom gives first (n + 1) (xs ++ x ∷ [])
  AreResultsFrom-push first n xs x h g = record {
    all = omega (arith, length_push xs x, h.all);
    each = λ k a e. elim (slice_get_push_cases xs x a k e) [
      | inl p ↦ h.each k a p
      | inr q ↦ subst (gives (first + k)) q.1 (subst (λ m. gives m x) (omega (arith, q.0, h.all)) g)
    ];
  }

  -- a row after a row
  pub AreResultsFrom-append : (first middle upto : ℕ) (xs ys : List R) → AreResultsFrom gives first middle xs → AreResultsFrom gives middle upto ys → AreResultsFrom gives first upto (xs ++ ys)
  AreResultsFrom-append first middle upto [] ys h k = record {
    all = omega (arith, h.all, k.all);
    each = λ i a e. subst (λ m. gives (m + i) a) (omega (arith, h.all)) (k.each i a e);
  }
  AreResultsFrom-append first middle upto (x ∷ xs) ys h k =
      let rest = AreResultsFrom-append (suc first) middle upto xs ys (record {
        all = omega (arith, h.all);
        each = λ i a e. subst (λ m. gives m a) (omega arith) (h.each (suc i) a e);
      }) k in
      record {
        all = omega (arith, rest.all);
        each = λ i a e. by i a e rest;
      }
    where
      by : (i : ℕ) (a : R) → slice_get (x ∷ xs ++ ys) i ≡ Some a → AreResultsFrom gives (suc first) upto (xs ++ ys) → gives (first + i) a
      by zero a e rest = h.each zero a e
      by (suc i) a e rest = subst (λ m. gives m a) (omega arith) (rest.each i a e)

  -- the whole row is all parts
  pub results_of_row : (parts : ℕ) (xs : List R) → AreResultsFrom gives 0 parts xs → AreResults gives parts xs
  results_of_row parts xs h = record { all = omega (arith, h.all); each = λ k a e. subst (λ m. gives m a) (omega arith) (h.each k a e) }

module _ {X E : Type 0} where
  -- a list that is taken from the front of the rest
  pub pieces_more : (whole : List X) (from rest all : List (Result (Vec X Global) E)) (v : Vec X Global) → from ≡ Ok v ∷ rest
      → whole ++ pieces from ≡ pieces all → (whole ++ v.items) ++ pieces rest ≡ pieces all
  pieces_more whole from rest all v is h =
      let next : pieces from ≡ v.items ++ pieces rest = ap (λ (us : List (Result (Vec X Global) E)). pieces us) is in
      append_assoc whole v.items (pieces rest) ∙ ap (λ us. whole ++ us) (sym next) ∙ h

  -- and is one of them
  pub pieces_all : (from rest : List (Result (Vec X Global) E)) (v : Vec X Global) → from ≡ Ok v ∷ rest → All IsPiece rest → All IsPiece from
  pieces_all from rest v is h = subst (All IsPiece) (sym is) (All-cons IsPiece (Ok v) rest tt h)

  module _ (gives : ℕ → X → Type 0) (bound : ℕ → ℕ) where
    -- rows that follow one another are a row
    pub results_of_rows : (first : ℕ) (rows : List (Result (Vec X Global) E)) → All IsPiece rows
        → ((i : ℕ) (r : Result (Vec X Global) E) → slice_get rows i ≡ Some r → IfOk r (λ v. AreResultsFrom gives (bound (first + i)) (bound (first + i + 1)) v.items))
        → AreResultsFrom gives (bound first) (bound (first + length rows)) (pieces rows)
    results_of_rows first [] are each = subst (λ n. AreResultsFrom gives (bound first) (bound n) []) (omega arith) (AreResultsFrom-none gives (bound first))
    results_of_rows first (Err refused ∷ rows) are each = absurd (All-head IsPiece (Err refused) rows are)
    results_of_rows first (Ok v ∷ rows) are each =
        let one : AreResultsFrom gives (bound first) (bound (first + 1)) v.items = subst (λ n. AreResultsFrom gives (bound n) (bound (n + 1)) v.items) (omega arith) (each zero (Ok v) refl) in
        let rest : AreResultsFrom gives (bound (first + 1)) (bound (first + 1 + length rows)) (pieces rows) = results_of_rows (first + 1) rows (All-tail IsPiece (Ok v) rows are) (λ i r e. subst (λ n. IfOk r (λ w. AreResultsFrom gives (bound n) (bound (n + 1)) w.items)) (omega arith) (each (suc i) r e)) in
        subst (λ n. AreResultsFrom gives (bound first) (bound n) (v.items ++ pieces rows)) (omega arith) (AreResultsFrom-append gives (bound first) (bound (first + 1)) (bound (first + 1 + length rows)) v.items (pieces rows) one rest)

-- two facts of an answer are a third
pub if_ok_both : {X E : Type 0} (r : Result X E) (P Q R : X → Type 0) → ((x : X) → P x → Q x → R x) → IfOk r P → IfOk r Q → IfOk r R
if_ok_both (Ok x) P Q R f p q = f x p q
if_ok_both (Err e) P Q R f p q = tt

-- the rows of a number of threads begin at the first part and end at the last
rows_begin : (rows parts : ℕ) → start_of 0 rows parts ≡ 0
rows_begin rows parts = omega arith

rows_end : (rows parts : ℕ) → 0 < rows → start_of rows rows parts ≡ parts
rows_end rows parts some =
    let enough = (div_ceil_times parts rows some).0 in
    let turned : rows * div_ceil parts rows ≡ div_ceil parts rows * rows = mul_comm rows (div_ceil parts rows) in
    omega (arith, enough, turned)

-- what the rows of as many places answered is what these places answer
pub results_by_rows : {X E : Type 0} (gives : ℕ → X → Type 0) (rows len : ℕ) (lists : List (Result (Vec X Global) E)) → 0 < rows → length lists ≡ rows → All IsPiece lists
    → ((i : ℕ) (r : Result (Vec X Global) E) → slice_get lists i ≡ Some r → IfOk r (λ v. AreResultsFrom gives (start_of i rows len) (start_of (i + 1) rows len) v.items))
    → AreResults gives len (pieces lists)
results_by_rows {X} {E} gives rows len lists some count are each =
    let bound = λ (i : ℕ). start_of i rows len in
    let at : (i : ℕ) (r : Result (Vec X Global) E) → slice_get lists i ≡ Some r → IfOk r (λ v. AreResultsFrom gives (bound (0 + i)) (bound (0 + i + 1)) v.items) =
    λ i r e. subst (λ n. IfOk r (λ v. AreResultsFrom gives (bound n) (bound (n + 1)) v.items)) (omega arith) (each i r e) in
    let all : AreResultsFrom gives (bound 0) (bound (0 + length lists)) (pieces lists) = results_of_rows gives bound 0 lists are at in
    let last : 0 + length lists ≡ rows = omega (arith, count) in
    results_of_row gives len (pieces lists)
    (subst (λ n. AreResultsFrom gives n len (pieces lists)) (rows_begin rows len)
    (subst (λ n. AreResultsFrom gives (bound 0) n (pieces lists)) (ap bound last ∙ rows_end rows len some) all))

-- the same where the rows are read by their places
pub results_side_by_side : {X E : Type 0} (gives : ℕ → X → Type 0) (rows len : ℕ) (lists : List (Result (Vec X Global) E)) → 0 < rows → length lists ≡ rows → All IsPiece lists
    → ((i : ℕ) (d : Result (Vec X Global) E) → i < rows → IfOk (slice_index_or lists i d) (λ v. AreResultsFrom gives (start_of i rows len) (start_of (i + 1) rows len) v.items))
    → AreResults gives len (pieces lists)
results_side_by_side {X} {E} gives rows len lists some count are each =
    results_by_rows gives rows len lists some count are
    (λ i r e. subst (λ x. IfOk x (λ v. AreResultsFrom gives (start_of i rows len) (start_of (i + 1) rows len) v.items)) (get_or_from_slice_get lists i r r e)
    (each i r (subst (λ n. i < n) count (slice_get_within lists i r e))))

module _ {X E : Type 0} where
  -- a fault of the rest is a fault of all
  pub fault_more : (from rest : List (Result (Vec X Global) E)) (r : Result (Vec X Global) E) (fault : E) → from ≡ r ∷ rest → HasFault rest fault → HasFault from fault
  fault_more from rest r fault is h = subst (λ us. HasFault us fault) (sym is) (by r)
    where
      by : (r : Result (Vec X Global) E) → HasFault (r ∷ rest) fault
      by (Ok v) = h
      by (Err f) = inr h

  -- a fault stands at some place
  pub fault_at : (lists : List (Result (Vec X Global) E)) (fault : E) → HasFault lists fault → (i : ℕ) × (slice_get lists i ≡ Some (Err fault))
  fault_at [] fault h = absurd h
  fault_at (Ok v ∷ rs) fault h = let at = fault_at rs fault h in (suc at.0, at.1)
  fault_at (Err f ∷ rs) fault (inl e) = (zero, ap (λ x. Some (Err x)) e)
  fault_at (Err f ∷ rs) fault (inr h) = let at = fault_at rs fault h in (suc at.0, at.1)

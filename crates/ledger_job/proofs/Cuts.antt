-- A text, cut at the first byte of one kind.
use Rattle.std.proofs.Common.{◌≡◌, ℕ, ◌+◌, ◌-◌, ◌<◌, ◌≤◌, Bool, true, false, if◌then◌else◌, List, [], ◌∷◌, length, take, drop, Some, None, refl, sym, ◌∙◌, ap, subst, arith, nat_lt, length-drop}
use Rattle.std.proofs.lemmas.Bool.Decides.{nat_tests}
use Rattle.std.proofs.lemmas.List.{take_all}
use Rattle.std.proofs.lemmas.List.Splits.{slice_split_none, slice_split_first}
use Rattle.std.proofs.lemmas.List.Sums.{fails_before_first}
use Rattle.std.specs.Prelude.{position}
use Rattle.std.specs.List.{slice_split, position_or_len}

found_by : (n i : ℕ) (b : Bool) → (if b then Some n else None) ≡ Some i → n ≡ i
found_by n i true e = cc
found_by n i false e = absurd cc

lost_by : (n : ℕ) (b : Bool) → (if b then Some n else None) ≡ None → b ≡ false
lost_by n true e = absurd cc
lost_by n false e = refl

module _ (p : ℕ → Bool) (xs : List ℕ) where
  -- what stands behind a place, spelled as a slice from there on
  rest_of : (i : ℕ) → take (length xs - (i + 1)) (drop (i + 1) xs) ≡ drop (i + 1) xs
  rest_of i = take_all (length xs - (i + 1)) (drop (i + 1) xs) (let size = length-drop (i + 1) xs in omega arith)

  pub cut_some : (i : ℕ) → i < length xs → position p xs ≡ Some i
      → slice_split p xs ≡ take i xs ∷ slice_split p (take (length xs - (i + 1)) (drop (i + 1) xs))
  cut_some i h e =
      let at : position_or_len p xs ≡ i = found_by (position_or_len p xs) i (nat_lt (position_or_len p xs) (length xs)) e in
      slice_split_first p xs 0 (subst (λ n. n < length xs) (sym at) h)
      ∙ ap (λ n. take n xs ∷ slice_split p (drop (n + 1) xs)) at
      ∙ ap (λ l. take i xs ∷ slice_split p l) (sym (rest_of i))

  pub cut_none : position p xs ≡ None → slice_split p xs ≡ xs ∷ []
  cut_none e =
      let beyond : nat_lt (position_or_len p xs) (length xs) ≡ false = lost_by (position_or_len p xs) (nat_lt (position_or_len p xs) (length xs)) e in
      let reach : length xs ≤ position_or_len p xs = grind (arith, nat_tests) in
      slice_split_none p xs (λ k d l. fails_before_first p xs k d (omega (arith, reach)))

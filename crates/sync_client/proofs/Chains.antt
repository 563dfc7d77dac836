-- The kept pieces, sorted by place, are the part.
use Rattle.std.proofs.Common.{◌≡◌, ℕ, suc, ◌+◌, ◌-◌, ◌<◌, ◌≤◌, true, List, [], ◌∷◌, ◌++◌, length, get_or, take, drop, All, flat_map, count_ones, refl, sym, ap, subst, ◌∙◌, arith, inl, inr, append_assoc, length-append}
use Rattle.std.specs.declared.ops.Range.{Range}
use Rattle.std.specs.List.Sorted.{IsPermutation, IsNonDecreasingBy}
use Rattle.std.proofs.Math.Seq.{drop-append_seam, take-append_seam}
use Rattle.std.proofs.lemmas.Bool.{cases_lt, eqb-true}
use Rattle.std.proofs.lemmas.List.Elements.{All-cons, All-head, All-tail, All-nil}
use Rattle.std.proofs.lemmas.List.Sums.{sum_by-cons}
use Rattle.std.proofs.lemmas.List.Sorted.{IsPermutation-sym, All-permutation, sum_by-IsPermutation}
use Rattle.std.proofs.lemmas.List.Concat.{length-flat_map, flat_map-cons}
use Rattle.sync_client.specs.declared.collector.Piece.{Piece}
use Rattle.sync_client.specs.Collected.{Collected, ranges_of, is_complete}
use Rattle.sync_client.specs.Tiles.{Tiles, inside, in_ranges, in_pieces, size_of_ranges, size_of_pieces, HasOps, Pinned}
use Rattle.sync_client.specs.Parts.{Stands, Assembles, IsJoined}
use Rattle.sync_client.proofs.Insides.{inside_in, inside_before, inside_behind, inside_split, inside_none}
use Rattle.sync_client.proofs.Tiling.{length_ranges}

abbrev place : {Op : Type 0} → Piece Op → ℕ
place p = p.at

-- each piece begins where the one before it ends
abbrev pub Chain : {Op : Type 0} → ℕ → List (Piece Op) → ℕ → Type 0
Chain s [] e = s ≡ e
Chain s (p ∷ ps) e = (p.at ≡ s) × Chain (s + length p.ops) ps e

in_range : (x a b : ℕ) → 0 < inside x a b → (a ≤ x) × (x < b)
in_range x a b h = elim (cases_lt x a) [
  | inl k ↦ let e = inside_before x a b k in absurd (omega arith)
  | inr k ↦ elim (cases_lt x b) [
    | inl j ↦ (k, j)
    | inr j ↦ let e = inside_behind x a b j in absurd (omega arith)
  ]
]

-- a place before all pieces stands in none
in_none : {Op : Type 0} (x : ℕ) (ps : List (Piece Op)) → All (λ (p : Piece Op). x < p.at) ps → in_pieces x ps ≡ 0
in_none x [] h = refl
in_none {Op} x (p ∷ ps) h =
    let a : inside x p.at (p.at + length p.ops) ≡ 0 = inside_before x p.at (p.at + length p.ops) (All-head (λ (p : Piece Op). x < p.at) p ps h) in
    let b : in_pieces x ps ≡ 0 = in_none x ps (All-tail (λ (p : Piece Op). x < p.at) p ps h) in
    let c : in_pieces x (p ∷ ps) ≡ inside x p.at (p.at + length p.ops) + in_pieces x ps = sum_by-cons (λ (p : Piece Op). inside x p.at (p.at + length p.ops)) p ps in
    omega arith

pub chain_from : {Op : Type 0} (ps : List (Piece Op)) (s e : ℕ) → IsNonDecreasingBy (λ (p : Piece Op). p.at) ps → All HasOps ps → ((x : ℕ) → in_pieces x ps ≡ inside x s e) → s ≤ e → Chain s ps e
chain_from [] s e up some each le = elim (cases_lt s e) [
  | inl k ↦
      let a = inside_in s s e (omega arith) k in
      let b = each s in
      absurd (omega arith)
  | inr k ↦ omega arith
]
chain_from {Op} (p ∷ ps) s e up some each le =
    let n : 0 < length p.ops = All-head HasOps p ps some in
    let cons = λ (x : ℕ). sum_by-cons (λ (p : Piece Op). inside x p.at (p.at + length p.ops)) p ps in
    let a : in_pieces p.at (p ∷ ps) ≡ inside p.at p.at (p.at + length p.ops) + in_pieces p.at ps = cons p.at in
    let b : inside p.at p.at (p.at + length p.ops) ≡ 1 = inside_in p.at p.at (p.at + length p.ops) (omega arith) (omega arith) in
    let c : in_pieces p.at (p ∷ ps) ≡ inside p.at s e = each p.at in
    let d = in_range p.at s e (omega arith) in
    let d0 : s ≤ p.at = d.0 in
    let d1 : p.at < e = d.1 in
    let here : p.at ≡ s = elim (cases_lt s p.at) [
      | inl k ↦
          let q : in_pieces s (p ∷ ps) ≡ 0 = in_none s (p ∷ ps) (λ (j : ℕ) (z : Piece Op) (lt : j < length (p ∷ ps)).
          let u : p.at ≤ (get_or (p ∷ ps) j z).at = up 0 j z (omega arith) lt in
          let w : s < (get_or (p ∷ ps) j z).at = omega arith in w) in
          let r : inside s s e ≡ 1 = inside_in s s e (omega arith) (omega arith) in
          let t : in_pieces s (p ∷ ps) ≡ inside s s e = each s in
          absurd (omega arith)
      | inr k ↦ omega arith
    ] in
    let x = s + length p.ops - 1 in
    let a2 : in_pieces x (p ∷ ps) ≡ inside x p.at (p.at + length p.ops) + in_pieces x ps = cons x in
    let b2 : inside x p.at (p.at + length p.ops) ≡ 1 = inside_in x p.at (p.at + length p.ops) (omega arith) (omega arith) in
    let c2 : in_pieces x (p ∷ ps) ≡ inside x s e = each x in
    let d2 : x < e = (in_range x s e (omega arith)).1 in
    let le2 : s + length p.ops ≤ e = omega arith in (
      here,
      chain_from ps (s + length p.ops) e
          (λ i j d le lt. up (suc i) (suc j) d (omega arith) (omega arith))
          (All-tail HasOps p ps some)
          (λ y.
          let f : in_pieces y (p ∷ ps) ≡ inside y p.at (p.at + length p.ops) + in_pieces y ps = cons y in
          let g : in_pieces y (p ∷ ps) ≡ inside y s e = each y in
          let h : inside y s (s + length p.ops) + inside y (s + length p.ops) e ≡ inside y s e = inside_split y s (s + length p.ops) e (omega arith) le2 in
          let k : inside y p.at (p.at + length p.ops) ≡ inside y s (s + length p.ops) = ap (λ (z : ℕ). inside y z (z + length p.ops)) here in
          omega arith)
          le2,
    )

-- the pieces of a chain stand at their places behind what comes before
stand : {Op : Type 0} (start : ℕ) (front : List Op) (ps : List (Piece Op)) (e : ℕ) → Chain (start + length front) ps e → All (Stands start (front ++ flat_map (λ (p : Piece Op). p.ops) ps)) ps
stand {Op} start front [] e h = All-nil (Stands start (front ++ flat_map (λ (p : Piece Op). p.ops) []))
stand {Op} start front (p ∷ ps) e h =
    let rest = flat_map (λ (p : Piece Op). p.ops) ps in
    let all : front ++ flat_map (λ (p : Piece Op). p.ops) (p ∷ ps) ≡ (front ++ p.ops) ++ rest = ap (λ (zs : List Op). front ++ zs) (flat_map-cons (λ (p : Piece Op). p.ops) p ps) ∙ sym (append_assoc front p.ops rest) in
    let at : p.at - start ≡ length front = let k = h.0 in omega arith in
    let one : take (length p.ops) (drop (p.at - start) (front ++ (p.ops ++ rest))) ≡ p.ops = rw (at, drop-append_seam front (p.ops ++ rest)) (take-append_seam p.ops rest) in
    let head : Stands start ((front ++ p.ops) ++ rest) p = (let k = h.0 in omega arith, rw (append_assoc front p.ops rest) one) in
    let len : start + length front + length p.ops ≡ start + length (front ++ p.ops) = simp length-append (omega arith) in
    let next : Chain (start + length (front ++ p.ops)) ps e = subst (λ (n : ℕ). Chain n ps e) len h.1 in
    rw all (All-cons (Stands start ((front ++ p.ops) ++ rest)) p ps head (stand start (front ++ p.ops) ps e next))

no_places : (x : ℕ) (rs : List (Range ℕ)) → length rs ≡ 0 → in_ranges x rs ≡ 0
no_places x [] e = refl
no_places x (r ∷ rs) e = absurd (omega arith)

-- where all is kept, each place is kept once
pub whole : {Op : Type 0} (v : Collected Op) → Tiles v → is_complete v ≡ true → (x : ℕ) → in_pieces x v.kept ≡ inside x v.plan.target.start v.plan.target.end
unfolding is_complete
whole v h done x =
    let d : size_of_pieces v.kept ≡ v.plan.target.end - v.plan.target.start = eqb-true _ _ done in
    let t = h.total in
    let le = h.to_end in
    let lp : length (ranges_of v.pending) ≤ size_of_ranges (ranges_of v.pending) = length_ranges v.plan.target.end (ranges_of v.pending) h.pending in
    let lr : length v.rests ≤ size_of_ranges v.rests = length_ranges v.plan.target.end v.rests h.rests in
    let a : in_ranges x (ranges_of v.pending) ≡ 0 = no_places x (ranges_of v.pending) (omega arith) in
    let b : in_ranges x v.rests ≡ 0 = no_places x v.rests (omega arith) in
    let f : v.fresh ≡ v.plan.target.end = omega arith in
    let c : inside x v.fresh v.plan.target.end ≡ 0 = rw f (inside_none x v.plan.target.end) in
    let e = h.each x in
    omega arith

pub chain : {Op : Type 0} (v : Collected Op) (sorted : List (Piece Op)) → Tiles v → is_complete v ≡ true → IsPermutation v.kept sorted → IsNonDecreasingBy (λ (p : Piece Op). p.at) sorted → Chain v.plan.target.start sorted v.plan.target.end
chain {Op} v sorted h done perm up =
    chain_from sorted v.plan.target.start v.plan.target.end up (All-permutation HasOps v.kept sorted perm h.kept)
    (λ x. sum_by-IsPermutation (λ (p : Piece Op). inside x p.at (p.at + length p.ops)) v.kept sorted perm ∙ whole v h done x)
    (let a = h.from_start in let b = h.to_end in omega arith)

pub assembled : {Op : Type 0} (v : Collected Op) (sorted : List (Piece Op)) → Tiles v → is_complete v ≡ true → IsPermutation v.kept sorted → IsNonDecreasingBy (λ (p : Piece Op). p.at) sorted
    → Assembles v.plan.target.start v.kept (flat_map (λ (p : Piece Op). p.ops) sorted)
assembled {Op} v sorted h done perm up =
    let ops = flat_map (λ (p : Piece Op). p.ops) sorted in
    let zero : v.plan.target.start ≡ v.plan.target.start + length {A = Op} [] = omega arith in
    let c : Chain (v.plan.target.start + length {A = Op} []) sorted v.plan.target.end = subst (λ (n : ℕ). Chain n sorted v.plan.target.end) zero (chain v sorted h done perm up) in (
      length-flat_map (λ (p : Piece Op). p.ops) sorted ∙ sum_by-IsPermutation (λ (p : Piece Op). length p.ops) v.kept sorted perm,
      All-permutation (Stands v.plan.target.start ops) sorted v.kept (IsPermutation-sym v.kept sorted perm) (stand v.plan.target.start [] sorted v.plan.target.end c),
    )

-- as many operations as the range has places
pub size_is : {Op : Type 0} (v : Collected Op) (ops : List Op) → is_complete v ≡ true → Assembles v.plan.target.start v.kept ops → length ops ≡ v.plan.target.end - v.plan.target.start
unfolding is_complete
size_is v ops done h = h.0 ∙ eqb-true _ _ done

first_pinned : {Op : Type 0} (s e : ℕ) (nodes : List (List ℕ)) (ps : List (Piece Op)) → Chain s ps e → s < e → All (Pinned s nodes) ps → length nodes ≡ count_ones s
first_pinned s e nodes [] c lt h = absurd (omega arith)
first_pinned s e nodes (p ∷ ps) c lt h = All-head (Pinned s nodes) p ps h c.0

pub pinned_is : {Op : Type 0} (v : Collected Op) (sorted : List (Piece Op)) → v.plan.target.start < v.plan.target.end → Tiles v → is_complete v ≡ true → IsPermutation v.kept sorted → IsNonDecreasingBy (λ (p : Piece Op). p.at) sorted → length v.pinned ≡ count_ones v.plan.target.start
pinned_is v sorted lt h done perm up =
    first_pinned v.plan.target.start v.plan.target.end v.pinned sorted (chain v sorted h done perm up) lt (All-permutation (Pinned v.plan.target.start v.pinned) v.kept sorted perm h.pinned)

-- the operations of the sorted pieces are the part, and the pinned nodes are there
pub finished : {Op : Type 0} (v : Collected Op) (ops : List Op) → v.plan.target.start < v.plan.target.end → Tiles v → is_complete v ≡ true → IsJoined v.kept ops
    → Assembles v.plan.target.start v.kept ops × (length v.pinned ≡ count_ones v.plan.target.start) × (length ops ≡ v.plan.target.end - v.plan.target.start)
finished {Op} v ops lt h done j =
    let a : Assembles v.plan.target.start v.kept ops = subst (λ (z : List Op). Assembles v.plan.target.start v.kept z) (sym j.3) (assembled v j.0 h done j.1 j.2) in
    (a, pinned_is v j.0 lt h done j.1 j.2, size_is v ops done a)

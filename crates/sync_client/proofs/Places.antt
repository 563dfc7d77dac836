-- Places in lists of asks and of their ranges.
use Rattle.std.proofs.Common.{◌≡◌, ℕ, zero, suc, ◌+◌, ◌<◌, ◌≤◌, Bool, not, cond, List, [], ◌∷◌, ◌++◌, length, map, take, drop, get_or, slice_get, Option, Some, None, nat_lt, nat_le, ◌&&◌, sum_by, position, remove, refl, sym, ap, ◌∙◌, arith, inl, inr, option_map, option_and_then}
use Rattle.std.specs.List.{prefix_len}
use Rattle.std.specs.declared.ops.Range.{Range}
use Rattle.std.proofs.lemmas.List.{length-map, length-take-le}
use Rattle.std.proofs.lemmas.Bool.{cases_order, cases_Bool}
use Rattle.std.proofs.lemmas.Option.{slice_get-map, slice_get_within, get_or_from_slice_get}
use Rattle.std.proofs.lemmas.List.Sums.{sum_by_more_le, get_or-le-sum_by}
use Rattle.sync_client.specs.Asking.{without_at}
use Rattle.sync_client.specs.declared.asked.Asked.{Asked}
use Rattle.sync_client.specs.Collected.{Collected, same_range, ranges_of, place_in, without, target_or, target_of, IsOutstanding}
use Rattle.ledger_log.specs.declared.target.Target.{Target}
use Rattle.sync_client.specs.Tiles.{Tiles, inside, in_ranges, Within, EndsWithin}
use Rattle.sync_client.proofs.Insides.{inside_in, found_at, range_without, last_outstanding, All-at}

prefix_len_map : {X Y : Type 0} (q : Y → Bool) (f : X → Y) (xs : List X) → prefix_len q (map f xs) ≡ prefix_len (λ x. q (f x)) xs
prefix_len_map q f [] = refl
prefix_len_map q f (x ∷ xs) = ap (λ (n : ℕ). cond (q (f x)) (1 + n) 0) (prefix_len_map q f xs)

pub position_map : {X Y : Type 0} (p : Y → Bool) (f : X → Y) (xs : List X) → position p (map f xs) ≡ position (λ x. p (f x)) xs
position_map p f xs = rw (prefix_len_map (λ y. not (p y)) f xs, length-map xs f) refl

pub get_map : {X Y : Type 0} (f : X → Y) (xs : List X) (o : Option ℕ) → option_and_then (λ i. slice_get (map f xs) i) o ≡ option_map f (option_and_then (λ i. slice_get xs i) o)
get_map f xs None = refl
get_map f xs (Some i) = slice_get-map f xs i

map_app : {X Y : Type 0} (f : X → Y) (xs ys : List X) → map f (xs ++ ys) ≡ map f xs ++ map f ys
map_app f [] ys = refl
map_app f (x ∷ xs) ys = ap (λ zs. f x ∷ zs) (map_app f xs ys)

map_take : {X Y : Type 0} (f : X → Y) (i : ℕ) (xs : List X) → map f (take i xs) ≡ take i (map f xs)
map_take f zero xs = refl
map_take f (suc i) [] = refl
map_take f (suc i) (x ∷ xs) = ap (λ zs. f x ∷ zs) (map_take f i xs)

map_drop : {X Y : Type 0} (f : X → Y) (i : ℕ) (xs : List X) → map f (drop i xs) ≡ drop i (map f xs)
map_drop f zero xs = refl
map_drop f (suc i) [] = refl
map_drop f (suc i) (x ∷ xs) = map_drop f i xs

pub without_map : {X Y : Type 0} (f : X → Y) (o : Option ℕ) (xs : List X) → map f (without_at o xs) ≡ without_at o (map f xs)
without_map f None xs = refl
without_map f (Some i) xs = map_app f (take i xs) (drop (suc i) xs) ∙ rw (map_take f i xs, map_drop f (suc i) xs) refl

get_take : {X : Type 0} (xs : List X) (j i : ℕ) (d : X) → i < j → get_or (take j xs) i d ≡ get_or xs i d
get_take [] zero i d lt = absurd (omega arith)
get_take [] (suc j) i d lt = refl
get_take (x ∷ xs) zero i d lt = absurd (omega arith)
get_take (x ∷ xs) (suc j) zero d lt = refl
get_take (x ∷ xs) (suc j) (suc i) d lt = get_take xs j i d (omega arith)

-- two places of a list
two : {X : Type 0} (f : X → ℕ) (xs : List X) (i j : ℕ) (d : X) → i < j → j < length xs → f (get_or xs i d) + f (get_or xs j d) ≤ sum_by f xs
two f xs i j d lt in' =
    let a = sum_by_more_le f xs j d in' in
    let n : length (take j xs) ≡ j = length-take-le j xs (omega arith) in
    let b : f (get_or (take j xs) i d) ≤ sum_by f (take j xs) = get_or-le-sum_by f (take j xs) i d (omega arith) in
    let c : f (get_or (take j xs) i d) ≡ f (get_or xs i d) = ap f (get_take xs j i d lt) in
    omega arith

inside_most : (x a b : ℕ) → inside x a b ≤ 1
unfolding inside
inside_most x a b = elim (cases_Bool (nat_le a x && nat_lt x b)) [ inl e ↦ rw e (omega arith) | inr e ↦ rw e (omega arith) ]

-- ---- what was asked

-- the place at which a range was asked is its place among the ranges
pub place_is : (r : Range ℕ) (asked : List Asked) → place_in r asked ≡ position (λ q. same_range q r) (ranges_of asked)
place_is r asked = sym (position_map (λ (q : Range ℕ). same_range q r) (λ (a : Asked). a.range) asked)

pub ranges_without : (r : Range ℕ) (asked : List Asked) → ranges_of (without r asked) ≡ range_without r (ranges_of asked)
ranges_without r asked = without_map (λ (a : Asked). a.range) (place_in r asked) asked ∙ ap (λ (o : Option ℕ). without_at o (ranges_of asked)) (place_is r asked)

pub ranges_push : (asked more : List Asked) (a : Asked) → more ≡ asked ++ a ∷ [] → ranges_of more ≡ ranges_of asked ++ a.range ∷ []
ranges_push asked more a e = ap ranges_of e ∙ map_app (λ (b : Asked). b.range) asked (a ∷ [])

-- the range that was asked last is outstanding
pub asked_last : (asked more : List Asked) (a : Asked) → more ≡ asked ++ a ∷ [] → IsOutstanding a.range (ranges_of more)
asked_last asked more a e = last_outstanding (ranges_of asked) (ranges_of more) a.range (ranges_push asked more a e)

-- a range stands at one place
pub one_place : {Op : Type 0} (v : Collected Op) (r : Range ℕ) (i j : ℕ) → Tiles v → r.start < r.end → i < length (ranges_of v.pending) → j < length (ranges_of v.pending) → get_or (ranges_of v.pending) i r ≡ r → get_or (ranges_of v.pending) j r ≡ r → i ≡ j
one_place v r i j h some li lj ei ej =
    let f : Range ℕ → ℕ = λ (q : Range ℕ). inside r.start q.start q.end in
    let one : inside r.start r.start r.end ≡ 1 = inside_in r.start r.start r.end (omega arith) some in
    let fi : f (get_or (ranges_of v.pending) i r) ≡ 1 = ap f ei ∙ one in
    let fj : f (get_or (ranges_of v.pending) j r) ≡ 1 = ap f ej ∙ one in
    let all = h.each r.start in
    let most : inside r.start v.plan.target.start v.plan.target.end ≤ 1 = inside_most r.start v.plan.target.start v.plan.target.end in
    elim (cases_order i j) [
      | inl e ↦ e
      | inr o ↦ elim o [
        | inl lt ↦ let t : f (get_or (ranges_of v.pending) i r) + f (get_or (ranges_of v.pending) j r) ≤ in_ranges r.start (ranges_of v.pending) = two f (ranges_of v.pending) i j r lt lj in absurd (omega arith)
        | inr lt ↦ let t : f (get_or (ranges_of v.pending) j r) + f (get_or (ranges_of v.pending) i r) ≤ in_ranges r.start (ranges_of v.pending) = two f (ranges_of v.pending) j i r lt li in absurd (omega arith)
      ]
    ]

-- the range at a place is found there
pub found_there : {Op : Type 0} (v : Collected Op) (r : Range ℕ) (i : ℕ) → Tiles v → slice_get (ranges_of v.pending) i ≡ Some r → place_in r v.pending ≡ Some i
found_there v r i h e =
    let rs : List (Range ℕ) = ranges_of v.pending in
    let f = found_at r rs (i, e) in
    let asked : Within v.plan.target.end r = All-at (Within v.plan.target.end) rs i r e h.pending in
    let same : f.0 ≡ i = one_place v r f.0 i h asked.0 f.2 (slice_get_within rs i r e) f.3 (get_or_from_slice_get rs i r r e) in
    place_is r v.pending ∙ (f.1 ∙ ap Some same)

-- what is left without it
pub without_is : {Op : Type 0} (v : Collected Op) (r : Range ℕ) (i : ℕ) → Tiles v → slice_get (ranges_of v.pending) i ≡ Some r → without r v.pending ≡ remove v.pending i
without_is v r i h e = ap (λ (o : Option ℕ). without_at o v.pending) (found_there v r i h e)

-- and the target that it was asked for
pub target_is : {Op : Type 0} (v : Collected Op) (a : Asked) (i : ℕ) → Tiles v → slice_get v.pending i ≡ Some a → target_of v a.range ≡ a.target
target_is v a i h e =
    let at : slice_get (ranges_of v.pending) i ≡ Some a.range = slice_get-map (λ (b : Asked). b.range) v.pending i ∙ ap (option_map (λ (b : Asked). b.range)) e in
    ap (λ (o : Option ℕ). target_or v.plan.target (option_and_then (λ j. slice_get v.pending j) o)) (found_there v a.range i h at) ∙ ap (target_or v.plan.target) e

-- what was asked at the place of a range
pub asked_there : (asked : List Asked) (i : ℕ) (r : Range ℕ) → slice_get (ranges_of asked) i ≡ Some r → (a : Asked) × (slice_get asked i ≡ Some a) × (a.range ≡ r)
asked_there [] i r e = absurd (cc e)
asked_there (a ∷ asked) zero r e = (a, refl, cc e)
asked_there (a ∷ asked) (suc i) r e = asked_there asked i r e

-- a range that was asked ends within its target
pub target_ends : {Op : Type 0} (v : Collected Op) (r : Range ℕ) → Tiles v → IsOutstanding r (ranges_of v.pending) → r.end ≤ (target_of v r).end
target_ends v r h out =
    let a = asked_there v.pending out.0 r out.1 in
    let within : a.0.range.end ≤ a.0.target.end = All-at EndsWithin v.pending out.0 a.0 a.1 h.targets in
    let same : target_of v r ≡ a.0.target = ap (target_of v) (sym a.2) ∙ target_is v a.0 out.0 h a.1 in
    let end : (target_of v r).end ≡ a.0.target.end = ap (λ (t : Target). t.end) same in
    let here : a.0.range.end ≡ r.end = ap (λ (q : Range ℕ). q.end) a.2 in
    omega arith

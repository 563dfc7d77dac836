-- What two equal answers of a step say of their values.
use Rattle.std.proofs.Common.{◌≡◌, ◌<◌, ◌+◌, ◌-◌, ℕ, List, [], ◌∷◌, ◌++◌, Result, Ok, Err, All, length, take, map, get_or, refl, sym, ap, ◌∙◌, subst, arith}
use Rattle.std.proofs.lemmas.List.{take_more}
use Rattle.std.proofs.lemmas.List.Elements.{All-push}
use Rattle.ledger_simulate.specs.Results.{ResultView}
use Rattle.ledger_simulate.specs.declared.simulation.Simulation.{Simulation}
use Rattle.ledger_simulate.specs.declared.simulation.Stepped.{Stepped}
use Rattle.ledger_simulate.specs.declared.simulation.Stepped.TheVariants.{On, Done}

-- a step that went on
pub same_on : {D E S I J K F : Type 0} {P : I → Type 0} {Q : J → Type 0} {R : K → Type 0} (x y : Simulation D E S I J K P Q R) → ◌≡◌ {A = Result (Stepped D E S I J K P Q R) F} (Ok (On x)) (Ok (On y)) → x ≡ y
same_on x y e = cc

-- a step that ended the run
pub same_done : {D E S I J K F : Type 0} {P : I → Type 0} {Q : J → Type 0} {R : K → Type 0} (x y : ResultView) → ◌≡◌ {A = Result (Stepped D E S I J K P Q R) F} (Ok (Done x)) (Ok (Done y)) → x ≡ y
same_done x y e = cc

same_error : {A E : Type 0} (x y : E) → ◌≡◌ {A = Result A E} (Err x) (Err y) → x ≡ y
same_error x y e = cc

-- equal refusals, of another call
pub error_of : {A B E : Type 0} (x y : E) → ◌≡◌ {A = Result A E} (Err x) (Err y) → ◌≡◌ {A = Result B E} (Err x) (Err y)
error_of x y e = ap Err (same_error x y e)

-- fewer events are left
pub fewer_left : (m limit h handled : ℕ) → m ≡ limit → h ≡ handled + 1 → handled < limit → m - h < limit - handled
fewer_left m limit h handled same one below = omega arith

map_push : {X Y : Type 0} (f : X → Y) (xs : List X) (y : X) → map f (xs ++ y ∷ []) ≡ map f xs ++ f y ∷ []
map_push f [] y = refl
map_push f (x ∷ xs) y = ap (λ ys. f x ∷ ys) (map_push f xs y)

-- one result more, under the next seed
pub seeds_more : (rs new : List ResultView) (r : ResultView) (seeds : List ℕ) (i : ℕ) → new ≡ rs ++ r ∷ [] → map (λ (x : ResultView). x.seed) rs ≡ take i seeds → i < length seeds → r.seed ≡ get_or seeds i 0 → map (λ (x : ResultView). x.seed) new ≡ take (i + 1) seeds
seeds_more rs new r seeds i grown so_far within seed =
    ap (map (λ (x : ResultView). x.seed)) grown ∙ map_push (λ (x : ResultView). x.seed) rs r ∙ ap (λ ys. ys ++ r.seed ∷ []) so_far
    ∙ ap (λ n. take i seeds ++ n ∷ []) seed ∙ sym (take_more seeds i 0 within)

-- a fact of each result, with one more
pub each_more : (P : ResultView → Type 0) (rs new : List ResultView) (r : ResultView) → new ≡ rs ++ r ∷ [] → All P rs → P r → All P new
each_more P rs new r grown so_far here = subst (All P) (sym grown) (All-push P rs r so_far here)

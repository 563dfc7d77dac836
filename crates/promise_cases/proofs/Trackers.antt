-- A tracker of one report.
use Rattle.std.proofs.Common.{◌≡◌, ◌≢◌, ℕ, Bool, not, false, true, List, [], ◌∷◌, map, refl, sym, ap, subst, ◌∙◌, arith}
use Rattle.std.specs.Prelude.{bytes_eq, slice_index_or}
use Rattle.std.specs.List.{Contains}
use Rattle.std.specs.Map.{lookup}
use Rattle.std.specs.BTreeMap.{is_at}
use Rattle.std.specs.Option.{option_map_or}
use Rattle.std.specs.Ordering.{nat_cmp}
use Rattle.simulate_parts.specs.Tracker.{disagrees_at_height, finalized_rounds, fresh, kept_at_height, observed}
use Rattle.simulate_parts.specs.TrackerView.{TrackerView}
use Rattle.simulate_parts.specs.declared.peer.Round.{Round}
use Rattle.simulate_parts.specs.declared.tracker.FinalizationUpdate.{FinalizationUpdate}

one_round : (old : TrackerView) (u : FinalizationUpdate) → old ≡ fresh → finalized_rounds (observed old u) ≡ u.round ∷ []
one_round old u e = ap (λ (t : TrackerView). finalized_rounds (observed t u)) e

only_of : (x y : ℕ) → Contains (x ∷ []) y → y ≡ x
only_of x y there = let first : there.0 ≡ 0 = omega (arith, there.1) in sym (ap (λ (k : ℕ). slice_index_or (x ∷ []) k y) (sym first) ∙ there.2)

-- the least view of a tracker of one report is that report's
pub its_view : (old now : TrackerView) (u : FinalizationUpdate) (least view : ℕ) → old ≡ fresh → now ≡ observed old u → u.round.view ≡ view
    → (finalized_rounds now ≢ [] → Contains (map (λ (r : Round). r.view) (finalized_rounds now)) least) → least ≡ view
its_view old now u least view new is seen among =
    let rounds : finalized_rounds now ≡ u.round ∷ [] = ap finalized_rounds is ∙ one_round old u new in
    let some : finalized_rounds now ≢ [] = λ none. (let k : u.round ∷ [] ≡ [] = sym rounds ∙ none in cc k) in
    only_of u.round.view least (subst (λ (rs : List Round). Contains (map (λ (r : Round). r.view) rs) least) rounds (among some)) ∙ seen

-- whether a report of this digest at this height stands against a first one
abbrev pub clash : ℕ → List ℕ → ℕ → List ℕ → Bool
clash h d k e = option_map_or (λ x. not (bytes_eq x e)) (lookup (is_at (nat_cmp k)) (kept_at_height [] h d)) false

clash_there : clash 3 (1 ∷ []) 3 (2 ∷ []) ≡ true
clash_there = refl

pub stands_against : (old now : TrackerView) (u v : FinalizationUpdate) → old ≡ fresh → now ≡ observed old u → u.height ≡ 3 → v.height ≡ 3 → u.block_digest ≡ 1 ∷ [] → v.block_digest ≡ 2 ∷ [] → disagrees_at_height now v ≡ true
stands_against old now u v new is uh vh ud vd =
    ap (λ (t : TrackerView). disagrees_at_height t v) (is ∙ ap (λ (t : TrackerView). observed t u) new)
    ∙ (ap (λ (h : ℕ). clash h u.block_digest v.height v.block_digest) uh
    ∙ (ap (λ (h : ℕ). clash 3 u.block_digest h v.block_digest) vh
    ∙ (ap (λ (d : List ℕ). clash 3 d 3 v.block_digest) ud
    ∙ (ap (λ (d : List ℕ). clash 3 (1 ∷ []) 3 d) vd ∙ clash_there))))

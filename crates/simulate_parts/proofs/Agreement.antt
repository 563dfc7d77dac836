-- A list of reports that a fresh tracker takes has no two that disagree.
use Rattle.std.proofs.Common.{◌≡◌, ◌⊎◌, ℕ, ◌<◌, ◌++◌, Bool, true, false, not, ◌||◌, cond, List, [], ◌∷◌, Option, Some, None, length, get_or, All, unwrap_or, is_some, bytes_eq, refl, sym, ap, ◌∙◌, subst, inl, inr, suc, zero, arith}
use Rattle.std.specs.List.{AllPairs, list_any}
use Rattle.std.specs.Option.{option_map_or, option_or}
use Rattle.std.specs.Ordering.{nat_cmp, is_eq}
use Rattle.std.specs.Map.{lookup}
use Rattle.std.specs.BTreeMap.{insert_entry, is_at}
use Rattle.std.proofs.lemmas.Slice.Eq.{bytes_eq-Decides}
use Rattle.std.proofs.lemmas.List.Elements.{All-nil, All-cons, All-weaker}
use Rattle.std.proofs.lemmas.List.Folds.{list_any-append}
use Rattle.simulate_parts.specs.Tracker.{round_cmp, digest_at, digests_at, disagrees_at_height, disagrees_at_round, observe_fault, observed, kept_at_height, kept_at_round, fault_from, first_fault, fresh, SameBlocks, Agree}
use Rattle.simulate_parts.specs.TrackerView.{TrackerView}
use Rattle.simulate_parts.specs.declared.peer.Round.{Round}
use Rattle.simulate_parts.specs.declared.tracker.FinalizationUpdate.{FinalizationUpdate}
use Rattle.simulate_parts.specs.declared.tracker.ObserveFault.{ObserveFault}
use Rattle.simulate_parts.specs.declared.tracker.ObserveFault.TheVariants.{Height, Round as at_round}
use Rattle.simulate_parts.proofs.Lookups.{exact_numbers, exact_rounds, lookup_put, lookup_beside}

not_false : (b : Bool) → not b ≡ false → b ≡ true
not_false true h = refl
not_false false h = absurd (cc)

-- a digest that is kept at a height stays
height_stays : (es : List (ℕ × List ℕ)) (h q : ℕ) (d e : List ℕ) → lookup (is_at (nat_cmp q)) es ≡ Some e → lookup (is_at (nat_cmp q)) (kept_at_height es h d) ≡ Some e
height_stays es h q d e here =
    stays (lookup (is_at (nat_cmp h)) es) refl (is_eq (nat_cmp q h)) refl
  where
    stays : (o : Option (List ℕ)) → lookup (is_at (nat_cmp h)) es ≡ o → (b : Bool) → is_eq (nat_cmp q h) ≡ b → lookup (is_at (nat_cmp q)) (cond (is_some o) es (insert_entry nat_cmp es h d)) ≡ Some e
    stays (Some x) at b same = here
    stays None at true same =
        let key : q ≡ h = exact_numbers.same q h same in
        let gone : lookup (is_at (nat_cmp q)) es ≡ None = rw key at in
        absurd (cc)
    stays None at false same = lookup_beside nat_cmp exact_numbers es h q d same ∙ here

-- a report's digest is kept at its height
height_told : (t : TrackerView) (u : FinalizationUpdate) → disagrees_at_height t u ≡ false → digest_at (observed t u) u.height ≡ Some u.block_digest
height_told t u agrees =
    told (digest_at t u.height) refl agrees
  where
    told : (o : Option (List ℕ)) → digest_at t u.height ≡ o → option_map_or (λ d. not (bytes_eq d u.block_digest)) o false ≡ false → lookup (is_at (nat_cmp u.height)) (cond (is_some o) t.heights (insert_entry nat_cmp t.heights u.height u.block_digest)) ≡ Some u.block_digest
    told None at ok = lookup_put nat_cmp exact_numbers t.heights u.height u.block_digest
    told (Some d) at ok =
        let same : bytes_eq d u.block_digest ≡ true = not_false (bytes_eq d u.block_digest) ok in
        at ∙ ap Some ((bytes_eq-Decides d u.block_digest).0 same)

-- a report that agrees with a later tracker at its height agreed before
height_before : (t : TrackerView) (u v : FinalizationUpdate) → disagrees_at_height (observed t u) v ≡ false → disagrees_at_height t v ≡ false
height_before t u v later =
    before (digest_at t v.height) refl
  where
    before : (o : Option (List ℕ)) → digest_at t v.height ≡ o → option_map_or (λ d. not (bytes_eq d v.block_digest)) o false ≡ false
    before None at = refl
    before (Some d) at =
        let kept : digest_at (observed t u) v.height ≡ Some d = height_stays t.heights u.height v.height u.block_digest d at in
        sym (ap (λ o. option_map_or (λ d. not (bytes_eq d v.block_digest)) o false) kept) ∙ later

-- the digests at a round after a report: as before, or with the report's one at the end
round_after : (es : List (Round × List (List ℕ))) (r q : Round) (d : List ℕ) → (unwrap_or (lookup (is_at (round_cmp q)) (kept_at_round es r d)) [] ≡ unwrap_or (lookup (is_at (round_cmp q)) es) []) ⊎ (unwrap_or (lookup (is_at (round_cmp q)) (kept_at_round es r d)) [] ≡ unwrap_or (lookup (is_at (round_cmp q)) es) [] ++ d ∷ [])
round_after es r q d =
    after (list_any (λ e. bytes_eq e d) (unwrap_or (lookup (is_at (round_cmp r)) es) [])) (is_eq (round_cmp q r)) refl
  where
    after : (b : Bool) (same : Bool) → is_eq (round_cmp q r) ≡ same → let new = option_map_or (insert_entry round_cmp es r) (cond b None (Some (unwrap_or (lookup (is_at (round_cmp r)) es) [] ++ d ∷ []))) es in (unwrap_or (lookup (is_at (round_cmp q)) new) [] ≡ unwrap_or (lookup (is_at (round_cmp q)) es) []) ⊎ (unwrap_or (lookup (is_at (round_cmp q)) new) [] ≡ unwrap_or (lookup (is_at (round_cmp q)) es) [] ++ d ∷ [])
    after true same h = inl refl
    after false true h =
        let key : q ≡ r = exact_rounds.same q r h in
        inr (rw key (ap (λ o. unwrap_or o []) (lookup_put round_cmp exact_rounds es r (unwrap_or (lookup (is_at (round_cmp r)) es) [] ++ d ∷ []))))
    after false false h =
        inl (ap (λ o. unwrap_or o []) (lookup_beside round_cmp exact_rounds es r q (unwrap_or (lookup (is_at (round_cmp r)) es) [] ++ d ∷ []) h))

or_left : (a b : Bool) → (a || b) ≡ false → a ≡ false
or_left true b h = absurd (cc)
or_left false b h = refl

-- a report that agrees with a later tracker at its round agreed before
round_before : (t : TrackerView) (u v : FinalizationUpdate) → disagrees_at_round (observed t u) v ≡ false → disagrees_at_round t v ≡ false
round_before t u v later =
    elim (round_after t.rounds u.round v.round u.block_digest) [
      | inl same ↦ sym (ap (list_any (λ d. not (bytes_eq d v.block_digest))) same) ∙ later
      | inr more ↦
          or_left _ _ (sym (list_any-append (λ d. not (bytes_eq d v.block_digest)) (digests_at t v.round) (u.block_digest ∷ [])) ∙ sym (ap (list_any (λ d. not (bytes_eq d v.block_digest))) more) ∙ later)
    ]

bytes_itself : (d : List ℕ) → bytes_eq d d ≡ true
bytes_itself d = (bytes_eq-Decides d d).1 refl

or_right : (a b : Bool) → b ≡ true → (a || b) ≡ true
or_right true b h = refl
or_right false b h = h

-- a report's digest is among those at its round
round_told : (t : TrackerView) (u : FinalizationUpdate) → list_any (λ d. bytes_eq d u.block_digest) (digests_at (observed t u) u.round) ≡ true
round_told t u =
    told (list_any (λ d. bytes_eq d u.block_digest) (digests_at t u.round)) refl
  where
    told : (b : Bool) → list_any (λ d. bytes_eq d u.block_digest) (digests_at t u.round) ≡ b → list_any (λ d. bytes_eq d u.block_digest) (unwrap_or (lookup (is_at (round_cmp u.round)) (option_map_or (insert_entry round_cmp t.rounds u.round) (cond b None (Some (digests_at t u.round ++ u.block_digest ∷ []))) t.rounds)) []) ≡ true
    told true here = here
    told false here =
        ap (λ o. list_any (λ d. bytes_eq d u.block_digest) (unwrap_or o [])) (lookup_put round_cmp exact_rounds t.rounds u.round (digests_at t u.round ++ u.block_digest ∷ []))
        ∙ list_any-append (λ d. bytes_eq d u.block_digest) (digests_at t u.round) (u.block_digest ∷ [])
        ∙ or_right (list_any (λ d. bytes_eq d u.block_digest) (digests_at t u.round)) _ (rw (bytes_itself u.block_digest) refl)

-- a digest among some that are all another one is that one
only_one : (ds : List (List ℕ)) (a b : List ℕ) → list_any (λ d. bytes_eq d a) ds ≡ true → list_any (λ d. not (bytes_eq d b)) ds ≡ false → a ≡ b
only_one [] a b some_a all_b = absurd (cc)
only_one (d ∷ ds) a b some_a all_b =
    one (only_one ds a b) (bytes_eq d a) refl (bytes_eq d b) refl some_a all_b
  where
    one : (list_any (λ d. bytes_eq d a) ds ≡ true → list_any (λ d. not (bytes_eq d b)) ds ≡ false → a ≡ b) → (x : Bool) → bytes_eq d a ≡ x → (y : Bool) → bytes_eq d b ≡ y → (x || list_any (λ d. bytes_eq d a) ds) ≡ true → (not y || list_any (λ d. not (bytes_eq d b)) ds) ≡ false → a ≡ b
    one rest x is_a false is_b s l = absurd (cc)
    one rest true is_a true is_b s l = sym ((bytes_eq-Decides d a).0 is_a) ∙ (bytes_eq-Decides d b).0 is_b
    one rest false is_a true is_b s l = rest s l

-- two reports that are taken one after the other name the same blocks
same_blocks : (t : TrackerView) (u v : FinalizationUpdate) → disagrees_at_height t u ≡ false → disagrees_at_height (observed t u) v ≡ false → disagrees_at_round (observed t u) v ≡ false → SameBlocks u v
same_blocks t u v first height round = (
  λ e.
      let kept : digest_at (observed t u) v.height ≡ Some u.block_digest = subst (λ h. digest_at (observed t u) h ≡ Some u.block_digest) e (height_told t u first) in
      let same : not (bytes_eq u.block_digest v.block_digest) ≡ false = sym (ap (λ o. option_map_or (λ d. not (bytes_eq d v.block_digest)) o false) kept) ∙ height in
      (bytes_eq-Decides u.block_digest v.block_digest).0 (not_false _ same),
  λ e.
      only_one (digests_at (observed t u) v.round) u.block_digest v.block_digest
      (subst (λ r. list_any (λ d. bytes_eq d u.block_digest) (digests_at (observed t u) r) ≡ true) e (round_told t u)) round,
)

-- what no refusal says of a report
taken : (t : TrackerView) (u : FinalizationUpdate) → observe_fault t u ≡ None → (disagrees_at_height t u ≡ false) × (disagrees_at_round t u ≡ false)
taken t u none =
    neither (disagrees_at_height t u) refl (disagrees_at_round t u) refl none
  where
    neither : (a : Bool) → disagrees_at_height t u ≡ a → (b : Bool) → disagrees_at_round t u ≡ b → cond a (Some (Height u.height)) (cond b (Some (at_round u.round)) None) ≡ None → (disagrees_at_height t u ≡ false) × (disagrees_at_round t u ≡ false)
    neither true ha b hb h = absurd (cc)
    neither false ha true hb h = absurd (cc)
    neither false ha false hb h = (ha, hb)

or_none : (o p : Option ObserveFault) → option_or o p ≡ None → (o ≡ None) × (p ≡ None)
or_none None p h = (refl, h)
or_none (Some x) p h = absurd (cc)

-- each of a list of reports that a tracker takes agrees with the tracker as it was before
all_agree : (t : TrackerView) (us : List FinalizationUpdate) → fault_from t us ≡ None → All (λ v. (disagrees_at_height t v ≡ false) × (disagrees_at_round t v ≡ false)) us
all_agree t [] h = All-nil (λ v. (disagrees_at_height t v ≡ false) × (disagrees_at_round t v ≡ false))
all_agree t (u ∷ us) h =
    let parts = or_none (observe_fault t u) (fault_from (observed t u) us) h in
    All-cons (λ v. (disagrees_at_height t v ≡ false) × (disagrees_at_round t v ≡ false)) u us (taken t u parts.0)
    (All-weaker (λ v. (disagrees_at_height (observed t u) v ≡ false) × (disagrees_at_round (observed t u) v ≡ false)) (λ v. (disagrees_at_height t v ≡ false) × (disagrees_at_round t v ≡ false))
    (λ v p. (height_before t u v p.0, round_before t u v p.1)) us (all_agree (observed t u) us parts.1))

pairs-cons : {X : Type 0} (R : X → X → Type 0) (x : X) (xs : List X) → All (R x) xs → AllPairs R xs → (i j : ℕ) (d : X) → i < j → j < length (x ∷ xs) → R (get_or (x ∷ xs) i d) (get_or (x ∷ xs) j d)
pairs-cons R x xs first rest i zero d below within = absurd (omega arith)
pairs-cons R x xs first rest zero (suc j) d below within = first j d (omega arith)
pairs-cons R x xs first rest (suc i) (suc j) d below within = rest i j d (omega arith) (omega arith)

agree_from : (t : TrackerView) (us : List FinalizationUpdate) → fault_from t us ≡ None → Agree us
agree_from t [] h = λ i j d below within. absurd (omega arith)
agree_from t (u ∷ us) h =
    let parts = or_none (observe_fault t u) (fault_from (observed t u) us) h in
    pairs-cons SameBlocks u us
    (All-weaker (λ v. (disagrees_at_height (observed t u) v ≡ false) × (disagrees_at_round (observed t u) v ≡ false)) (SameBlocks u)
    (λ v p. same_blocks t u v (taken t u parts.0).0 p.0 p.1) us (all_agree (observed t u) us parts.1))
    (agree_from (observed t u) us parts.1)

-- reports that a fresh tracker takes agree
pub agree_of : (us : List FinalizationUpdate) → first_fault us ≡ None → Agree us
agree_of us h = agree_from fresh us h

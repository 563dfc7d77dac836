-- Each step keeps the rule.
use Rattle.std.proofs.Common.{◌≡◌, ◌≢◌, ℕ, zero, suc, ◌+◌, ◌-◌, ◌*◌, ◌%◌, ◌^◌, ◌<◌, ◌≤◌, List, [], ◌∷◌, ◌++◌, length, set, get_or, Option, Some, None, refl, sym, ap, ◌∙◌, subst, ⊎_elim, inl, inr, arith, length-append, mod-eq_of_lt}
use mathlib.Core.Option.{some, none, some-ne-none, some-injective}
use mathlib.Core.Option as maybe
use mathlib.Core.Logic.{dite}
use native.Mathlib.Decide.{ℕ_discrete}
use lib.ListN.{get_elem?}
use lib.Seq.{set-get_or}
use Rattle.atomic_table.specs.Table.{State, Me, Step, step, Act, keeps, takes, gives, stepped, homes_after, Allows, Splits, Joins, opening, Final, Seen}
use Rattle.atomic_table.proofs.Lists.{set_again, set_here, set_else, at_longer}
use Rattle.turn_lock.specs.declared.entry.Entry.{Entry}
use Rattle.turn_lock.specs.declared.held.Held.{Held}
use Rattle.turn_lock.specs.declared.rule.Key.{Key}
use Rattle.turn_lock.specs.declared.rule.View.{View}
use Rattle.turn_lock.specs.declared.rule.Stage.{Stage}
use Rattle.turn_lock.specs.declared.rule.Stage.TheVariants.{Idle, Waits, Holds}
use Rattle.turn_lock.specs.History.{value_after, Legal, calls}
use Rattle.turn_lock.specs.Turns.{Good, Left}
use Rattle.turn_lock.specs.Rule.{callers, tail_of, head_of, filled, longer, StandsFor, Told, recount, HasTicket, tickets, Fits, Apart, IsValue, Home, Kept, first_view, blank, rest_dealt, one_dealt, note_of, met, drawn, Taken, watched, raised, looked}
use Rattle.turn_lock.proofs.Views.{total_set, total_snoc, each_set, each_snoc, set_swap, pairs_set, pairs_snoc}
use Rattle.turn_lock.proofs.Histories.{legal_begins, begins_same, begins_nil, begins_more, told_recount, recount_stands, told_append, stands_append, begins_longer, filled_begins, told_between, place_legal, place_told, place_others, told_callers, stands_callers}

has_holds : (s : Stage) (t : ℕ) → s ≡ Holds t → HasTicket s t
has_holds s t e = subst (λ x. HasTicket x t) (sym e) refl

has_waits : (s : Stage) (t : ℕ) → s ≡ Waits t → HasTicket s t
has_waits s t e = subst (λ x. HasTicket x t) (sym e) refl

at_bound : {A : Type 0} (l : List A) (i : ℕ) (a : A) → get_elem? l i ≡ some a → i < length l
at_bound [] i a e = absurd (some-ne-none a (sym e))
at_bound (x ∷ xs) zero a e = omega arith
at_bound (x ∷ xs) (suc i) a e = let h = at_bound xs i a e in omega arith

module _ {V E A : Type 0} where
  pub apart_turned : (v w : (View V E A)) → Apart v w → Apart w v
  apart_turned v w a = record { turns = λ t x y. a.turns t y x; callers = λ c x y. a.callers c y x }

  -- the stage and the callers of w are among those of v
  pub apart_less : (v w u : (View V E A)) → ((t : ℕ) → HasTicket w.stage t → HasTicket v.stage t) → ((c : ℕ) → StandsFor c w.mine → StandsFor c v.mine) → Apart v u → Apart w u
  apart_less v w u turn callers a = record { turns = λ t x y. a.turns t (turn t x) y; callers = λ c x y. a.callers c (callers c x) y }

  -- it has no slot
  abbrev Free : (View V E A) → Type 0
  Free v = (t : ℕ) → v.stage ≡ Holds t → ⊥

  -- a later ticket was drawn
  pub fits_later : (key : (Key V)) (places : List (Option (Entry E A))) (t t' : ℕ) (v : (View V E A)) → t ≤ t' → Fits key places t v → Fits key places t' v
  fits_later key places t t' v le f = record {
    opening = f.opening;
    seen = f.seen;
    left = f.left;
    right = f.right;
    mine = f.mine;
    inside = f.inside;
    turn = λ k h. let x = f.turn k h in (x.0, (let y = x.1 in omega arith), x.2);
    holds = f.holds;
  }

  abbrev in_hand : List (ℕ × (Option (Held V E A))) → (Option (Held V E A))
  in_hand [] = None
  in_hand (x ∷ xs) = x.1

  idle_turn : (key : (Key V)) (places : List (Option (Entry E A))) (ticket : ℕ) (v : (View V E A)) → v.stage ≡ Idle → (t : ℕ) → HasTicket v.stage t → (length places ≤ t) × (t < ticket) × ((c : ℕ) × StandsFor c v.mine)
  idle_turn key places ticket v e t h = absurd (subst (λ x. HasTicket x t) e h)

  blank_fits : (key : (Key V)) (places : List (Option (Entry E A))) (ticket : ℕ) → Fits key places ticket blank
  blank_fits key places ticket = record {
    opening = λ o e. absurd (cc);
    seen = begins_nil places;
    left = begins_nil [];
    right = begins_nil [];
    mine = (tt, tt);
    inside = λ c x. absurd x;
    turn = λ t x. absurd x;
    holds = λ t e. absurd (cc);
  }

  blank_apart : (u : (View V E A)) → Apart blank u
  blank_apart u = record { turns = λ t x y. x; callers = λ c x y. x }

module _ {V E A : Type 0} (after : V → E → A → V) (Answers : V → E → A → Type 0) where
  -- the rule after a step of the seat id, which has the view w then
  pub steps : (key : (Key V)) (s : State (Option (Held V E A)) (View V E A)) (r : Kept after Answers key s) (id : ℕ) (v w : (View V E A)) (places : List (Option (Entry E A))) (ticket : ℕ) (words : List ℕ) (homes : List (maybe.Option (Option (Held V E A))))
      → get_elem? s.views id ≡ some v → words ≡ ticket ∷ length places ∷ [] → ticket + w.budget ≡ r.ticket + v.budget
      → (ticket + length r.places) + tickets v.stage ≡ (r.ticket + length places) + tickets w.stage
      → Legal after Answers key.opening.value (filled places) → ((c : ℕ) → key.passes ≤ c → calls c (filled places) ≡ []) → Home after Answers key places homes (set s.views id w)
      → Fits key places ticket w → ((j : ℕ) (u : (View V E A)) → j ≢ id → get_elem? s.views j ≡ some u → Fits key places ticket u) → ((j : ℕ) (u : (View V E A)) → j ≢ id → get_elem? s.views j ≡ some u → Apart w u)
      → Kept after Answers key record { words = words; homes = homes; views = set s.views id w }
  steps key s r id v w places ticket words homes at as_words as_bound as_count legal others home mine each apart = record {
    places = places;
    ticket = ticket;
    words = as_words;
    few = r.few;
    bound = (let h = total_set (λ (x : (View V E A)). x.budget) s.views id v w at in let b = r.bound in omega (arith, h, b, as_bound));
    counted = (let h = total_set (λ (x : (View V E A)). tickets x.stage) s.views id v w at in let b = r.counted in omega (arith, h, b, as_count));
    legal = legal;
    others = others;
    home = home;
    each = each_set (Fits key places ticket) s.views id w mine each;
    apart = pairs_set Apart apart_turned s.views id w r.apart apart;
  }

  -- a step that changes nothing
  pub rests : (key : (Key V)) (s : State (Option (Held V E A)) (View V E A)) (i id : ℕ) (v : (View V E A)) → Kept after Answers key s → get_elem? s.views id ≡ some v → i < length s.words → Kept after Answers key record { words = set s.words i (get_or s.words i 0); homes = s.homes; views = set s.views id v }
  rests key s i id v r at inside = subst (λ (x : List ℕ × List (View V E A)). Kept after Answers key record { words = x.0; homes = s.homes; views = x.1 }) (λ k. (sym (set-get_or s.words i 0) k, sym (set_again s.views id v at) k)) r

  pub home_stays : (key : (Key V)) (places : List (Option (Entry E A))) (homes : List (maybe.Option (Option (Held V E A)))) (views : List (View V E A)) (id : ℕ) (v w : (View V E A)) → get_elem? views id ≡ some v → Free v → Free w
      → Home after Answers key places homes views → Home after Answers key places homes (set views id w)
  home_stays key places homes views id v w at free free' home =
      ⊎_elim
      (λ (h : (y : (Held V E A)) × (homes ≡ some (Some y) ∷ []) × IsValue after Answers key places y × ((i t : ℕ) (v : (View V E A)) → get_elem? views i ≡ some v → v.stage ≡ Holds t → ⊥)).
      inl (h.0, h.1, h.2, λ i t u e. each_set Free views id w free' (λ j x apart at_j t. h.3 j t x at_j) i u e t))
      (λ (h : (homes ≡ none ∷ []) × ((h : ℕ) × (v : (View V E A)) × (get_elem? views h ≡ some v) × (v.stage ≡ Holds (length places)))).
      inr (
        h.0,
        dite (ℕ_discrete h.1.0 id)
            (λ is. absurd (free (length places) (ap (λ (x : (View V E A)). x.stage) (some-injective v h.1.1 (sym at ∙ ap (get_elem? views) (sym is) ∙ h.1.2)) ∙ h.1.3)))
            (λ ne. (h.1.0, h.1.1, set_else views id h.1.0 w ne ∙ h.1.2, h.1.3)),
      ))
      home

  pub draws : (key : (Key V)) (slots id : ℕ) (v : (View V E A)) (c : List (ℕ × (Option (Held V E A)))) → v.stage ≡ Idle → 0 < v.budget → ((k : ℕ) × StandsFor k v.mine)
      → Allows (Kept after Answers key) slots id (v, c) 0 (λ n. (n + 1) % 2 ^ 64) (drawn (step slots 0 1 0 none) (v, c))
  draws key slots id v c idle some_left stands s r deep at small =
      let f = r.each id v at in
      let n : ℕ = get_or s.words 0 0 in
      let found : n ≡ r.ticket = ap (λ ws. get_or ws 0 0) r.words in
      let b = r.bound in
      let few = r.few in
      let low : r.ticket + 1 < 2 ^ 64 = omega (arith, b, few) in
      let next : (n + 1) % 2 ^ 64 ≡ r.ticket + 1 = ap (λ k. (k + 1) % 2 ^ 64) found ∙ mod-eq_of_lt low in
      let w : (View V E A) = record v { budget = v.budget - 1; stage = Waits n } in
      let tick : (t : ℕ) → HasTicket v.stage t → ⊥ = λ t h. subst (λ x. HasTicket x t) idle h in
      let none_out : tickets v.stage ≡ 0 = ap tickets idle in
      let cnt = r.counted in (
        w,
        keeps,
        tt,
        steps key s r id v w r.places (r.ticket + 1) (set s.words 0 ((n + 1) % 2 ^ 64)) s.homes at
            (ap (λ ws. set ws 0 ((n + 1) % 2 ^ 64)) r.words ∙ ap (λ k. k ∷ length r.places ∷ []) next)
            (omega arith) (omega arith) r.legal r.others
            (home_stays key r.places s.homes s.views id v w at (λ t e. tick t (has_holds v.stage t e)) (λ t e. absurd (cc)) r.home)
            record {
              opening = f.opening;
              seen = f.seen;
              left = f.left;
              right = f.right;
              mine = f.mine;
              inside = f.inside;
              turn = λ t h. (omega (arith, h, found, cnt), omega (arith, h, found), stands);
              holds = λ t e. absurd (cc);
            }
            (λ j u apart at_j. fits_later key r.places r.ticket (r.ticket + 1) u (omega arith) (r.each j u at_j))
            (λ j u apart at_j. record {
              turns = λ t x y. let z = ((r.each j u at_j).turn t y).1 in omega (arith, x, found, z);
              callers = (r.apart id j v u (λ e. apart (sym e)) at at_j).callers;
            }),
        refl,
      )

  abbrev Tells : (View V E A) → ℕ → Me (Option (Held V E A)) (View V E A) → ℕ → Type 0
  Tells v n m' t = let m : Me (Option (Held V E A)) (View V E A) = (v, []) in (n ≡ t → Taken after Answers v t m') × (n ≢ t → m' ≡ m)

  -- the seat takes the slot in its own turn
  takes_it : (key : (Key V)) (id : ℕ) (v : (View V E A)) (t : ℕ) → v.stage ≡ Waits t → (s : State (Option (Held V E A)) (View V E A)) (r : Kept after Answers key s) → get_elem? s.views id ≡ some v → get_or s.words 1 0 ≡ t
      → (y : (Held V E A)) → s.homes ≡ some (Some y) ∷ [] → IsValue after Answers key r.places y
      → (w : (View V E A)) × (a : Act (Option (Held V E A))) × Rattle.atomic_table.specs.Table.Valid s.homes [] a × Kept after Answers key (stepped s 1 (get_or s.words 1 0) id [] w a) × watched after Answers (step 1 1 0 0 none) (v, []) (get_or s.words 1 0) (w, Rattle.atomic_table.specs.Table.carried_after [] a)
  takes_it key id v t waits s r at turn y home is_value =
      let f = r.each id v at in
      let now : length r.places ≡ t = sym (ap (λ ws. get_or ws 1 0) r.words) ∙ turn in
      let w : (View V E A) = record v { places = r.places; left = []; right = []; stage = Holds t } in
      let out : tickets v.stage ≡ 1 = ap tickets waits in
      let tick = f.turn t (has_waits v.stage t waits) in (
        w,
        takes 0 (Some y),
        ap (λ h. get_elem? h 0) home,
        steps key s r id v w r.places r.ticket (set s.words 1 (get_or s.words 1 0)) (set s.homes 0 none) at
            (set-get_or s.words 1 0 ∙ r.words) refl (omega arith) r.legal r.others
            (inr (ap (λ h. set h 0 none) home, (id, w, set_here s.views id w (at_bound s.views id v at), ap Holds (sym now))))
            record {
              opening = f.opening;
              seen = begins_same r.places;
              left = begins_nil r.places;
              right = begins_nil r.places;
              mine = (f.mine.1, f.mine.1);
              inside = f.inside;
              turn = λ k h. subst (λ x. (length r.places ≤ x) × (x < r.ticket) × ((c : ℕ) × StandsFor c v.mine)) h tick;
              holds = λ k e. let same : t ≡ k = cc in (sym same ∙ sym now, refl);
            }
            (λ j u apart at_j. r.each j u at_j)
            (λ j u apart at_j. apart_less v w u (λ k h. subst (HasTicket v.stage) h (has_waits v.stage t waits)) (λ c h. h) (r.apart id j v u (λ e. apart (sym e)) at at_j)),
        λ k e. let same : t ≡ k = cc in subst (λ x. Tells v (get_or s.words 1 0) (w, (0, Some y) ∷ []) x) same
            ((λ _. (r.places, y, refl, f.seen, is_value.0, (λ o is. let eq = f.opening o is in (is_value.1 ∙ ap (λ x. value_after after x (filled r.places)) (sym eq), subst (λ x. Legal after Answers x (filled r.places)) (sym eq) r.legal)), f.mine.1)), (λ ne. absurd (ne turn))),
      )

  pub watches : (key : (Key V)) (id : ℕ) (v : (View V E A)) (t : ℕ) → v.stage ≡ Waits t → Allows (Kept after Answers key) 1 id (v, []) 1 (λ n. n) (watched after Answers (step 1 1 0 0 none) (v, []))
  watches key id v t waits s r deep at small =
      dite (ℕ_discrete (get_or s.words 1 0) t)
      (λ turn.
      ⊎_elim
      (λ (h : (y : (Held V E A)) × (s.homes ≡ some (Some y) ∷ []) × IsValue after Answers key r.places y × ((i t : ℕ) (v : (View V E A)) → get_elem? s.views i ≡ some v → v.stage ≡ Holds t → ⊥)). takes_it key id v t waits s r at turn h.0 h.1 h.2)
      (λ (h : (s.homes ≡ none ∷ []) × ((h : ℕ) × (v : (View V E A)) × (get_elem? s.views h ≡ some v) × (v.stage ≡ Holds (length r.places)))).
      let now : length r.places ≡ t = sym (ap (λ ws. get_or ws 1 0) r.words) ∙ turn in
      absurd
      (dite (ℕ_discrete h.1.0 id)
      (λ is. let same : h.1.1.stage ≡ v.stage = ap (λ (x : (View V E A)). x.stage) (some-injective h.1.1 v (sym h.1.2 ∙ ap (get_elem? s.views) is ∙ at)) in let bad : Waits t ≡ Holds (length r.places) = sym waits ∙ sym same ∙ h.1.3 in cc)
      (λ ne. (r.apart h.1.0 id h.1.1 v ne h.1.2 at).turns t (subst (HasTicket h.1.1.stage) now (has_holds h.1.1.stage (length r.places) h.1.3)) (has_waits v.stage t waits))))
      r.home)
      (λ ne. (v, keeps, tt, rests key s 1 id v r at (let h = ap length r.words in omega arith), λ k e. let same : t ≡ k = cc in ((λ is. absurd (ne (is ∙ sym same))), (λ _. refl))))

  pub looks : (key : (Key V)) (slots id : ℕ) (v : (View V E A)) (c : List (ℕ × (Option (Held V E A)))) → Allows (Kept after Answers key) slots id (v, c) 0 (λ n. n) (looked after Answers (step slots 0 0 0 none) (v, c))
  looks key slots id v c s r deep at small =
      let f = r.each id v at in
      (v, keeps, tt, rests key s 0 id v r at (let h = ap length r.words in omega arith), (refl, f.left, f.right, f.mine.0, λ o e. legal_begins after Answers o v.places r.places f.seen (subst (λ x. Legal after Answers x (filled r.places)) (sym (f.opening o e)) r.legal)))

  -- others know no less when a place was added in another's turn
  pub fits_more : (key : (Key V)) (ps : List (Option (Entry E A))) (place : Option (Entry E A)) (ticket : ℕ) (o : V) (v u : (View V E A)) → Good after Answers o (filled ps) v.mine place → Apart v u → HasTicket v.stage (length ps)
      → Fits key ps ticket u → Fits key (ps ++ place ∷ []) ticket u
  fits_more key ps place ticket o v u good apart now f =
      let late : (t : ℕ) → HasTicket u.stage t → t ≢ length ps = λ t h is. apart.turns (length ps) now (subst (HasTicket u.stage) is h) in
      record {
        opening = f.opening;
        seen = begins_more u.places ps (place ∷ []) f.seen;
        left = f.left;
        right = f.right;
        mine = (f.mine.0, place_told after Answers o v.mine u.mine ps place good apart.callers f.mine.1);
        inside = f.inside;
        turn = λ t h. let x = f.turn t h in let a = x.0 in let ne = late t h in ((let l = length-append ps (place ∷ []) in omega (arith, a, ne, l)), x.1, x.2);
        holds = λ t e. absurd (late t (has_holds u.stage t e) (f.holds t e).0);
      }

  pub raises : (key : (Key V)) (id : ℕ) (v : (View V E A)) (t : ℕ) (o : V) (y : (Held V E A)) (place : Option (Entry E A)) → v.stage ≡ Holds t → v.opening ≡ Some o
      → y.history.items ≡ filled (v.places ++ place ∷ []) → y.value ≡ value_after after o (filled (v.places ++ place ∷ [])) → Good after Answers o (filled v.places) v.mine place
      → Allows (Kept after Answers key) 1 id (v, (0, Some y) ∷ []) 1 (λ n. (n + 1) % 2 ^ 64) (raised (step 1 1 1 0 none) (v, (0, Some y) ∷ []))
  raises key id v t o y place holding opens history value good s r deep at small =
      let f = r.each id v at in
      let h = f.holds t holding in
      let has : HasTicket v.stage t = has_holds v.stage t holding in
      let n : ℕ = get_or s.words 1 0 in
      let count : n ≡ length r.places = ap (λ ws. get_or ws 1 0) r.words in
      let longer_by : length (v.places ++ place ∷ []) ≡ length r.places + 1 = length-append v.places (place ∷ []) ∙ ap (λ (l : List (Option (Entry E A))). length l + 1) h.1 in
      let ps : List (Option (Entry E A)) = v.places ++ place ∷ [] in
      let same : r.places ≡ v.places = sym h.1 in
      let b = r.bound in
      let few = r.few in
      let tick = f.turn t has in
      let below : t < r.ticket = tick.1 in
      let is_now : t ≡ length r.places = h.0 in
      let next : (n + 1) % 2 ^ 64 ≡ length ps = mod-eq_of_lt (omega (arith, count, below, is_now, b, few)) ∙ omega (arith, count, longer_by) in
      let eq : o ≡ key.opening.value = f.opening o opens in
      let good_key : Good after Answers key.opening.value (filled v.places) v.mine place = subst (λ x. Good after Answers x (filled v.places) v.mine place) eq good in
      let w : (View V E A) = record v { places = ps; left = []; right = []; mine = recount y.history.items v.mine; stage = Idle } in
      let out : tickets v.stage ≡ 1 = ap tickets holding in
      let has_now : HasTicket v.stage (length v.places) = subst (HasTicket v.stage) (h.0 ∙ ap (λ (l : List (Option (Entry E A))). length l) same) has in
      let told : Told (filled ps) (recount y.history.items v.mine) = subst (λ x. Told x (recount y.history.items v.mine)) history (told_recount y.history.items v.mine) in
      let put : set s.homes 0 (some (Some y)) ≡ some (Some y) ∷ [] =
      ⊎_elim (λ (x : (y : (Held V E A)) × (s.homes ≡ some (Some y) ∷ []) × IsValue after Answers key r.places y × ((i t : ℕ) (v : (View V E A)) → get_elem? s.views i ≡ some v → v.stage ≡ Holds t → ⊥)). ap (λ hs. set hs 0 (some (Some y))) x.1)
      (λ (x : (s.homes ≡ none ∷ []) × ((h : ℕ) × (v : (View V E A)) × (get_elem? s.views h ≡ some v) × (v.stage ≡ Holds (length r.places)))). ap (λ hs. set hs 0 (some (Some y))) x.0) r.home in
      let all_free : (j : ℕ) (u : (View V E A)) → j ≢ id → get_elem? s.views j ≡ some u → Free u =
      λ j u apart at_j k e. (r.apart id j v u (λ x. apart (sym x)) at at_j).turns t has (subst (HasTicket u.stage) (((r.each j u at_j).holds k e).0 ∙ sym h.0) (has_holds u.stage k e)) in (
        w,
        gives,
        tt,
        steps key s r id v w ps r.ticket (set s.words 1 ((n + 1) % 2 ^ 64)) (set s.homes 0 (some (Some y))) at
            (ap (λ ws. set ws 1 ((n + 1) % 2 ^ 64)) r.words ∙ ap (λ k. r.ticket ∷ k ∷ []) next) refl
            (omega (arith, out, longer_by))
            (place_legal after Answers key.opening.value v.mine v.places place good_key (subst (λ l. Legal after Answers key.opening.value (filled l)) same r.legal))
            (place_others after Answers key.opening.value v.mine key.passes v.places place good_key f.inside (subst (λ l. (c : ℕ) → key.passes ≤ c → calls c (filled l) ≡ []) same r.others))
            (inl (y, put, (history, value ∙ ap (λ x. value_after after x (filled ps)) eq), λ i k u e. each_set Free s.views id w (λ t e. absurd (cc)) all_free i u e k))
            record {
              opening = f.opening;
              seen = begins_same ps;
              left = begins_nil ps;
              right = begins_nil ps;
              mine = (told, told);
              inside = λ c x. f.inside c (recount_stands c y.history.items v.mine x);
              turn = λ k x. absurd x;
              holds = λ k e. absurd (cc);
            }
            (λ j u apart at_j. fits_more key v.places place r.ticket key.opening.value v u good_key (r.apart id j v u (λ e. apart (sym e)) at at_j) has_now (subst (λ l. Fits key l r.ticket u) same (r.each j u at_j)))
            (λ j u apart at_j. apart_less v w u (λ k x. absurd x) (λ c x. recount_stands c y.history.items v.mine x) (r.apart id j v u (λ e. apart (sym e)) at at_j)),
        λ z e. let one : Some y ≡ Some z = ap in_hand e in let is : y ≡ z = cc in (place, (λ i. (record v { places = ps; left = []; right = []; mine = recount (is i).history.items v.mine; stage = Idle }, [])), sym (ap (λ (x : (Held V E A)). x.history.items) is) ∙ history),
      )

  home_snoc : (key : (Key V)) (places : List (Option (Entry E A))) (homes : List (maybe.Option (Option (Held V E A)))) (views : List (View V E A)) (w : (View V E A)) → Free w → Home after Answers key places homes views → Home after Answers key places homes (views ++ w ∷ [])
  home_snoc key places homes views w free home =
      ⊎_elim
      (λ (h : (y : (Held V E A)) × (homes ≡ some (Some y) ∷ []) × IsValue after Answers key places y × ((i t : ℕ) (v : (View V E A)) → get_elem? views i ≡ some v → v.stage ≡ Holds t → ⊥)).
      inl (h.0, h.1, h.2, λ i t u e. each_snoc Free views w free (λ j x at_j t. h.3 j t x at_j) i u e t))
      (λ (h : (homes ≡ none ∷ []) × ((h : ℕ) × (v : (View V E A)) × (get_elem? views h ≡ some v) × (v.stage ≡ Holds (length places)))).
      inr (h.0, (h.1.0, h.1.1, at_longer views (w ∷ []) h.1.0 h.1.1 h.1.2, h.1.3)))
      home

  -- a seat that has no ticket is cut in two
  pub splits : (key : (Key V)) (s : State (Option (Held V E A)) (View V E A)) (r : Kept after Answers key s) (id : ℕ) (v left right : (View V E A)) → get_elem? s.views id ≡ some v → v.stage ≡ Idle → left.stage ≡ Idle → right.stage ≡ Idle → left.budget + right.budget ≡ v.budget
      → Fits key r.places r.ticket left → Fits key r.places r.ticket right → ((c : ℕ) → StandsFor c left.mine → StandsFor c v.mine) → ((c : ℕ) → StandsFor c right.mine → StandsFor c v.mine)
      → ((c : ℕ) → StandsFor c left.mine → StandsFor c right.mine → ⊥) → Kept after Answers key record { words = s.words; homes = s.homes; views = set s.views id left ++ right ∷ [] }
  splits key s r id v left right at idle idle_l idle_r budget fits_l fits_r sub_l sub_r disjoint =
      let no_tick : (w : (View V E A)) → w.stage ≡ Idle → (t : ℕ) → HasTicket w.stage t → ⊥ = λ w e t h. subst (λ x. HasTicket x t) e h in
      let free : (w : (View V E A)) → w.stage ≡ Idle → Free w = λ w e t h. let bad : Idle ≡ Holds t = sym e ∙ h in cc in
      let ml : List (View V E A) = set s.views id left in
      let apart_r : (j : ℕ) (u : (View V E A)) → get_elem? ml j ≡ some u → Apart right u =
      each_set (Apart right) s.views id left (record { turns = λ t x y. no_tick right idle_r t x; callers = λ c x y. disjoint c y x })
      (λ j u apart at_j. apart_less v right u (λ t x. absurd (no_tick right idle_r t x)) sub_r (r.apart id j v u (λ e. apart (sym e)) at at_j)) in
      let t0 = ap tickets idle in let t1 = ap tickets idle_l in let t2 = ap tickets idle_r in
      record {
        places = r.places;
        ticket = r.ticket;
        words = r.words;
        few = r.few;
        bound = (let a = total_set (λ (x : (View V E A)). x.budget) s.views id v left at in let b = total_snoc (λ (x : (View V E A)). x.budget) ml right in let c = r.bound in omega (arith, a, b, c, budget));
        counted = (let a = total_set (λ (x : (View V E A)). tickets x.stage) s.views id v left at in let b = total_snoc (λ (x : (View V E A)). tickets x.stage) ml right in let c = r.counted in omega (arith, a, b, c, t0, t1, t2));
        legal = r.legal;
        others = r.others;
        home = home_snoc key r.places s.homes ml right (free right idle_r) (home_stays key r.places s.homes s.views id v left at (free v idle) (free left idle_l) r.home);
        each = each_snoc (Fits key r.places r.ticket) ml right fits_r (each_set (Fits key r.places r.ticket) s.views id left fits_l (λ j u apart at_j. r.each j u at_j));
        apart = pairs_snoc Apart apart_turned ml right
            (pairs_set Apart apart_turned s.views id left r.apart (λ j u apart at_j. apart_less v left u (λ t x. absurd (no_tick left idle_l t x)) sub_l (r.apart id j v u (λ e. apart (sym e)) at at_j)))
            apart_r;
      }

  pub notes : (key : (Key V)) (id : ℕ) (v : (View V E A)) → v.stage ≡ Idle → Splits (Kept after Answers key) id v v (note_of v)
  notes key id v idle s r at =
      let f = r.each id v at in
      splits key s r id v v (note_of v) at idle idle refl (omega arith) f
      record {
        opening = λ o e. absurd (cc);
        seen = f.seen;
        left = begins_nil v.places;
        right = begins_nil v.places;
        mine = (tt, tt);
        inside = λ c x. absurd x;
        turn = λ t x. absurd x;
        holds = λ t e. absurd (cc);
      }
      (λ c x. x) (λ c x. absurd x) (λ c x y. y)

  -- the callers of v begin with c, of which the new seat is
  pub deals : (key : (Key V)) (id : ℕ) (v : (View V E A)) (c n : ℕ) → v.stage ≡ Idle → v.mine ≡ callers c (suc n) → 4294967296 ≤ v.budget → Splits (Kept after Answers key) id v (rest_dealt v) (one_dealt v)
  deals key id v c n idle mine budget s r at =
      let f = r.each id v at in
      let tail : tail_of v.mine ≡ callers (suc c) n = ap tail_of mine in
      let head : head_of v.mine ≡ (c, []) ∷ [] = ap head_of mine in
      let told_tail : (h : List (Entry E A)) → Told h v.mine → Told h (tail_of v.mine) = λ h t. subst (Told h) (sym tail) (subst (Told h) mine t).1 in
      let told_head : (h : List (Entry E A)) → Told h v.mine → Told h (head_of v.mine) = λ h t. subst (Told h) (sym head) ((subst (Told h) mine t).0, tt) in
      let sub_l : (k : ℕ) → StandsFor k (tail_of v.mine) → StandsFor k v.mine = λ k x. subst (StandsFor k) (sym mine) (inr (subst (StandsFor k) tail x)) in
      let is_head : (k : ℕ) → StandsFor k (head_of v.mine) → c ≡ k = λ k x. ⊎_elim (λ e. e) (λ z. absurd z) (subst (StandsFor k) head x) in
      let sub_r : (k : ℕ) → StandsFor k (head_of v.mine) → StandsFor k v.mine = λ k x. subst (StandsFor k) (sym mine) (inl (is_head k x)) in
      splits key s r id v (rest_dealt v) (one_dealt v) at idle idle refl (omega arith)
      record {
        opening = f.opening;
        seen = f.seen;
        left = f.left;
        right = f.right;
        mine = (told_tail (filled v.places) f.mine.0, told_tail (filled r.places) f.mine.1);
        inside = λ k x. f.inside k (sub_l k x);
        turn = λ t x. absurd (subst (λ z. HasTicket z t) idle x);
        holds = λ t e. let bad : Idle ≡ Holds t = sym idle ∙ e in absurd (cc);
      }
      record {
        opening = f.opening;
        seen = f.seen;
        left = begins_nil v.places;
        right = begins_nil v.places;
        mine = (told_head (filled v.places) f.mine.0, told_head (filled r.places) f.mine.1);
        inside = λ k x. f.inside k (sub_r k x);
        turn = λ t x. absurd x;
        holds = λ t e. absurd (cc);
      }
      sub_l sub_r
      (λ k x y. let low = (stands_callers E k (suc c) n (subst (StandsFor k) tail x)).0 in let is = is_head k y in omega (arith, low, is))

  -- a seat that has no ticket takes in another that has none
  pub joins : (key : (Key V)) (id other : ℕ) (v w : (View V E A)) → v.stage ≡ Idle → w.stage ≡ Idle → Joins (Kept after Answers key) id v other w (met v w) blank
  joins key id other v w idle idle_w s r at differ at_other =
      let both : (View V E A) = met v w in
      let at_w : get_elem? s.views other ≡ some w = sym (set_else s.views id other both differ) ∙ at_other in
      let cleared : List (View V E A) = set s.views other blank in
      let at_v : get_elem? cleared id ≡ some v = set_else s.views other id blank (λ e. differ (sym e)) ∙ at in
      let no_tick : (x : (View V E A)) → x.stage ≡ Idle → (t : ℕ) → HasTicket x.stage t → ⊥ = λ x e t h. subst (λ z. HasTicket z t) e h in
      let free : (x : (View V E A)) → x.stage ≡ Idle → Free x = λ x e t h. let bad : Idle ≡ Holds t = sym e ∙ h in cc in
      let fv = r.each id v at in
      let fw = r.each other w at_w in
      let ends = begins_longer v.places w.places r.places fv.seen fw.seen in
      let lng : List (Option (Entry E A)) = longer v.places w.places in
      let told_v : Told (filled lng) v.mine = told_between (filled v.places) (filled lng) (filled r.places) v.mine (filled_begins v.places lng ends.0) (filled_begins lng r.places ends.2) fv.mine.0 fv.mine.1 in
      let told_w : Told (filled lng) w.mine = told_between (filled w.places) (filled lng) (filled r.places) w.mine (filled_begins w.places lng ends.1) (filled_begins lng r.places ends.2) fw.mine.0 fw.mine.1 in
      let t0 = ap tickets idle in
      let t1 = ap tickets idle_w in
      subst (λ (vs : List (View V E A)). Kept after Answers key record { words = s.words; homes = s.homes; views = vs }) (set_swap s.views other id blank both differ)
      record {
        places = r.places;
        ticket = r.ticket;
        words = r.words;
        few = r.few;
        bound = (let a = total_set (λ (x : (View V E A)). x.budget) s.views other w blank at_w in let b = total_set (λ (x : (View V E A)). x.budget) cleared id v both at_v in let c = r.bound in omega (arith, a, b, c));
        counted = (let a = total_set (λ (x : (View V E A)). tickets x.stage) s.views other w blank at_w in let b = total_set (λ (x : (View V E A)). tickets x.stage) cleared id v both at_v in let c = r.counted in omega (arith, a, b, c, t0, t1));
        legal = r.legal;
        others = r.others;
        home = home_stays key r.places s.homes cleared id v both at_v (free v idle) (free both idle) (home_stays key r.places s.homes s.views other w blank at_w (free w idle_w) (free blank refl) r.home);
        each = each_set (Fits key r.places r.ticket) cleared id both
            record {
              opening = fv.opening;
              seen = ends.2;
              left = ends.0;
              right = ends.1;
              mine = (told_append (filled lng) v.mine w.mine told_v told_w, told_append (filled r.places) v.mine w.mine fv.mine.1 fw.mine.1);
              inside = λ c x. ⊎_elim (fv.inside c) (fw.inside c) (stands_append c v.mine w.mine x);
              turn = idle_turn key r.places r.ticket both idle;
              holds = λ t e. absurd (free both idle t e);
            }
            (λ j u apart at_j. each_set (Fits key r.places r.ticket) s.views other blank (blank_fits key r.places r.ticket) (λ j u apart at_j. r.each j u at_j) j u at_j);
        apart = pairs_set Apart apart_turned cleared id both
            (pairs_set Apart apart_turned s.views other blank r.apart (λ j u apart at_j. blank_apart u))
            (λ j u apart at_j.
            dite (ℕ_discrete j other)
            (λ is. let here : blank ≡ u = some-injective blank u (sym (set_here s.views other blank (at_bound s.views other w at_w)) ∙ ap (get_elem? cleared) (sym is) ∙ at_j) in subst (Apart both) here (apart_turned blank both (blank_apart both)))
            (λ ne. let at_u : get_elem? s.views j ≡ some u = sym (set_else s.views other j blank ne) ∙ at_j in record {
              turns = λ t x y. no_tick both idle t x;
              callers = λ c x y. ⊎_elim (λ z. (r.apart id j v u (λ e. apart (sym e)) at at_u).callers c z y) (λ z. (r.apart other j w u (λ e. ne (sym e)) at_w at_u).callers c z y) (stands_append c v.mine w.mine x);
            }));
      }

  -- the table at the start
  pub begins : (key : (Key V)) (y : (Held V E A)) → y.value ≡ key.opening.value → y.history.items ≡ [] → key.passes ≤ 8 → Kept after Answers key (opening (0 ∷ 0 ∷ []) (Some y ∷ []) (first_view key))
  begins key y value history few = record {
    places = [];
    ticket = 0;
    words = refl;
    few = few;
    bound = omega arith;
    counted = omega arith;
    legal = tt;
    others = λ c le. refl;
    home = inl (y, refl, (history, value), one_free);
    each = one_fits;
    apart = one_apart;
  }
    where
      one_free : (i t : ℕ) (v : (View V E A)) → get_elem? (first_view key ∷ []) i ≡ some v → v.stage ≡ Holds t → ⊥
      one_free zero t v e h = let is : Idle ≡ Holds t = ap (λ (x : (View V E A)). x.stage) (some-injective (first_view key) v e) ∙ h in cc
      one_free (suc i) t v e h = some-ne-none v (sym e)

      one_fits : (i : ℕ) (v : (View V E A)) → get_elem? (first_view key ∷ []) i ≡ some v → Fits key [] 0 v
      one_fits zero v e = subst (Fits key [] 0) (some-injective (first_view key) v e) record {
        opening = λ o e. let is : key.opening.value ≡ o = cc in sym is;
        seen = begins_nil [];
        left = begins_nil [];
        right = begins_nil [];
        mine = (told_callers E A 0 key.passes, told_callers E A 0 key.passes);
        inside = λ c x. let h = (stands_callers E c 0 key.passes x).1 in omega arith;
        turn = λ t x. absurd x;
        holds = λ t e. absurd (cc);
      }
      one_fits (suc i) v e = absurd (some-ne-none v (sym e))

      one_apart : (i j : ℕ) (v w : (View V E A)) → i ≢ j → get_elem? (first_view key ∷ []) i ≡ some v → get_elem? (first_view key ∷ []) j ≡ some w → Apart v w
      one_apart zero zero v w ne e f = absurd (ne refl)
      one_apart zero (suc j) v w ne e f = absurd (some-ne-none w (sym f))
      one_apart (suc i) j v w ne e f = absurd (some-ne-none v (sym e))

  -- when every caller is in one seat that has no ticket, the slot is home
  pub closes : (key : (Key V)) (id : ℕ) (v : (View V E A)) (ws : List ℕ) (xs : List (Option (Held V E A))) → v.stage ≡ Idle → ((c : ℕ) → c < key.passes → StandsFor c v.mine) → Final (Seen (Kept after Answers key) id v) ws xs
      → (y : (Held V E A)) × (get_elem? xs 0 ≡ some (Some y)) × Left after Answers key v y
  closes key id v ws xs idle all last =
      let s = last.0 in
      let r = last.1.0 in
      let at = last.1.1 in
      let f = r.each id v at in
      ⊎_elim
      (λ (h : (y : (Held V E A)) × (s.homes ≡ some (Some y) ∷ []) × IsValue after Answers key r.places y × ((i t : ℕ) (v : (View V E A)) → get_elem? s.views i ≡ some v → v.stage ≡ Holds t → ⊥)).
      (h.0, last.4 0 (Some h.0) (ap (λ x. get_elem? x 0) h.1), record { places = r.places; history = h.2.0; value = h.2.1; legal = r.legal; seen = f.seen; told = f.mine.1; others = r.others }))
      (λ (h : (s.homes ≡ none ∷ []) × ((h : ℕ) × (v : (View V E A)) × (get_elem? s.views h ≡ some v) × (v.stage ≡ Holds (length r.places)))).
      let k = h.1.0 in
      let u = h.1.1 in
      let fu = r.each k u h.1.2 in
      let c = (fu.turn (length r.places) (has_holds u.stage (length r.places) h.1.3)).2 in
      absurd
      (dite (ℕ_discrete k id)
      (λ is. let same : u.stage ≡ v.stage = ap (λ (x : (View V E A)). x.stage) (some-injective u v (sym h.1.2 ∙ ap (get_elem? s.views) is ∙ at)) in let bad : Idle ≡ Holds (length r.places) = sym idle ∙ sym same ∙ h.1.3 in cc)
      (λ ne. (r.apart k id u v ne h.1.2 at).callers c.0 c.1 (all c.0 (fu.inside c.0 c.1)))))
      r.home

  abbrev pub Watching : (Key V) → ℕ → ℕ → Me (Option (Held V E A)) (View V E A) → Type 0
  Watching key slots id me = Allows (Kept after Answers key) slots id me 1 (λ n. n) (watched after Answers (step slots 1 0 0 none) me)

  -- the same at a seat as calls have it
  pub watches_at : (key : (Key V)) (slots id : ℕ) (me : Me (Option (Held V E A)) (View V E A)) (t : ℕ) → slots ≡ 1 → me.0.stage ≡ Waits t → me.1 ≡ [] → Watching key slots id me
  watches_at key slots id me t one waits empty = subst (λ (x : ℕ × List (ℕ × (Option (Held V E A)))). Watching key x.0 id (me.0, x.1)) (λ i. (sym one i, sym empty i)) (watches key id me.0 t waits)

  abbrev pub Raising : (Key V) → ℕ → ℕ → Me (Option (Held V E A)) (View V E A) → Type 0
  Raising key slots id me = Allows (Kept after Answers key) slots id me 1 (λ n. (n + 1) % 2 ^ 64) (raised (step slots 1 1 0 none) me)

  pub raises_at : (key : (Key V)) (slots id : ℕ) (me : Me (Option (Held V E A)) (View V E A)) (t : ℕ) (o : V) (y : (Held V E A)) (place : Option (Entry E A)) → slots ≡ 1 → me.1 ≡ (0, Some y) ∷ [] → me.0.stage ≡ Holds t → me.0.opening ≡ Some o
      → y.history.items ≡ filled (me.0.places ++ place ∷ []) → y.value ≡ value_after after o (filled (me.0.places ++ place ∷ [])) → Good after Answers o (filled me.0.places) me.0.mine place → Raising key slots id me
  raises_at key slots id me t o y place one carried holding opens history value good =
      subst (λ (x : ℕ × List (ℕ × (Option (Held V E A)))). Raising key x.0 id (me.0, x.1)) (λ i. (sym one i, sym carried i)) (raises key id me.0 t o y place holding opens history value good)

  abbrev pub Looking : (Key V) → ℕ → ℕ → Me (Option (Held V E A)) (View V E A) → Type 0
  Looking key slots id me = Allows (Kept after Answers key) slots id me 0 (λ n. n) (looked after Answers (step slots 0 0 0 none) me)

  pub looks_at : (key : (Key V)) (slots id : ℕ) (me : Me (Option (Held V E A)) (View V E A)) → Looking key slots id me
  looks_at key slots id me = looks key slots id me.0 me.1

  pub deals_at : (key : (Key V)) (id : ℕ) (v : (View V E A)) (c n : ℕ) → 0 < n → v.stage ≡ Idle → v.mine ≡ callers c n → v.budget ≡ n * 4294967296 → Splits (Kept after Answers key) id v (rest_dealt v) (one_dealt v)
  deals_at key id v c zero left idle mine budget = absurd (omega arith)
  deals_at key id v c (suc n) left idle mine budget = deals key id v c n idle mine (omega (arith, budget))

  pub begins_at : (key : (Key V)) (items : List (Option (Held V E A))) (y : (Held V E A)) → items ≡ Some y ∷ [] → y.value ≡ key.opening.value → y.history.items ≡ [] → key.passes ≤ 8 → Kept after Answers key (opening (0 ∷ 0 ∷ []) items (first_view key))
  begins_at key items y is value history few = subst (λ l. Kept after Answers key (opening (0 ∷ 0 ∷ []) l (first_view key))) (sym is) (begins key y value history few)

  pub finishes : (key : (Key V)) (id : ℕ) (v : (View V E A)) (ws : List ℕ) (xs : List (Option (Held V E A))) (r : Option (Held V E A)) → v.stage ≡ Idle → ((c : ℕ) → c < key.passes → StandsFor c v.mine)
      → Final (Seen (Kept after Answers key) id v) ws xs → get_elem? xs 0 ≡ some r → (y : (Held V E A)) × (r ≡ Some y) × Left after Answers key v y
  finishes key id v ws xs r idle all last at = let h = closes key id v ws xs idle all last in (h.0, some-injective r (Some h.0) (sym at ∙ h.1), h.2)

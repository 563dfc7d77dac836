-- The failures that the reports of a step set off, one report after another.
use Rattle.std.proofs.Common.{◌≡◌, ◌≤◌, ◌<◌, ◌+◌, ◌-◌, ℕ, zero, suc, Bool, true, false, Contains, IfSome, is_some, take, List, [], ◌∷◌, ◌++◌, MatchOption, Option, Some, None, length, refl, sym, ap, ◌∙◌, subst, arith, length-append}
use Rattle.std.proofs.lemmas.List.Elements.{Contains-append_left, Contains-append_right, Contains-push}
use Rattle.std.proofs.lemmas.List.{append_assoc}
use Rattle.simulate_parts.specs.Seats.{active_views}
use Rattle.simulate_parts.specs.Tracker.{tracker_of}
use Rattle.simulate_parts.specs.declared.engine.StateView.{StateView}
use Rattle.simulate_parts.specs.declared.tracker.FinalizationUpdate.{FinalizationUpdate}
use Rattle.ledger_simulate.specs.Meaning.{Meaning}
use Rattle.ledger_simulate.specs.Answering.{MetOn}
use Rattle.ledger_simulate.specs.Handling.{ChangesEnginesAlone, TriggersFailures, TriggersFailuresEach, count_setting_off}
use Rattle.ledger_simulate.specs.Plans.{target_count}
use Rattle.ledger_simulate.specs.Queue.{AgendaView}
use Rattle.ledger_simulate.specs.Reaching.{ExitIs, Finds}
use Rattle.ledger_simulate.specs.declared.reports.Reached.{Reached}
use Rattle.ledger_simulate.specs.declared.world.World.{World}
use Rattle.ledger_simulate.proofs.Changing.{changes_alone_none, changes_alone_then}

-- no more reports than there are set failures off
count_setting_off_within : (before done now : List FinalizationUpdate) (reached : Option Reached) → now ≡ before ++ done → IfSome reached (λ r. r.count ≤ length now) → count_setting_off before done reached ≤ length done
count_setting_off_within before done now None since within = omega arith
count_setting_off_within before done now (Some r) since within =
    let all : length now ≡ length before + length done = ap length since ∙ length-append before done in
    let inside : r.count ≤ length now = within in
    omega arith

-- a report that is left comes after fewer than there are
pub turn_within : (before done now left rest all : List FinalizationUpdate) (update : FinalizationUpdate) (reached : Option Reached) → now ≡ before ++ done → IfSome reached (λ r. r.count ≤ length now) → done ++ left ≡ all → left ≡ update ∷ rest → count_setting_off before done reached < length all
turn_within before done now left rest all update reached since within whole first =
    let upto : count_setting_off before done reached ≤ length done = count_setting_off_within before done now reached since within in
    let long : length all ≡ length done + length left = sym (ap length whole) ∙ length-append done left in
    let some : length left ≡ length rest + 1 = ap length first ∙ omega arith in
    omega arith

-- a report in its turn is one of them
pub in_turn : (all more rest : List FinalizationUpdate) (update : FinalizationUpdate) → all ≡ more ++ update ∷ rest → Contains all update
in_turn all more rest update is =
    subst (λ us. Contains us update) (sym is)
    (Contains-append_right more (update ∷ rest) update (Contains-append_left (update ∷ []) rest update (Contains-push [] update)))

-- the exit condition was met before this report, or as it was checked
pub met_step : (seen : List FinalizationUpdate → List StateView → Type 0) (before done now_reports new_reports : List FinalizationUpdate) (prior next : Option Reached) (update : FinalizationUpdate) (views : List StateView) → now_reports ≡ before ++ done → new_reports ≡ now_reports ++ update ∷ [] → (prior ≡ None → seen (done ++ update ∷ []) views) → IfSome prior (MetOn seen before) → IfSome next (λ r. MatchOption prior (r.count ≡ length new_reports) (λ q. r.count ≡ q.count)) → IfSome next (λ r. MatchOption prior (r.states.items ≡ views) (λ q. r.states.items ≡ q.states.items)) → IfSome next (MetOn seen before)
met_step seen before done now_reports new_reports prior None update views since grown here so_far counts states = tt
met_step seen before done now_reports new_reports None (Some r) update views since grown here so_far counts states =
    let all : length now_reports ≡ length before + length done = ap length since ∙ length-append before done in
    let long : length new_reports ≡ length now_reports + 1 = ap length grown ∙ length-append now_reports (update ∷ []) in
    let more : length (done ++ update ∷ []) ≡ length done + 1 = length-append done (update ∷ []) in
    let at : r.count ≡ length new_reports = counts in
    (done ++ update ∷ [], omega arith, subst (seen (done ++ update ∷ [])) (sym states) (here refl))
met_step seen before done now_reports new_reports (Some q) (Some r) update views since grown here so_far counts states =
    (so_far.0, counts ∙ so_far.1, subst (seen so_far.0) (sym states) so_far.2)

-- the first elements of a list, up to one of them
take_upto : (done rest : List FinalizationUpdate) (update : FinalizationUpdate) → take (suc (length done)) (done ++ update ∷ rest) ≡ done ++ update ∷ []
take_upto [] rest update = refl
take_upto (u ∷ us) rest update = ap (λ xs. u ∷ xs) (take_upto us rest update)

-- what was found at a report that is one of these
pub finds_on : {D E S F P C : Type 0} (m : Meaning D E S F P C) (now one before all done rest : List FinalizationUpdate) (update : FinalizationUpdate) (met : Bool) (w : World D E S) → now ≡ before ++ done → one ≡ update ∷ [] → all ≡ done ++ update ∷ rest → Finds m now one met w → Finds m before (take (suc (length done)) all) met w
finds_on m now one before all done rest update met w since once whole finds =
    let upto : done ++ one ≡ take (suc (length done)) all = ap (λ xs. done ++ xs) once ∙ sym (take_upto done rest update) ∙ sym (ap (take (suc (length done))) whole) in
    let same : now ++ one ≡ before ++ take (suc (length done)) all = ap (λ xs. xs ++ one) since ∙ append_assoc before done one ∙ ap (λ xs. before ++ xs) upto in
    record {
      sound = finds.sound;
      answers = subst (λ us. ExitIs m (target_count m.participants m.crashes w.exercise.delayed_started) (tracker_of us) (active_views m.height m.shown w.seats.entries) met) same finds.answers;
    }

module _ {D E S F P C : Type 0} (m : Meaning D E S F P C) where
  sets_off_change_alone : (P : World D E S → Type 0) (a b : AgendaView) (u v : World D E S) → TriggersFailures m P a b u v → ChangesEnginesAlone m.peer_of a b u v
  sets_off_change_alone P a b u v sets_off = changes_alone_then m.peer_of a sets_off.made b u sets_off.mid v sets_off.enters sets_off.changes_alone

  -- a report that set failures off, by a wider fact
  pub sets_off_on : (P Q : World D E S → Type 0) (a b : AgendaView) (u v : World D E S) (prior : Option Reached) → ((w : World D E S) → P w → Q w) → MatchOption prior (TriggersFailures m P a b u v) (λ q. (b ≡ a) × (v ≡ u)) → MatchOption prior (TriggersFailures m Q a b u v) (λ q. (b ≡ a) × (v ≡ u))
  sets_off_on P Q a b u v None wider sets_off = record {
    made = sets_off.made;
    mid = sets_off.mid;
    unpassed = sets_off.unpassed;
    enters = sets_off.enters;
    entered = sets_off.entered;
    held = wider sets_off.mid sets_off.held;
    changes_alone = sets_off.changes_alone;
    launched = sets_off.launched;
    launches = sets_off.launches;
    events = sets_off.events;
    tally = sets_off.tally;
  }
  sets_off_on P Q a b u v (Some q) wider same = same

module _ {D E S F P C : Type 0} (m : Meaning D E S F P C) (holds : List FinalizationUpdate → Bool → World D E S → Type 0) (all : List FinalizationUpdate) where
  -- what they do to the engines
  pub set_off_changes_alone : (met : Bool) (n : ℕ) (a b : AgendaView) (u v : World D E S) → TriggersFailuresEach m holds all met n a b u v → ChangesEnginesAlone m.peer_of a b u v
  set_off_changes_alone met zero a b u v set_off =
      subst (λ x. ChangesEnginesAlone m.peer_of a x u v) (sym set_off.0) (subst (λ (w : World D E S). ChangesEnginesAlone m.peer_of a a u w) (sym set_off.1) (changes_alone_none m.peer_of a u))
  set_off_changes_alone met (suc n) a b u v set_off =
      changes_alone_then m.peer_of a set_off.0 b u set_off.1 v (set_off_changes_alone false n a set_off.0 u set_off.1 set_off.2) (sets_off_change_alone m (holds (take (suc n) all) met) set_off.0 b set_off.1 v set_off.3)

  -- one report more
  pub set_off_step : (before done rest now_reports new_reports : List FinalizationUpdate) (prior next : Option Reached) (update : FinalizationUpdate) (a c b : AgendaView) (u w v : World D E S) → now_reports ≡ before ++ done → new_reports ≡ now_reports ++ update ∷ [] → TriggersFailuresEach m holds all (is_some prior) (count_setting_off before done prior) a c u w → (next ≡ None → prior ≡ None) → IfSome next (λ r. MatchOption prior (r.count ≡ length new_reports) (λ q. r.count ≡ q.count)) → MatchOption prior (TriggersFailures m (holds (take (suc (length done)) all) (is_some next)) c b w v) (λ q. (b ≡ c) × (v ≡ w)) → TriggersFailuresEach m holds all (is_some next) (count_setting_off before (done ++ update ∷ []) next) a b u v
  set_off_step before done rest now_reports new_reports None None update a c b u w v since grown set_off none met sets_off =
      let more : suc (length done) ≡ length (done ++ update ∷ []) = sym (length-append done (update ∷ []) ∙ omega arith) in
      subst (λ n. TriggersFailuresEach m holds all false n a b u v) more (c, w, set_off, sets_off)
  set_off_step before done rest now_reports new_reports None (Some r) update a c b u w v since grown set_off none met sets_off =
      let whole : length now_reports ≡ length before + length done = ap length since ∙ length-append before done in
      let long : length new_reports ≡ length now_reports + 1 = ap length grown ∙ length-append now_reports (update ∷ []) in
      let at : r.count ≡ length new_reports = met in
      let more : suc (length done) ≡ r.count - length before = omega arith in
      subst (λ n. TriggersFailuresEach m holds all true n a b u v) more (c, w, set_off, sets_off)
  set_off_step before done rest now_reports new_reports (Some q) None update a c b u w v since grown set_off none met sets_off = absurd (some_none (none refl))
    where
      some_none : Some q ≡ None → ⊥
      some_none e = cc
  set_off_step before done rest now_reports new_reports (Some q) (Some r) update a c b u w v since grown set_off none met sets_off =
      let same : r.count - length before ≡ q.count - length before = ap (λ n. n - length before) met in
      subst (λ n. TriggersFailuresEach m holds all true n a b u v) (sym same)
      (subst (λ x. TriggersFailuresEach m holds all true (q.count - length before) a x u v) (sym sets_off.0)
      (subst (λ (x : World D E S). TriggersFailuresEach m holds all true (q.count - length before) a c u x) (sym sets_off.1) set_off))

-- What checks answered, said of more.
use Rattle.std.proofs.Common.{◌≡◌, ◌<◌, ◌⊎◌, inl, inr, ◌++◌, ℕ, Bool, List, [], ◌∷◌, MatchOption, Option, Some, None, All, Contains, IfErr, IfSome, Result, Ok, Err, drop, length, get_or, refl, sym, ap, ◌∙◌, subst}
use Rattle.std.proofs.lemmas.List.{append_assoc, append-nil}
use Rattle.std.proofs.Math.Seq.{drop-append_seam}
use Rattle.std.proofs.lemmas.List.Elements.{All-contains, Contains-get_or}
use Rattle.simulate_parts.specs.Tracker.{observe_fault, tracker_of}
use Rattle.simulate_parts.specs.TrackerView.{TrackerView}
use Rattle.simulate_parts.specs.declared.engine.StateView.{StateView}
use Rattle.simulate_parts.specs.declared.tracker.FinalizationUpdate.{FinalizationUpdate}
use Rattle.simulate_parts.specs.declared.tracker.ObserveFault.{ObserveFault}
use Rattle.ledger_simulate.specs.Meaning.{Meaning}
use Rattle.ledger_simulate.specs.Answering.{Answered, Asked, Asks, Ends, EndsAt, Fails, IsComplaint, IsFailure, IsObjection, MetOn, Objects, ReportsThen, SeesAfter, SkipsAfter, StopAnswered}
use Rattle.ledger_simulate.specs.Causes.{IsSkip}
use Rattle.ledger_simulate.specs.Delays.{started_by, started_where}
use Rattle.ledger_simulate.specs.declared.reports.Reached.{Reached}
use Rattle.ledger_simulate.specs.Handling.{Handles, is_poll, polls_first, told_by, told_first}
use Rattle.ledger_simulate.specs.Plans.{target_count}
use Rattle.ledger_simulate.specs.Queue.{AgendaView, QueueView, empty_agenda}
use Rattle.ledger_simulate.specs.Reaching.{IsReached}
use Rattle.ledger_simulate.specs.declared.event.Event.{Event}
use Rattle.ledger_simulate.specs.declared.world.World.{World}
use Rattle.ledger_simulate.specs.Stops.{IsExitFault, IsFinalizationFault, IsForkOf, IsPropertyFault}
use Rattle.ledger_simulate.proofs.Causing.{same_end}
use Rattle.ledger_simulate.specs.declared.fault.PlanFault.{PlanFault}
use Rattle.ledger_simulate.specs.declared.fault.PlanFault.TheVariants.{EventLimit, Exit, FinalizationProperty, Fork, Idle, NotExercised, Property, SkippedWindow, Timeout}
use Rattle.ledger_simulate.specs.Results.{EndedView}
use Rattle.ledger_simulate.specs.declared.simulation.SimEnd.{SimEnd}
use Rattle.ledger_simulate.specs.declared.simulation.SimEnd.TheVariants.{Fault as at_fault}
use Rattle.ledger_simulate.specs.declared.fault.Stop.{Stop}
use Rattle.ledger_simulate.specs.declared.fault.Stop.TheVariants.{Fault, OutOfMemory}

-- the check at a place of the list
pub complaint_at : {F : Type 0} (called : F → List ℕ) (complaint : F → List StateView → Option (List ℕ)) (checks : List F) (states : List StateView) (i : ℕ) (c : F) (s : Stop) → i < length checks → c ≡ get_or checks i c → IsFinalizationFault (called c) (complaint c states) s → IsComplaint called complaint checks states s
complaint_at called complaint checks states i c s within at (inl short) = inl short
complaint_at called complaint checks states i c s within at (inr found) = inr (
  called c,
  found.0,
  found.2,
  record { check = c; among = subst (Contains checks) (sym at) (Contains-get_or checks i c within); named = refl; says = found.1 },
)

-- the property at a place of the list
pub objection_at : {P : Type 0} (called : P → List ℕ) (complaint : P → TrackerView → List StateView → Option (List ℕ)) (properties : List P) (tracker : TrackerView) (states : List StateView) (i : ℕ) (c : P) (s : Stop) → i < length properties → c ≡ get_or properties i c → IsPropertyFault (called c) (complaint c tracker states) s → IsObjection called complaint properties tracker states s
objection_at called complaint properties tracker states i c s within at (inl short) = inl short
objection_at called complaint properties tracker states i c s within at (inr found) = inr (
  called c,
  found.0,
  found.2,
  record { property = c; among = subst (Contains properties) (sym at) (Contains-get_or properties i c within); named = refl; says = found.1 },
)

-- the condition that is set
pub failure_of : {C : Type 0} (called : C → List ℕ) (verdict : C → TrackerView → List StateView → ℕ → Result Bool (List ℕ)) (condition : Option C) (tracker : TrackerView) (states : List StateView) (target : ℕ) (c : C) (s : Stop) → condition ≡ Some c → IsExitFault (called c) (verdict c tracker states target) s → IsFailure called verdict condition tracker states target s
failure_of called verdict condition tracker states target c s set (inl short) = inl short
failure_of called verdict condition tracker states target c s set (inr found) = inr (called c, found.0, found.2, record { asked = c; set = set; named = refl; says = found.1 })

-- complaints on equal values
pub complaint_on : {F : Type 0} (called : F → List ℕ) (complaint : F → List StateView → Option (List ℕ)) (xs ys : List F) (vs ws : List StateView) (s : Stop) → xs ≡ ys → vs ≡ ws → IsComplaint called complaint xs vs s → IsComplaint called complaint ys ws s
complaint_on called complaint xs ys vs ws s lists states found = subst (λ zs. IsComplaint called complaint zs ws s) lists (subst (λ us. IsComplaint called complaint xs us s) states found)

-- failures on equal values
pub failure_on : {C : Type 0} (called : C → List ℕ) (verdict : C → TrackerView → List StateView → ℕ → Result Bool (List ℕ)) (condition : Option C) (t u : TrackerView) (vs ws : List StateView) (m n : ℕ) (s : Stop) → t ≡ u → vs ≡ ws → m ≡ n → IsFailure called verdict condition t vs m s → IsFailure called verdict condition u ws n s
failure_on called verdict condition t u vs ws m n s trackers states targets found =
    subst (λ k. IsFailure called verdict condition u ws k s) targets
    (subst (λ us. IsFailure called verdict condition u us m s) states (subst (λ v. IsFailure called verdict condition v vs m s) trackers found))

-- objections on equal values
pub objection_on : {P : Type 0} (called : P → List ℕ) (complaint : P → TrackerView → List StateView → Option (List ℕ)) (xs ys : List P) (t u : TrackerView) (vs ws : List StateView) (s : Stop) → xs ≡ ys → t ≡ u → vs ≡ ws → IsObjection called complaint xs t vs s → IsObjection called complaint ys u ws s
objection_on called complaint xs ys t u vs ws s lists trackers states found =
    subst (λ zs. IsObjection called complaint zs u ws s) lists
    (subst (λ us. IsObjection called complaint xs u us s) states (subst (λ v. IsObjection called complaint xs v vs s) trackers found))

-- the fault that an end shows
pub fault_shown : {A : Type 0} (end : SimEnd) (whole e : EndedView) → end ≡ at_fault whole → ◌≡◌ {A = Result A SimEnd} (Err end) (Err (at_fault e)) → whole.fault ≡ e.fault
fault_shown {A} end whole e is shown = ap (λ (x : EndedView). x.fault) (same_end {A = A} whole e (ap (λ (x : SimEnd). Err x) (sym is) ∙ shown))

-- the agenda of an event that was taken off
pub agenda_begun : (before rest : QueueView) (entry : (ℕ × ℕ) × Event) (start : AgendaView) → before ≡ record rest { entries = entry ∷ rest.entries } → start ≡ empty_agenda rest.next → start ≡ empty_agenda before.next
agenda_begun before rest entry start taken nothing = nothing ∙ ap empty_agenda (sym (ap (λ (q : QueueView). q.next) taken))

-- the states that checks see at a report of a step that handles the event that was taken off
pub sees_begun : {D E S F P C : Type 0} (m : Meaning D E S F P C) (holds : List FinalizationUpdate → Bool → World D E S → Type 0) (before rest : QueueView) (entry : (ℕ × ℕ) × Event) (start : AgendaView) (u : World D E S) (more : List FinalizationUpdate) (states : List StateView) → before ≡ record rest { entries = entry ∷ rest.entries } → start ≡ empty_agenda rest.next → SeesAfter m holds (told_by entry.0 entry.1) start u more states → SeesAfter m holds (told_first before) (empty_agenda before.next) u more states
sees_begun m holds before rest entry start u more states taken nothing sees =
    subst (λ t. SeesAfter m holds t (empty_agenda before.next) u more states) (sym (ap told_first taken))
    (subst (λ a. SeesAfter m holds (told_by entry.0 entry.1) a u more states) (agenda_begun before rest entry start taken nothing) sees)

-- how the exit condition is asked in such a step
pub asks_begun : {D E S F P C : Type 0} (m : Meaning D E S F P C) (holds : List FinalizationUpdate → Bool → World D E S → Type 0) (before rest : QueueView) (entry : (ℕ × ℕ) × Event) (start : AgendaView) (us : List FinalizationUpdate) (u : World D E S) (more : List FinalizationUpdate) (states : List StateView) (target : ℕ) → before ≡ record rest { entries = entry ∷ rest.entries } → start ≡ empty_agenda rest.next → Asks m holds (told_by entry.0 entry.1) (is_poll entry.1) us start u more states target → Asks m holds (told_first before) (polls_first before) us (empty_agenda before.next) u more states target
asks_begun m holds before rest entry start us u more states target taken nothing (inl polled, counts) = (inl (ap polls_first taken ∙ polled.0, polled.1, polled.2), counts)
asks_begun m holds before rest entry start us u more states target taken nothing (inr sees, counts) =
    (inr (sees_begun m holds before rest entry start u more states taken nothing sees), counts)

-- a report of a step that handles the event that was taken off
pub reports_begun : {D E S F P C : Type 0} (m : Meaning D E S F P C) (before rest : QueueView) (entry : (ℕ × ℕ) × Event) (start : AgendaView) (u : World D E S) (more : List FinalizationUpdate) (update : FinalizationUpdate) → before ≡ record rest { entries = entry ∷ rest.entries } → start ≡ empty_agenda rest.next → ReportsThen m (told_by entry.0 entry.1) start u more update → ReportsThen m (told_first before) (empty_agenda before.next) u more update
reports_begun m before rest entry start u more update taken nothing came =
    subst (λ t. ReportsThen m t (empty_agenda before.next) u more update) (sym (ap told_first taken))
    (subst (λ a. ReportsThen m (told_by entry.0 entry.1) a u more update) (agenda_begun before rest entry start taken nothing) came)

-- a window that was skipped in such a step
pub skips_begun : {D E S F P C : Type 0} (m : Meaning D E S F P C) (holds : List FinalizationUpdate → Bool → World D E S → Type 0) (before rest : QueueView) (entry : (ℕ × ℕ) × Event) (start : AgendaView) (u : World D E S) (skipped : ℕ) → before ≡ record rest { entries = entry ∷ rest.entries } → start ≡ empty_agenda rest.next → SkipsAfter m holds (told_by entry.0 entry.1) start u skipped → SkipsAfter m holds (told_first before) (empty_agenda before.next) u skipped
skips_begun m holds before rest entry start u skipped taken nothing skips =
    subst (λ t. SkipsAfter m holds t (empty_agenda before.next) u skipped) (sym (ap told_first taken))
    (subst (λ a. SkipsAfter m holds (told_by entry.0 entry.1) a u skipped) (agenda_begun before rest entry start taken nothing) skips)

-- what is left of a list, one element on
pub left_more : (done left rest all : List FinalizationUpdate) (update : FinalizationUpdate) → done ++ left ≡ all → left ≡ update ∷ rest → (done ++ update ∷ []) ++ rest ≡ all
left_more done left rest all update whole first = append_assoc done (update ∷ []) rest ∙ ap (λ us. done ++ us) (sym first) ∙ whole

-- a run whose first event was handled and whose exit condition was met
abbrev pub ends_of : {D E S F P C : Type 0} (m : Meaning D E S F P C) (holds : List FinalizationUpdate → Bool → World D E S → Type 0) (queue left : QueueView) (entry : (ℕ × ℕ) × Event) (start made : AgendaView) (us vs done more : List FinalizationUpdate) (u w : World D E S) (states : List StateView) (reached : Reached) → queue ≡ record left { entries = entry ∷ left.entries } → start ≡ empty_agenda left.next → Handles m holds (Some reached) entry.0 entry.1 start made us vs u w → IsReached m (target_count m.participants m.crashes w.exercise.delayed_started) vs reached → w.exercise.delayed_started ≡ started_by m.participants m.crashes us u.exercise.delayed_started (drop (length us) vs) (Some reached) → IfSome (Some reached) (MetOn (Asked m holds (told_by entry.0 entry.1) (is_poll entry.1) start u) us) → vs ≡ us ++ done → EndsAt reached.states.items more states → Ends m holds queue us u (done ++ more) states
ends_of m holds queue left entry start made us vs done more u w states reached taken nothing handled met started seen since over =
    let whole : done ≡ done ++ more = sym (append-nil done) ∙ ap (λ xs. done ++ xs) (sym over.0) in
    let same : vs ≡ us ++ (done ++ more) = since ∙ ap (λ xs. us ++ xs) whole in
    let newer : drop (length us) vs ≡ done ++ more = ap (drop (length us)) same ∙ drop-append_seam us (done ++ more) in
    let begun : Handles m holds (Some reached) entry.0 entry.1 (empty_agenda queue.next) made us vs u w =
    subst (λ a. Handles m holds (Some reached) entry.0 entry.1 a made us vs u w) (agenda_begun queue left entry start taken nothing) handled in
    let counted : w.exercise.delayed_started ≡ started_where m.participants m.crashes us u.exercise.delayed_started reached.count (done ++ more) =
    started ∙ ap (started_where m.participants m.crashes us u.exercise.delayed_started reached.count) newer in
    record {
      entry = entry;
      rest = left.entries;
      first = ap (λ (q : QueueView). q.entries) taken;
      made = made;
      after = w;
      reached = reached;
      handles = subst (λ xs. Handles m holds (Some reached) entry.0 entry.1 (empty_agenda queue.next) made us xs u w) same begun;
      met = subst (λ b. IsReached m (target_count m.participants m.crashes b) (us ++ (done ++ more)) reached) counted
          (subst (λ xs. IsReached m (target_count m.participants m.crashes w.exercise.delayed_started) xs reached) same met);
      seen = subst (λ a. MetOn (Asked m holds (told_by entry.0 entry.1) (is_poll entry.1) a u) us reached) (agenda_begun queue left entry start taken nothing) seen;
      are = over.1;
    }

module _ {D E S F P C : Type 0} (m : Meaning D E S F P C) (seen : List FinalizationUpdate → List StateView → Type 0) (asked : List FinalizationUpdate → List StateView → ℕ → Type 0) (ended : List FinalizationUpdate → List StateView → Type 0) where
  -- want of memory
  pub answered_short : (before : List FinalizationUpdate) (s : Stop) → s ≡ OutOfMemory → StopAnswered m seen asked ended before s
  answered_short before s is = subst (StopAnswered m seen asked ended before) (sym is) tt

  -- a check at a report
  pub answered_complains : (before more : List FinalizationUpdate) (states : List StateView) (s : Stop) → seen more states → IsComplaint m.check_name m.complaint m.checks states s → StopAnswered m seen asked ended before s
  answered_complains before more states s saw (inl is) = answered_short before s is
  answered_complains before more states s saw (inr found) =
      subst (StopAnswered m seen asked ended before) (sym found.2) (more, states, saw, found.3)

  -- the exit condition
  pub answered_fails : (before : List FinalizationUpdate) (states : List StateView) (target : ℕ) (s : Stop) → asked [] states target → IsFailure m.condition_name m.verdict m.condition (tracker_of before) states target s → StopAnswered m seen asked ended before s
  answered_fails before states target s saw (inl is) = answered_short before s is
  answered_fails before states target s saw (inr found) =
      let none : before ≡ before ++ [] = sym (append-nil before) in
      let fails : Fails m.condition_name m.verdict m.condition (tracker_of (before ++ [])) states target found.0 found.1 =
      subst (λ us. Fails m.condition_name m.verdict m.condition (tracker_of us) states target found.0 found.1) none found.3 in
      subst (StopAnswered m seen asked ended before) (sym found.2) ([], states, target, saw, fails)

  -- a property of the end
  pub answered_objects : (before : List FinalizationUpdate) (states : List StateView) (s : Stop) (f : PlanFault) → ended [] states → s ≡ Fault f → IsObjection m.property_name m.objection m.properties (tracker_of before) states s → Answered m seen asked ended before f
  answered_objects before states s f over is objects =
      subst (StopAnswered m seen asked ended before) is (by_stop s objects)
    where
      by_stop : (s : Stop) → IsObjection m.property_name m.objection m.properties (tracker_of before) states s → StopAnswered m seen asked ended before s
      by_stop s (inl is) = answered_short before s is
      by_stop s (inr found) =
          subst (StopAnswered m seen asked ended before) (sym found.2)
          ([], states, over, subst (λ us. Objects m.property_name m.objection m.properties (tracker_of us) states found.0 found.1) (sym (append-nil before)) found.3)

  -- a refused report
  pub answered_forks : (before : List FinalizationUpdate) (update : FinalizationUpdate) (s : Stop) → IsForkOf before update s → StopAnswered m seen asked ended before s
  answered_forks before update s forks = by_fault (observe_fault (tracker_of before) update) forks
    where
      by_fault : (o : Option ObserveFault) → MatchOption o (s ≡ OutOfMemory) (λ fault. (s ≡ OutOfMemory) ⊎ (s ≡ Fault (Fork update fault))) → StopAnswered m seen asked ended before s
      by_fault None short = answered_short before s short
      by_fault (Some fault) (inl short) = answered_short before s short
      by_fault (Some fault) (inr fork) = subst (StopAnswered m seen asked ended before) (sym fork) tt

  -- a window that was skipped
  pub answered_skips : (skipped : ℕ → Type 0) (before : List FinalizationUpdate) (s : Stop) → IsSkip skipped s → StopAnswered m seen asked ended before s
  answered_skips skipped before s (inl is) = answered_short before s is
  answered_skips skipped before s (inr skips) = subst (StopAnswered m seen asked ended before) (sym skips.1) tt

  -- checks that answer Ok don't complain
  pub answered_sound : (wider : List FinalizationUpdate → List StateView → Type 0) (wider_ask : List FinalizationUpdate → List StateView → ℕ → Type 0) (wider_end : List FinalizationUpdate → List StateView → Type 0) (before : List FinalizationUpdate) (views : List StateView) (s : Stop) → All (λ p. m.complaint p views ≡ None) m.checks → ((more : List FinalizationUpdate) (v : List StateView) → seen more v → v ≡ views) → ((more : List FinalizationUpdate) (v : List StateView) (n : ℕ) → asked more v n → ⊥) → ((more : List FinalizationUpdate) (v : List StateView) → ended more v → ⊥) → StopAnswered m seen asked ended before s → StopAnswered m wider wider_ask wider_end before s
  answered_sound wider wider_ask wider_end before views OutOfMemory sound at none_asked none_ended said = tt
  answered_sound wider wider_ask wider_end before views (Fault (FinalizationProperty name text)) sound at none_asked none_ended said =
      let complains = said.3 in
      absurd (some_none (sym (ap (m.complaint complains.check) (at said.0 said.1 said.2)) ∙ complains.says) (All-contains (λ p. m.complaint p views ≡ None) m.checks complains.check sound complains.among))
    where
      some_none : {o : Option (List ℕ)} → o ≡ Some text → o ≡ None → ⊥
      some_none some none = cc
  answered_sound wider wider_ask wider_end before views (Fault (Property name text)) sound at none_asked none_ended said = absurd (none_ended said.0 said.1 said.2)
  answered_sound wider wider_ask wider_end before views (Fault (Exit name text)) sound at none_asked none_ended said = absurd (none_asked said.0 said.1 said.2 said.3)
  answered_sound wider wider_ask wider_end before views (Fault (Fork update fault)) sound at none_asked none_ended said = tt
  answered_sound wider wider_ask wider_end before views (Fault Timeout) sound at none_asked none_ended said = tt
  answered_sound wider wider_ask wider_end before views (Fault EventLimit) sound at none_asked none_ended said = tt
  answered_sound wider wider_ask wider_end before views (Fault Idle) sound at none_asked none_ended said = tt
  answered_sound wider wider_ask wider_end before views (Fault (SkippedWindow height)) sound at none_asked none_ended said = tt
  answered_sound wider wider_ask wider_end before views (Fault (NotExercised index)) sound at none_asked none_ended said = tt

  -- from an earlier time on
  pub answered_since : (wider : List FinalizationUpdate → List StateView → Type 0) (wider_ask : List FinalizationUpdate → List StateView → ℕ → Type 0) (wider_end : List FinalizationUpdate → List StateView → Type 0) (before now done : List FinalizationUpdate) → ((more : List FinalizationUpdate) (v : List StateView) → seen more v → wider (done ++ more) v) → ((more : List FinalizationUpdate) (v : List StateView) (n : ℕ) → asked more v n → wider_ask (done ++ more) v n) → ((more : List FinalizationUpdate) (v : List StateView) → ended more v → wider_end (done ++ more) v) → now ≡ before ++ done → (f : PlanFault) → Answered m seen asked ended now f → Answered m wider wider_ask wider_end before f
  answered_since wider wider_ask wider_end before now done widens asks ends since (FinalizationProperty name text) said = (done ++ said.0, said.1, widens said.0 said.1 said.2, said.3)
  answered_since wider wider_ask wider_end before now done widens asks ends since (Property name text) said = (
    done ++ said.0,
    said.1,
    ends said.0 said.1 said.2,
    subst (λ us. Objects m.property_name m.objection m.properties (tracker_of us) said.1 name text) (ap (λ us. us ++ said.0) since ∙ append_assoc before done said.0) said.3,
  )
  answered_since wider wider_ask wider_end before now done widens asks ends since (Exit name text) said = (
    done ++ said.0,
    said.1,
    said.2,
    asks said.0 said.1 said.2 said.3,
    subst (λ us. Fails m.condition_name m.verdict m.condition (tracker_of us) said.1 said.2 name text) (ap (λ us. us ++ said.0) since ∙ append_assoc before done said.0) said.4,
  )
  answered_since wider wider_ask wider_end before now done widens asks ends since (Fork update fault) said = tt
  answered_since wider wider_ask wider_end before now done widens asks ends since Timeout said = tt
  answered_since wider wider_ask wider_end before now done widens asks ends since EventLimit said = tt
  answered_since wider wider_ask wider_end before now done widens asks ends since Idle said = tt
  answered_since wider wider_ask wider_end before now done widens asks ends since (SkippedWindow height) said = tt
  answered_since wider wider_ask wider_end before now done widens asks ends since (NotExercised index) said = tt

  pub stop_answered_since : (wider : List FinalizationUpdate → List StateView → Type 0) (wider_ask : List FinalizationUpdate → List StateView → ℕ → Type 0) (wider_end : List FinalizationUpdate → List StateView → Type 0) (before now done : List FinalizationUpdate) → ((more : List FinalizationUpdate) (v : List StateView) → seen more v → wider (done ++ more) v) → ((more : List FinalizationUpdate) (v : List StateView) (n : ℕ) → asked more v n → wider_ask (done ++ more) v n) → ((more : List FinalizationUpdate) (v : List StateView) → ended more v → wider_end (done ++ more) v) → now ≡ before ++ done → (s : Stop) → StopAnswered m seen asked ended now s → StopAnswered m wider wider_ask wider_end before s
  stop_answered_since wider wider_ask wider_end before now done widens asks ends since (Fault fault) said = answered_since wider wider_ask wider_end before now done widens asks ends since fault said
  stop_answered_since wider wider_ask wider_end before now done widens asks ends since OutOfMemory said = tt

  -- a refusal by the exit condition alone
  pub if_answered_fails : {A : Type 0} (before : List FinalizationUpdate) (states : List StateView) (target : ℕ) (r : Result A Stop) → asked [] states target → IfErr r (IsFailure m.condition_name m.verdict m.condition (tracker_of before) states target) → IfErr r (StopAnswered m seen asked ended before)
  if_answered_fails before states target (Ok a) saw fact = tt
  if_answered_fails before states target (Err s) saw fact = answered_fails before states target s saw fact

  -- the same of wider moments
  pub if_answered_wider : {A : Type 0} (wider : List FinalizationUpdate → List StateView → Type 0) (wider_ask : List FinalizationUpdate → List StateView → ℕ → Type 0) (wider_end : List FinalizationUpdate → List StateView → Type 0) (before : List FinalizationUpdate) (r : Result A Stop) → ((more : List FinalizationUpdate) (v : List StateView) → seen more v → wider more v) → ((more : List FinalizationUpdate) (v : List StateView) (n : ℕ) → asked more v n → wider_ask more v n) → ((more : List FinalizationUpdate) (v : List StateView) → ended more v → wider_end more v) → IfErr r (StopAnswered m seen asked ended before) → IfErr r (StopAnswered m wider wider_ask wider_end before)
  if_answered_wider wider wider_ask wider_end before (Ok a) widens asks ends said = tt
  if_answered_wider wider wider_ask wider_end before (Err s) widens asks ends said = stop_answered_since wider wider_ask wider_end before before [] widens asks ends (sym (append-nil before)) s said

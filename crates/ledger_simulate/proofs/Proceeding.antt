-- What a handled event does to the seats, the reports and the queue.
use Rattle.std.proofs.Common.{◌≡◌, ◌≤◌, ◌+◌, ℕ, All, Bool, List, [], ◌∷◌, ◌++◌, IfOk, MatchOption, Option, Result, Some, None, is_some, length, map, refl, sym, ap, ◌∙◌, subst, arith, length-append}
use Rattle.std.proofs.lemmas.List.{append-nil}
use Rattle.std.proofs.lemmas.List.Elements.{All-nil}
use Rattle.std.specs.BTreeMap.Range.{IsLtBy}
use Rattle.simulate_parts.specs.Engine.{Passes, updates_of}
use Rattle.simulate_parts.specs.declared.engine.StepEvent.{StepEvent}
use Rattle.simulate_parts.specs.declared.engine.StepEvent.TheVariants.{Started as told_start, Timer as told_timer, Received as told_message}
use Rattle.simulate_parts.specs.declared.peer.Peer.{Peer}
use Rattle.simulate_parts.specs.declared.schedule.Action.{Action}
use Rattle.simulate_parts.specs.declared.tracker.FinalizationUpdate.{FinalizationUpdate}
use Rattle.ledger_simulate.specs.Meaning.{Meaning}
use Rattle.ledger_simulate.specs.Failures.{tally_after, tally_of}
use Rattle.ledger_simulate.specs.declared.reports.Reached.{Reached}
use Rattle.ledger_simulate.proofs.Turning.{set_off_changes_alone}
use Rattle.ledger_simulate.specs.Handling.{Grows, Handles, IsUnchanged, Seated, ChangesEngines, HandlesOther, HandlesAtEngine, StepsAndReports, birth_at, carried, number_after, count_setting_off, told_by}
use Rattle.ledger_simulate.specs.Messages.{timers_of}
use Rattle.ledger_simulate.specs.Queue.{AgendaView, NumberedBelow, QueueView, empty_agenda, key_cmp, queued_all}
use Rattle.ledger_simulate.specs.Runs.{Proceeds}
use Rattle.ledger_simulate.specs.declared.event.Event.{Event}
use Rattle.ledger_simulate.specs.declared.event.Event.TheVariants.{Started, Timer, Received, Act, CrashTick, ExitPoll, Recover}
use Rattle.ledger_simulate.specs.declared.handling.Told.{Told}
use Rattle.ledger_simulate.specs.declared.world.World.{World}
use Rattle.ledger_simulate.proofs.Engines.{passes_step, seated_step, seated_up}
use Rattle.ledger_simulate.proofs.Numbering.{next_after}

-- no reports more
grows_none : (reports : Option (FinalizationUpdate → Bool)) (us vs : List FinalizationUpdate) → vs ≡ us → Grows reports us vs
grows_none reports us vs same = record { added = []; is = same ∙ sym (append-nil us); passes = All-nil (Passes reports) }

-- what the handling of an event leaves
pub record Leaves {D E S F P C : Type 0} (m : Meaning D E S F P C) (a b : AgendaView) (us vs : List FinalizationUpdate) (u v : World D E S) : Type 0 where
  pub next : b.next ≡ a.next
  pub seated : Seated m.peer_of (number_after a) u.seats.entries → Seated m.peer_of (number_after b) v.seats.entries
  pub grows : Seated m.peer_of (number_after a) u.seats.entries → Grows m.reports us vs

module _ {D E S F P C : Type 0} (m : Meaning D E S F P C) (holds : List FinalizationUpdate → Bool → World D E S → Type 0) where
  turns_leave : (o : Option Reached) (pk : Peer) (birth : ℕ) (event : StepEvent) (a b : AgendaView) (us vs : List FinalizationUpdate) (u v : World D E S) → StepsAndReports m holds o pk birth event a b us vs u v → Leaves m a b us vs u v
  turns_leave o pk birth event a b us vs u v turns =
      let gives = turns.gives in
      let changes_alone = set_off_changes_alone m holds (updates_of pk turns.out.finalized) (is_some o) (count_setting_off us (updates_of pk turns.out.finalized) o) turns.given b turns.mid v turns.set_off in
      let made : List (ℕ × Event) = timers_of pk birth turns.out.timers in
      let sent : List (ℕ × Event) = (carried u turns.mid.seats.entries pk turns.out.messages).0 in
      let long : length turns.given.events ≡ length a.events + length made + length sent =
      ap length gives.events ∙ length-append (a.events ++ made) sent ∙ ap (λ n. n + length sent) (length-append a.events made) in
      let same : turns.given.next ≡ a.next = gives.next in
      let up : number_after a ≤ number_after turns.given = omega arith in
      record {
        next = changes_alone.changes.adds.next ∙ gives.next;
        seated = λ seated. changes_alone.changes.seated
            (seated_up m.peer_of (number_after a) (number_after turns.given) turns.mid.seats.entries up
            (seated_step m.peer_of m.journal m.reports pk event turns.out (number_after a) u.seats.entries turns.mid.seats.entries gives.step seated));
        grows = λ seated. record {
          added = updates_of pk turns.out.finalized;
          is = turns.reported;
          passes = passes_step m.peer_of m.journal m.reports pk event turns.out (number_after a) u.seats.entries turns.mid.seats.entries gives.step seated;
        };
      }

  rests_leave : (a b : AgendaView) (us vs : List FinalizationUpdate) (u v : World D E S) → IsUnchanged a b us vs u v → Leaves m a b us vs u v
  rests_leave a b us vs u v rests = record {
    next = ap (λ (x : AgendaView). x.next) rests.0;
    seated = λ seated.
        subst (λ (w : World D E S). Seated m.peer_of (number_after b) w.seats.entries) (sym rests.2)
        (subst (λ x. Seated m.peer_of (number_after x) u.seats.entries) (sym rests.0) seated);
    grows = λ seated. grows_none m.reports us vs rests.1;
  }

  tells_leave : (o : Option Reached) (pk : Peer) (event : StepEvent) (a b : AgendaView) (us vs : List FinalizationUpdate) (u v : World D E S) (birth : Option ℕ) → MatchOption birth (IsUnchanged a b us vs u v) (λ n. StepsAndReports m holds o pk n event a b us vs u v) → Leaves m a b us vs u v
  tells_leave o pk event a b us vs u v None rests = rests_leave a b us vs u v rests
  tells_leave o pk event a b us vs u v (Some birth) turns = turns_leave o pk birth event a b us vs u v turns

  -- the engine that runs took a step
  pub tells_by : (o : Option Reached) (pk : Peer) (n : ℕ) (event : StepEvent) (a b : AgendaView) (us vs : List FinalizationUpdate) (u v : World D E S) (birth : Option ℕ) → birth ≡ Some n → StepsAndReports m holds o pk n event a b us vs u v → MatchOption birth (IsUnchanged a b us vs u v) (λ k. StepsAndReports m holds o pk k event a b us vs u v)
  tells_by o pk n event a b us vs u v birth is turns =
      subst (λ x. MatchOption x (IsUnchanged a b us vs u v) (λ k. StepsAndReports m holds o pk k event a b us vs u v)) (sym is) turns

  other_leave : (event : Event) (a b : AgendaView) (us vs : List FinalizationUpdate) (u v : World D E S) → HandlesOther m event a b us vs u v → Leaves m a b us vs u v
  other_leave event a b us vs u v other = record {
    next = other.1.adds.next;
    seated = other.1.seated;
    grows = λ seated. grows_none m.reports us vs other.0;
  }

  pub handles_leave : (o : Option Reached) (key : ℕ × ℕ) (event : Event) (a b : AgendaView) (us vs : List FinalizationUpdate) (u v : World D E S) → Handles m holds o key event a b us vs u v → Leaves m a b us vs u v
  handles_leave o key (Started pk) a b us vs u v h = tells_leave o pk told_start a b us vs u v (birth_at u.seats.entries pk (Some key.1)) h
  handles_leave o key (Timer pk birth) a b us vs u v h = tells_leave o pk (told_timer key.0) a b us vs u v (birth_at u.seats.entries pk (Some birth)) h
  handles_leave o key (Received from to channel bytes) a b us vs u v h = tells_leave o to (told_message from channel bytes) a b us vs u v (birth_at u.seats.entries to None) h
  handles_leave o key (Act action) a b us vs u v h = other_leave (Act action) a b us vs u v h
  handles_leave o key CrashTick a b us vs u v h = other_leave CrashTick a b us vs u v h
  handles_leave o key ExitPoll a b us vs u v h = other_leave ExitPoll a b us vs u v h
  handles_leave o key (Recover pk) a b us vs u v h = other_leave (Recover pk) a b us vs u v h

  -- the same from no events made
  pub grows_from : (o : Option Reached) (n : ℕ) (key : ℕ × ℕ) (event : Event) (b : AgendaView) (us vs : List FinalizationUpdate) (u v : World D E S) → Handles m holds o key event (empty_agenda n) b us vs u v → Seated m.peer_of n u.seats.entries → Grows m.reports us vs
  grows_from o n key event b us vs u v handles seated =
      let up : n ≤ number_after (empty_agenda n) = omega arith in
      (handles_leave o key event (empty_agenda n) b us vs u v handles).grows (seated_up m.peer_of n (number_after (empty_agenda n)) u.seats.entries up seated)

  pub seated_from : (o : Option Reached) (n k : ℕ) (key : ℕ × ℕ) (event : Event) (b : AgendaView) (us vs : List FinalizationUpdate) (u v : World D E S) → k ≡ n + length b.events → Handles m holds o key event (empty_agenda n) b us vs u v → Seated m.peer_of n u.seats.entries → Seated m.peer_of k v.seats.entries
  seated_from o n k key event b us vs u v after handles seated =
      let leaves = handles_leave o key event (empty_agenda n) b us vs u v handles in
      let up : n ≤ number_after (empty_agenda n) = omega arith in
      let next : b.next ≡ n = leaves.next in
      let same : number_after b ≤ k = omega arith in
      seated_up m.peer_of (number_after b) k v.seats.entries same (leaves.seated (seated_up m.peer_of n (number_after (empty_agenda n)) u.seats.entries up seated))

  -- the first event taken off, handled, and those put in that its handling made
  pub proceeds_by : (before rest new : QueueView) (entry : (ℕ × ℕ) × Event) (agenda : AgendaView) (us vs : List FinalizationUpdate) (u v : World D E S) → before ≡ record rest { entries = entry ∷ rest.entries } → All (IsLtBy key_cmp entry.0) (map (λ e. e.0) rest.entries) → NumberedBelow before.next before.entries → new ≡ queued_all rest entry.0.0 agenda.events → Handles m holds None entry.0 entry.1 (empty_agenda rest.next) agenda us vs u v → Proceeds m holds before new us vs u v
  proceeds_by before rest new entry agenda us vs u v taken least numbered put handles =
      let next : before.next ≡ rest.next = ap (λ (q : QueueView). q.next) taken in
      let after : new.next ≡ rest.next + length agenda.events = ap (λ (q : QueueView). q.next) put ∙ next_after rest entry.0.0 agenda.events in
      record {
        entry = entry;
        agenda = agenda;
        advances = record {
          rest = rest.entries;
          first = ap (λ (q : QueueView). q.entries) taken;
          least = least;
          numbered = numbered;
          then = put ∙ ap (λ n. queued_all (record { entries = rest.entries; next = n }) entry.0.0 agenda.events) (sym next);
        };
        handles = subst (λ n. Handles m holds None entry.0 entry.1 (empty_agenda n) agenda us vs u v) (sym next) handles;
        seated = λ seated. seated_from None rest.next new.next entry.0 entry.1 agenda us vs u v after handles (subst (λ n. Seated m.peer_of n u.seats.entries) next seated);
        grows = λ seated. grows_from None rest.next entry.0 entry.1 agenda us vs u v handles (subst (λ n. Seated m.peer_of n u.seats.entries) next seated);
      }

  -- the same from an agenda of nothing, where the reports and the world are equal ones
  pub goes_on : (before rest new : QueueView) (entry : (ℕ × ℕ) × Event) (start agenda : AgendaView) (us vs ws : List FinalizationUpdate) (u v w : World D E S) → before ≡ record rest { entries = entry ∷ rest.entries } → All (IsLtBy key_cmp entry.0) (map (λ e. e.0) rest.entries) → NumberedBelow before.next before.entries → new ≡ queued_all rest entry.0.0 agenda.events → start ≡ empty_agenda rest.next → Handles m holds None entry.0 entry.1 start agenda us vs u v → ws ≡ vs → w ≡ v → Proceeds m holds before new us ws u w
  goes_on before rest new entry start agenda us vs ws u v w taken least numbered put nothing handles same_reports same_world =
      subst (λ x. Proceeds m holds before new us x u w) (sym same_reports)
      (subst (λ x. Proceeds m holds before new us vs u x) (sym same_world)
      (proceeds_by before rest new entry agenda us vs u v taken least numbered put
      (subst (λ a. Handles m holds None entry.0 entry.1 a agenda us vs u v) nothing handles)))

  -- the reports of a run that is over
  pub grows_by : (o : Option Reached) (before rest : QueueView) (entry : (ℕ × ℕ) × Event) (start agenda : AgendaView) (us vs ws : List FinalizationUpdate) (u v : World D E S) → before ≡ record rest { entries = entry ∷ rest.entries } → start ≡ empty_agenda rest.next → Handles m holds o entry.0 entry.1 start agenda us vs u v → ws ≡ vs → Seated m.peer_of before.next u.seats.entries → Grows m.reports us ws
  grows_by o before rest entry start agenda us vs ws u v taken nothing handles same seated =
      subst (Grows m.reports us) (sym same)
      (grows_from o rest.next entry.0 entry.1 agenda us vs u v
      (subst (λ a. Handles m holds o entry.0 entry.1 a agenda us vs u v) nothing handles)
      (subst (λ n. Seated m.peer_of n u.seats.entries) (ap (λ (q : QueueView). q.next) taken) seated))

  -- an event that tells an engine this
  pub handles_told : {X : Type 0} (key : ℕ × ℕ) (event : Event) (t : Told) (a b : AgendaView) (us vs : List FinalizationUpdate) (u v : World D E S) (r : Result (Option Reached) X) → Some (t.pk, t.birth, t.event) ≡ told_by key event → IfOk r (λ o. HandlesAtEngine m holds o t.pk t.birth t.event a b us vs u v) → IfOk r (λ o. Handles m holds o key event a b us vs u v)
  handles_told key event t a b us vs u v r is told =
      subst (λ x. IfOk r (λ o. MatchOption x (HandlesOther m event a b us vs u v) (λ y. HandlesAtEngine m holds o y.0 y.1 y.2 a b us vs u v))) is told

  -- an event that is for no engine
  pub handles_act : (o : Option Reached) (key : ℕ × ℕ) (event : Event) (action : Action) (a b : AgendaView) (us : List FinalizationUpdate) (u v : World D E S) → event ≡ Act action → ChangesEngines m.peer_of a b u v → tally_of v.exercise ≡ tally_after m.crashes (Act action) u → Handles m holds o key event a b us us u v
  handles_act o key event action a b us u v is changes tally = subst (λ e. Handles m holds o key e a b us us u v) (sym is) (refl, changes, tally)

  pub handles_tick : (o : Option Reached) (key : ℕ × ℕ) (event : Event) (a b : AgendaView) (us : List FinalizationUpdate) (u v : World D E S) → event ≡ CrashTick → ChangesEngines m.peer_of a b u v → tally_of v.exercise ≡ tally_after m.crashes CrashTick u → Handles m holds o key event a b us us u v
  handles_tick o key event a b us u v is changes tally = subst (λ e. Handles m holds o key e a b us us u v) (sym is) (refl, changes, tally)

  pub handles_poll : (o : Option Reached) (key : ℕ × ℕ) (event : Event) (a b : AgendaView) (us : List FinalizationUpdate) (u v : World D E S) → event ≡ ExitPoll → ChangesEngines m.peer_of a b u v → tally_of v.exercise ≡ tally_after m.crashes ExitPoll u → Handles m holds o key event a b us us u v
  handles_poll o key event a b us u v is changes tally = subst (λ e. Handles m holds o key e a b us us u v) (sym is) (refl, changes, tally)

  pub handles_recover : (o : Option Reached) (key : ℕ × ℕ) (event : Event) (pk : Peer) (a b : AgendaView) (us : List FinalizationUpdate) (u v : World D E S) → event ≡ Recover pk → ChangesEngines m.peer_of a b u v → tally_of v.exercise ≡ tally_after m.crashes (Recover pk) u → Handles m holds o key event a b us us u v
  handles_recover o key event pk a b us u v is changes tally = subst (λ e. Handles m holds o key e a b us us u v) (sym is) (refl, changes, tally)

  -- seats that are in order before the first event is taken off
  pub seated_begun : (before rest : QueueView) (entry : (ℕ × ℕ) × Event) (start : AgendaView) (u : World D E S) → before ≡ record rest { entries = entry ∷ rest.entries } → start ≡ empty_agenda rest.next → Seated m.peer_of before.next u.seats.entries → Seated m.peer_of (number_after start) u.seats.entries
  seated_begun before rest entry start u taken nothing seated =
      let same : before.next ≡ rest.next = ap (λ (q : QueueView). q.next) taken in
      let begun : number_after start ≡ rest.next + 0 = ap number_after nothing in
      let up : before.next ≤ number_after start = omega arith in
      seated_up m.peer_of before.next (number_after start) u.seats.entries up seated

-- The first events of a run.
use Rattle.std.proofs.Common.{◌≡◌, ◌≤◌, ◌<◌, ◌+◌, ℕ, All, Bool, true, false, not, IsTrue, List, [], ◌∷◌, ◌++◌, Option, Some, None, get_or, length, map, take, refl, sym, ap, ◌∙◌, subst, arith}
use Rattle.std.specs.List.{flat_map}
use Rattle.std.proofs.lemmas.List.{append_assoc, map-append, take_more}
use Rattle.std.proofs.lemmas.List.Elements.{All-append, All-cons, All-nil, filter-append}
use Rattle.simulate_parts.specs.Team.{names, others}
use Rattle.simulate_parts.specs.declared.peer.Peer.{Peer}
use Rattle.simulate_parts.specs.declared.schedule.Action.{Action}
use Rattle.simulate_parts.specs.declared.schedule.Crash.{Crash}
use Rattle.simulate_parts.specs.declared.schedule.Crash.TheVariants.{Random, DelayRound, ProcessedHeight, Schedule}
use Rattle.ledger_simulate.specs.Handling.{Adds, ChangesEnginesAlone, Seated, is_quiet, number_after}
use Rattle.ledger_simulate.specs.Opening.{actions_of, first_poll, first_tick, starts}
use Rattle.ledger_simulate.specs.Queue.{AgendaView, QueueView, empty_agenda, empty_queue, queued_all}
use Rattle.ledger_simulate.specs.declared.event.Event.{Event}
use Rattle.ledger_simulate.specs.declared.event.Event.TheVariants.{Act}
use Rattle.ledger_simulate.specs.declared.world.World.{World}
use Rattle.ledger_simulate.proofs.Engines.{seated_up}
use Rattle.ledger_simulate.proofs.Numbering.{next_after}

-- one participant more
pub starts_more : (named ps : List Peer) (i : ℕ) (d : Peer) (before mid after : AgendaView) → i < length ps → mid ≡ record before { events = before.events ++ starts (others named (take i ps)) } → after ≡ record mid { events = mid.events ++ starts (others named (get_or ps i d ∷ [])) } → after ≡ record before { events = before.events ++ starts (others named (take (i + 1) ps)) }
starts_more named ps i d before mid after within so_far one =
    let pk : Peer = get_or ps i d in
    let f : List Peer → List (ℕ × Event) = λ xs. starts (others named xs) in
    let more : take (i + 1) ps ≡ take i ps ++ pk ∷ [] = take_more ps i d within in
    let split : f (take (i + 1) ps) ≡ f (take i ps) ++ f (pk ∷ []) =
    ap f more ∙ ap starts (filter-append (λ p. not (names named p)) (take i ps) (pk ∷ [])) ∙ map-append _ (others named (take i ps)) (others named (pk ∷ [])) in
    let put : List (ℕ × Event) → AgendaView = λ es. record before { events = es } in
    one ∙ ap (λ (m : AgendaView). record m { events = m.events ++ f (pk ∷ []) }) so_far
    ∙ ap put (append_assoc before.events (f (take i ps)) (f (pk ∷ [])) ∙ ap (λ es. before.events ++ es) (sym split))

-- the event is no timer and no message
abbrev Quiet : ℕ × Event → Type 0
Quiet e = IsTrue (is_quiet e.1)

quiet_actions : (events : List (ℕ × Action)) → All Quiet (map (λ e. (e.0, Act e.1)) events)
quiet_actions [] = All-nil Quiet
quiet_actions (e ∷ es) = All-cons Quiet (e.0, Act e.1) (map (λ x. (x.0, Act x.1)) es) refl (quiet_actions es)

quiet_schedule : (c : Crash) → All Quiet (actions_of c)
quiet_schedule (Schedule events) = quiet_actions events
quiet_schedule (Random frequency downtime count) = All-nil Quiet
quiet_schedule (DelayRound participants round) = All-nil Quiet
quiet_schedule (ProcessedHeight participant first last downtime) = All-nil Quiet

quiet_tick : (c : Crash) → All Quiet (first_tick c)
quiet_tick (Schedule events) = All-nil Quiet
quiet_tick (Random frequency downtime count) = All-cons Quiet _ [] refl (All-nil Quiet)
quiet_tick (DelayRound participants round) = All-nil Quiet
quiet_tick (ProcessedHeight participant first last downtime) = All-nil Quiet

quiet_poll : (b : Bool) → All Quiet (first_poll b)
quiet_poll true = All-cons Quiet _ [] refl (All-nil Quiet)
quiet_poll false = All-nil Quiet

quiet_each : (f : Crash → List (ℕ × Event)) → ((c : Crash) → All Quiet (f c)) → (cs : List Crash) → All Quiet (flat_map f cs)
quiet_each f each [] = All-nil Quiet
quiet_each f each (c ∷ cs) = All-append Quiet (f c) (flat_map f cs) (each c) (quiet_each f each cs)

-- the events of the failures
pub adds_failures : (a b : AgendaView) (crashes : List Crash) (polls : Bool) → b ≡ record a { events = a.events ++ flat_map actions_of crashes ++ flat_map first_tick crashes ++ first_poll polls } → Adds a b
adds_failures a b crashes polls made =
    let acts : List (ℕ × Event) = flat_map actions_of crashes in
    let ticks : List (ℕ × Event) = flat_map first_tick crashes in
    let poll : List (ℕ × Event) = first_poll polls in
    record {
      added = acts ++ (ticks ++ poll);
      events = ap (λ (x : AgendaView). x.events) made ∙ append_assoc (a.events ++ acts) ticks poll ∙ append_assoc a.events acts (ticks ++ poll);
      next = ap (λ (x : AgendaView). x.next) made;
      quiet = All-append Quiet acts (ticks ++ poll) (quiet_each actions_of quiet_schedule crashes) (All-append Quiet ticks poll (quiet_each first_tick quiet_tick crashes) (quiet_poll polls));
    }

nobody : {X : Type 0} (x : X) → ◌≡◌ {A = Option X} None (Some x) → ⊥
nobody x e = cc

-- the seats once the first engines were started
pub seated_first : {D E S : Type 0} (peer_of : E → Peer) (a b : AgendaView) (u v : World D E S) (new : QueueView) → a ≡ empty_agenda 0 → ChangesEnginesAlone peer_of a b u v → u.seats.entries ≡ [] → new ≡ queued_all empty_queue 0 b.events → Seated peer_of new.next v.seats.entries
seated_first {D} {E} {S} peer_of a b u v new nothing opened empty put =
    let changes_alone : ChangesEnginesAlone peer_of (empty_agenda 0) b u v = subst (λ x. ChangesEnginesAlone peer_of x b u v) nothing opened in
    let vacant : Seated peer_of (number_after (empty_agenda 0)) u.seats.entries =
    subst (Seated peer_of (number_after (empty_agenda 0))) (sym empty) (λ pk r at. absurd (nobody r at)) in
    let after : new.next ≡ 0 + length b.events = ap (λ (q : QueueView). q.next) put ∙ next_after empty_queue 0 b.events in
    let next : b.next ≡ 0 = changes_alone.changes.adds.next in
    let up : number_after b ≤ new.next = omega arith in
    seated_up peer_of (number_after b) new.next v.seats.entries up (changes_alone.changes.seated vacant)

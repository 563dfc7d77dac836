-- What happens beside the engines' own steps, one thing after another.
use Rattle.std.proofs.Common.{◌≡◌, ◌≤◌, ◌<◌, ◌+◌, ℕ, IsTrue, List, [], ◌∷◌, ◌++◌, Option, Some, length, refl, sym, ap, ◌∙◌, subst, arith, length-append}
use Rattle.std.proofs.lemmas.List.{append-nil, append_assoc}
use Rattle.std.proofs.lemmas.List.Elements.{All-append, All-cons, All-nil}
use Rattle.simulate_parts.specs.Seats.{Starts, running_at, stopped}
use Rattle.simulate_parts.specs.declared.engine.InitContext.{InitContext}
use Rattle.simulate_parts.specs.declared.engine.StepEvent.{StepEvent}
use Rattle.simulate_parts.specs.declared.engine.StepOut.{StepOut}
use Rattle.simulate_parts.specs.declared.peer.Peer.{Peer}
use Rattle.simulate_parts.specs.declared.seats.Start.{Start}
use Rattle.ledger_simulate.specs.Handling.{Adds, ChangesEnginesAlone, Seated, ChangesEngines, Survives, is_quiet, number_after}
use Rattle.ledger_simulate.specs.Queue.{AgendaView}
use Rattle.ledger_simulate.specs.declared.event.Event.{Event}
use Rattle.ledger_simulate.specs.declared.world.World.{World}
use Rattle.ledger_simulate.proofs.Engines.{seated_start, seated_stop, seated_up, survives_start, survives_stop}

-- no event more
pub adds_none : (a b : AgendaView) → b ≡ a → Adds a b
adds_none a b same = record {
  added = [];
  events = ap (λ (x : AgendaView). x.events) same ∙ sym (append-nil a.events);
  next = ap (λ (x : AgendaView). x.next) same;
  quiet = All-nil (λ e. IsTrue (is_quiet e.1));
}

-- one event more
pub adds_one : (a b : AgendaView) (e : ℕ × Event) → b ≡ record a { events = a.events ++ e ∷ [] } → IsTrue (is_quiet e.1) → Adds a b
adds_one a b e made quiet = record {
  added = e ∷ [];
  events = ap (λ (x : AgendaView). x.events) made;
  next = ap (λ (x : AgendaView). x.next) made;
  quiet = All-cons (λ f. IsTrue (is_quiet f.1)) e [] quiet (All-nil (λ f. IsTrue (is_quiet f.1)));
}

pub adds_then : (a b c : AgendaView) → Adds a b → Adds b c → Adds a c
adds_then a b c first second = record {
  added = first.added ++ second.added;
  events = second.events ∙ ap (λ es. es ++ second.added) first.events ∙ append_assoc a.events first.added second.added;
  next = second.next ∙ first.next;
  quiet = All-append (λ e. IsTrue (is_quiet e.1)) first.added second.added first.quiet second.quiet;
}

-- numbers rise
number_up : (a b : AgendaView) → Adds a b → number_after a ≤ number_after b
number_up a b adds =
    let long : length b.events ≡ length a.events + length adds.added = ap length adds.events ∙ length-append a.events adds.added in
    let next : b.next ≡ a.next = adds.next in
    omega arith

module _ {D E S : Type 0} (peer_of : E → Peer) where
  -- no engine was touched
  pub changes_still : (a b : AgendaView) (u v : World D E S) → Adds a b → v.seats.entries ≡ u.seats.entries → v.rules ≡ u.rules → ChangesEngines peer_of a b u v
  changes_still a b u v adds seats rules = record {
    adds = adds;
    kept = λ q r at below. subst (λ ss. running_at ss q ≡ Some r) seats at;
    seated = λ seated. subst (Seated peer_of (number_after b)) (sym seats) (seated_up peer_of (number_after a) (number_after b) u.seats.entries (number_up a b adds) seated);
    rules = rules;
  }

  pub changes_then : (a b c : AgendaView) (u v w : World D E S) → ChangesEngines peer_of a b u v → ChangesEngines peer_of b c v w → ChangesEngines peer_of a c u w
  changes_then a b c u v w first second = record {
    adds = adds_then a b c first.adds second.adds;
    kept = λ q r at below. first.kept q r (second.kept q r at (subst (λ n. r.birth < n) (sym first.adds.next) below)) below;
    seated = λ seated. second.seated (first.seated seated);
    rules = second.rules ∙ first.rules;
  }

  pub changes_alone_still : (a b : AgendaView) (u v : World D E S) → Adds a b → v.seats.entries ≡ u.seats.entries → v.rules ≡ u.rules → v.words ≡ u.words → v.links ≡ u.links → ChangesEnginesAlone peer_of a b u v
  changes_alone_still a b u v adds seats rules words links = record { changes = changes_still a b u v adds seats rules; words = words; links = links }

  -- nothing happened
  pub changes_alone_none : (a : AgendaView) (u : World D E S) → ChangesEnginesAlone peer_of a a u u
  changes_alone_none a u = changes_alone_still a a u u (adds_none a a refl) refl refl refl refl

  pub changes_alone_then : (a b c : AgendaView) (u v w : World D E S) → ChangesEnginesAlone peer_of a b u v → ChangesEnginesAlone peer_of b c v w → ChangesEnginesAlone peer_of a c u w
  changes_alone_then a b c u v w first second = record {
    changes = changes_then a b c u v w first.changes second.changes;
    words = second.words ∙ first.words;
    links = second.links ∙ first.links;
  }

  -- a peer was stopped
  pub changes_alone_stop : (a b : AgendaView) (u v : World D E S) (pk : Peer) → Adds a b → v.seats.entries ≡ stopped u.seats.entries pk → v.rules ≡ u.rules → v.words ≡ u.words → v.links ≡ u.links → ChangesEnginesAlone peer_of a b u v
  changes_alone_stop a b u v pk adds seats rules words links = record {
    changes = record {
      adds = adds;
      kept = subst (Survives a.next u.seats.entries) (sym seats) (survives_stop a.next u.seats.entries pk);
      seated = λ seated. subst (Seated peer_of (number_after b)) (sym seats)
          (seated_stop peer_of (number_after b) u.seats.entries pk (seated_up peer_of (number_after a) (number_after b) u.seats.entries (number_up a b adds) seated));
      rules = rules;
    };
    words = words;
    links = links;
  }

  -- a peer was started under the number of the event that was made
  pub changes_alone_start : (made : InitContext → E × S → Type 0) (journal : Option (E → List (StepEvent × StepOut))) (participants : List Peer) (start : Start) (a b : AgendaView) (e : ℕ × Event) (u v : World D E S) → Starts peer_of made journal participants start u.seats.entries v.seats.entries → start.birth ≡ number_after a → b ≡ record a { events = a.events ++ e ∷ [] } → IsTrue (is_quiet e.1) → v.rules ≡ u.rules → v.words ≡ u.words → v.links ≡ u.links → ChangesEnginesAlone peer_of a b u v
  changes_alone_start made journal participants start a b e u v started birth put quiet rules words links =
      let long : length b.events ≡ length a.events + 1 = ap (λ (x : AgendaView). length x.events) put ∙ length-append a.events (e ∷ []) in
      let next : b.next ≡ a.next = ap (λ (x : AgendaView). x.next) put in
      let above : a.next ≤ start.birth = omega arith in
      let inside : start.birth < number_after b = omega arith in
      let up : number_after a ≤ number_after b = omega arith in
      record {
        changes = record {
          adds = adds_one a b e put quiet;
          kept = survives_start peer_of made journal participants start a.next u.seats.entries v.seats.entries started above;
          seated = seated_start peer_of made journal participants start (number_after a) (number_after b) u.seats.entries v.seats.entries started inside up;
          rules = rules;
        };
        words = words;
        links = links;
      }

  -- beside changes that touch no engine
  pub changes_from : (a b : AgendaView) (u w v : World D E S) → w.seats.entries ≡ u.seats.entries → w.rules ≡ u.rules → ChangesEngines peer_of a b w v → ChangesEngines peer_of a b u v
  changes_from a b u w v seats rules changes = changes_then a a b u w v (changes_still a a u w (adds_none a a refl) seats rules) changes

  pub changes_alone_from : (a b : AgendaView) (u w v : World D E S) → w.seats.entries ≡ u.seats.entries → w.rules ≡ u.rules → w.words ≡ u.words → w.links ≡ u.links → ChangesEnginesAlone peer_of a b w v → ChangesEnginesAlone peer_of a b u v
  changes_alone_from a b u w v seats rules words links changes_alone =
      changes_alone_then a a b u w v (changes_alone_still a a u w (adds_none a a refl) seats rules words links) changes_alone

  pub changes_alone_to : (a b : AgendaView) (u v w : World D E S) → w.seats.entries ≡ v.seats.entries → w.rules ≡ v.rules → w.words ≡ v.words → w.links ≡ v.links → ChangesEnginesAlone peer_of a b u v → ChangesEnginesAlone peer_of a b u w
  changes_alone_to a b u v w seats rules words links changes_alone =
      changes_alone_then a b b u v w changes_alone (changes_alone_still b b v w (adds_none b b refl) seats rules words links)

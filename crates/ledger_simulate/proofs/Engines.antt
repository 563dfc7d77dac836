-- Engines that are started, stopped and stepped.
use Rattle.std.proofs.Common.{◌≡◌, ◌≤◌, ◌<◌, ◌+◌, ◌-◌, ◌^◌, min, ℕ, Bool, true, false, cond, All, List, [], ◌∷◌, Option, Some, None, refl, sym, ap, ◌∙◌, subst, arith, Ordering, option_map, option_and_then}
use Rattle.std.specs.Option.{option_map_or}
use Rattle.std.specs.Ordering.{is_eq}
use Rattle.std.specs.Map.{lookup, set_value}
use Rattle.std.specs.BTreeMap.{insert_entry, is_at}
use Rattle.simulate_parts.specs.Engine.{Passes, updates_of}
use Rattle.simulate_parts.specs.Seats.{Starts, Steps, running_at, starts_in, stopped}
use Rattle.simulate_parts.specs.Tracker.{peer_cmp}
use Rattle.simulate_parts.specs.declared.engine.InitContext.{InitContext}
use Rattle.simulate_parts.specs.declared.engine.StepEvent.{StepEvent}
use Rattle.simulate_parts.specs.declared.engine.StepOut.{StepOut}
use Rattle.simulate_parts.specs.declared.peer.Peer.{Peer}
use Rattle.simulate_parts.specs.declared.seats.Running.{Running}
use Rattle.simulate_parts.specs.declared.seats.Seat.{Seat}
use Rattle.simulate_parts.specs.declared.seats.Start.{Start}
use Rattle.simulate_parts.specs.declared.tracker.FinalizationUpdate.{FinalizationUpdate}
use Rattle.simulate_parts.proofs.Lookups.{Exact, exact_peers, lookup_beside, lookup_put}
use Rattle.ledger_simulate.specs.Handling.{Seated, Survives}

-- the value that was set at a key, and what is at another one
lookup_set_here : {K X : Type 0} (cmp : K → K → Ordering) (es : List (K × X)) (k : K) (w : X) → lookup (is_at (cmp k)) (set_value (is_at (cmp k)) es w) ≡ option_map (λ _. w) (lookup (is_at (cmp k)) es)
lookup_set_here cmp [] k w = refl
lookup_set_here {K} {X} cmp (e ∷ es) k w =
    here (lookup_set_here cmp es k w) (is_eq (cmp k e.0)) refl
  where
    here : lookup (is_at (cmp k)) (set_value (is_at (cmp k)) es w) ≡ option_map (λ _. w) (lookup (is_at (cmp k)) es) → (b : Bool) → is_eq (cmp k e.0) ≡ b → lookup (is_at (cmp k)) (cond b ((e.0, w) ∷ es) (e ∷ set_value (is_at (cmp k)) es w)) ≡ option_map (λ _. w) (lookup (is_at (cmp k)) (e ∷ es))
    here rest true h = rw h refl
    here rest false h = rw h rest

lookup_set_beside : {K X : Type 0} (cmp : K → K → Ordering) → Exact cmp → (es : List (K × X)) (k q : K) (w : X) → is_eq (cmp q k) ≡ false → lookup (is_at (cmp q)) (set_value (is_at (cmp k)) es w) ≡ lookup (is_at (cmp q)) es
lookup_set_beside cmp exact [] k q w apart = refl
lookup_set_beside {K} {X} cmp exact (e ∷ es) k q w apart =
    beside (lookup_set_beside cmp exact es k q w apart) (is_eq (cmp k e.0)) refl
  where
    beside : lookup (is_at (cmp q)) (set_value (is_at (cmp k)) es w) ≡ lookup (is_at (cmp q)) es → (b : Bool) → is_eq (cmp k e.0) ≡ b → lookup (is_at (cmp q)) (cond b ((e.0, w) ∷ es) (e ∷ set_value (is_at (cmp k)) es w)) ≡ lookup (is_at (cmp q)) (e ∷ es)
    beside rest true h =
        let key : k ≡ e.0 = exact.same k e.0 h in
        let off : is_eq (cmp q e.0) ≡ false = subst (λ x. is_eq (cmp q x) ≡ false) key apart in
        rw off refl
    beside rest false h = ap (λ r. cond (is_eq (cmp q e.0)) (Some e.1) r) rest

same_engine : {X : Type 0} (x y : X) → Some x ≡ Some y → x ≡ y
same_engine x y e = cc

none_runs : {X : Type 0} (x : X) → ◌≡◌ {A = Option X} None (Some x) → ⊥
none_runs x e = cc

-- the engine at a peer whose seat was put, and at another one
running_put : {D E S : Type 0} (old : List (Peer × Seat D E S)) (k q : Peer) (seat : Seat D E S) → q ≡ k → running_at (insert_entry peer_cmp old k seat) q ≡ seat.running
running_put {D} {E} {S} old k q seat same =
    ap (running_at (insert_entry peer_cmp old k seat)) same
    ∙ ap (option_and_then (λ (s : Seat D E S). s.running)) (lookup_put peer_cmp exact_peers old k seat)

running_beside : {D E S : Type 0} (old : List (Peer × Seat D E S)) (k q : Peer) (seat : Seat D E S) → is_eq (peer_cmp q k) ≡ false → running_at (insert_entry peer_cmp old k seat) q ≡ running_at old q
running_beside {D} {E} {S} old k q seat apart =
    ap (option_and_then (λ (s : Seat D E S). s.running)) (lookup_beside peer_cmp exact_peers old k q seat apart)

-- the engine at a peer whose seat was set, and at another one
running_set : {D E S : Type 0} (old : List (Peer × Seat D E S)) (k q : Peer) (seat was : Seat D E S) → q ≡ k → lookup (is_at (peer_cmp k)) old ≡ Some was → running_at (set_value (is_at (peer_cmp k)) old seat) q ≡ seat.running
running_set {D} {E} {S} old k q seat was same there =
    ap (running_at (set_value (is_at (peer_cmp k)) old seat)) same
    ∙ ap (option_and_then (λ (s : Seat D E S). s.running)) (lookup_set_here peer_cmp old k seat ∙ ap (option_map (λ _. seat)) there)

running_set_beside : {D E S : Type 0} (old : List (Peer × Seat D E S)) (k q : Peer) (seat : Seat D E S) → is_eq (peer_cmp q k) ≡ false → running_at (set_value (is_at (peer_cmp k)) old seat) q ≡ running_at old q
running_set_beside {D} {E} {S} old k q seat apart =
    ap (option_and_then (λ (s : Seat D E S). s.running)) (lookup_set_beside peer_cmp exact_peers old k q seat apart)

-- after a peer was stopped, who runs ran before
pub running_stopped : {D E S : Type 0} (seats : List (Peer × Seat D E S)) (k q : Peer) (r : Running D E S) → running_at (stopped seats k) q ≡ Some r → running_at seats q ≡ Some r
running_stopped {D} {E} {S} seats k q r at =
    by_seat (lookup (is_at (peer_cmp k)) seats) refl at
  where
    by_peer : (s : Seat D E S) → lookup (is_at (peer_cmp k)) seats ≡ Some s → (b : Bool) → is_eq (peer_cmp q k) ≡ b → running_at (set_value (is_at (peer_cmp k)) seats (record s { running = None })) q ≡ Some r → running_at seats q ≡ Some r
    by_peer s there true h now =
        absurd (none_runs r (sym (running_set seats k q (record s { running = None }) s (exact_peers.same q k h) there) ∙ now))
    by_peer s there false h now = sym (running_set_beside seats k q (record s { running = None }) h) ∙ now

    by_seat : (o : Option (Seat D E S)) → lookup (is_at (peer_cmp k)) seats ≡ o → running_at (option_map_or (λ s. set_value (is_at (peer_cmp k)) seats (record s { running = None })) o seats) q ≡ Some r → running_at seats q ≡ Some r
    by_seat None there now = now
    by_seat (Some s) there now = by_peer s there (is_eq (peer_cmp q k)) refl now

pub survives_stop : {D E S : Type 0} (n : ℕ) (seats : List (Peer × Seat D E S)) (k : Peer) → Survives n seats (stopped seats k)
survives_stop n seats k = λ q r at below. running_stopped seats k q r at

-- the seat of a peer after a start
abbrev started_seat : {D E S : Type 0} → List (Peer × Seat D E S) → Peer → Running D E S → Seat D E S
started_seat old pk running = record { starts = min (starts_in (lookup (is_at (peer_cmp pk)) old) + 1) (2 ^ 32 - 1); running = Some running }

-- an engine that was started under a number not below this one
pub survives_start : {D E S : Type 0} (peer_of : E → Peer) (made : InitContext → E × S → Type 0) (journal : Option (E → List (StepEvent × StepOut))) (participants : List Peer) (start : Start) (n : ℕ) (old new : List (Peer × Seat D E S)) → Starts peer_of made journal participants start old new → n ≤ start.birth → Survives n old new
survives_start {D} {E} {S} peer_of made journal participants start n old new started above =
    subst (Survives n old) (sym started.put) (λ q r at below. by_peer q r below (is_eq (peer_cmp q start.pk)) refl at)
  where
    by_peer : (q : Peer) (r : Running D E S) → r.birth < n → (b : Bool) → is_eq (peer_cmp q start.pk) ≡ b → running_at (insert_entry peer_cmp old start.pk (started_seat old start.pk started.running)) q ≡ Some r → running_at old q ≡ Some r
    by_peer q r below true h at =
        let same : started.running ≡ r = same_engine started.running r (sym (running_put old start.pk q (started_seat old start.pk started.running) (exact_peers.same q start.pk h)) ∙ at) in
        let birth : r.birth ≡ start.birth = sym (ap (λ (x : Running D E S). x.birth) same) ∙ started.birth in
        absurd (omega arith)
    by_peer q r below false h at = sym (running_beside old start.pk q (started_seat old start.pk started.running) h) ∙ at

-- seats are in order under a greater number too
pub seated_up : {D E S : Type 0} (peer_of : E → Peer) (n m : ℕ) (seats : List (Peer × Seat D E S)) → n ≤ m → Seated peer_of n seats → Seated peer_of m seats
seated_up peer_of n m seats up seated = λ q r at.
    let both = seated q r at in
    let below : r.birth < n = both.1 in
    (both.0, omega arith)

pub seated_start : {D E S : Type 0} (peer_of : E → Peer) (made : InitContext → E × S → Type 0) (journal : Option (E → List (StepEvent × StepOut))) (participants : List Peer) (start : Start) (n m : ℕ) (old new : List (Peer × Seat D E S)) → Starts peer_of made journal participants start old new → start.birth < m → n ≤ m → Seated peer_of n old → Seated peer_of m new
seated_start {D} {E} {S} peer_of made journal participants start n m old new started inside up seated =
    subst (Seated peer_of m) (sym started.put) (λ q r at. by_peer q r (is_eq (peer_cmp q start.pk)) refl at)
  where
    by_peer : (q : Peer) (r : Running D E S) (b : Bool) → is_eq (peer_cmp q start.pk) ≡ b → running_at (insert_entry peer_cmp old start.pk (started_seat old start.pk started.running)) q ≡ Some r → (peer_of r.engine ≡ q) × (r.birth < m)
    by_peer q r true h at =
        let peer : q ≡ start.pk = exact_peers.same q start.pk h in
        let same : started.running ≡ r = same_engine started.running r (sym (running_put old start.pk q (started_seat old start.pk started.running) peer) ∙ at) in
        let birth : r.birth ≡ start.birth = sym (ap (λ (x : Running D E S). x.birth) same) ∙ started.birth in
        (sym (ap (λ (x : Running D E S). peer_of x.engine) same) ∙ started.peer ∙ sym peer, omega arith)
    by_peer q r false h at =
        seated_up peer_of n m old up seated q r (sym (running_beside old start.pk q (started_seat old start.pk started.running) h) ∙ at)

pub seated_stop : {D E S : Type 0} (peer_of : E → Peer) (n : ℕ) (seats : List (Peer × Seat D E S)) (k : Peer) → Seated peer_of n seats → Seated peer_of n (stopped seats k)
seated_stop peer_of n seats k seated = λ q r at. seated q r (running_stopped seats k q r at)

-- the engine that takes a step ran before
stepping : {D E S : Type 0} (peer_of : E → Peer) (journal : Option (E → List (StepEvent × StepOut))) (reports : Option (FinalizationUpdate → Bool)) (pk : Peer) (event : StepEvent) (out : StepOut) (old new : List (Peer × Seat D E S)) (steps : Steps peer_of journal reports pk event out old new) → running_at old pk ≡ Some steps.step.before
stepping {D} {E} {S} peer_of journal reports pk event out old new steps =
    ap (option_and_then (λ (s : Seat D E S). s.running)) steps.there ∙ steps.step.ran

pub seated_step : {D E S : Type 0} (peer_of : E → Peer) (journal : Option (E → List (StepEvent × StepOut))) (reports : Option (FinalizationUpdate → Bool)) (pk : Peer) (event : StepEvent) (out : StepOut) (n : ℕ) (old new : List (Peer × Seat D E S)) → Steps peer_of journal reports pk event out old new → Seated peer_of n old → Seated peer_of n new
seated_step {D} {E} {S} peer_of journal reports pk event out n old new steps seated =
    subst (Seated peer_of n) (sym steps.put) (λ q r at. by_peer q r (is_eq (peer_cmp q pk)) refl at)
  where
    by_peer : (q : Peer) (r : Running D E S) (b : Bool) → is_eq (peer_cmp q pk) ≡ b → running_at (set_value (is_at (peer_cmp pk)) old steps.after) q ≡ Some r → (peer_of r.engine ≡ q) × (r.birth < n)
    by_peer q r true h at =
        let peer : q ≡ pk = exact_peers.same q pk h in
        let left : steps.after.running ≡ Some steps.step.after = ap (λ (s : Seat D E S). s.running) steps.step.put in
        let same : steps.step.after ≡ r = same_engine steps.step.after r (sym left ∙ sym (running_set old pk q steps.after steps.seat peer steps.there) ∙ at) in
        let both = seated pk steps.step.before (stepping peer_of journal reports pk event out old new steps) in
        let under : steps.step.before.birth < n = both.1 in
        let birth : r.birth ≡ steps.step.before.birth = sym (ap (λ (x : Running D E S). x.birth) same) ∙ steps.step.birth in
        (sym (ap (λ (x : Running D E S). peer_of x.engine) same) ∙ steps.step.peer ∙ both.0 ∙ sym peer, omega arith)
    by_peer q r false h at = seated q r (sym (running_set_beside old pk q steps.after h) ∙ at)

-- what a peer's engine reports passes the test
pub passes_step : {D E S : Type 0} (peer_of : E → Peer) (journal : Option (E → List (StepEvent × StepOut))) (reports : Option (FinalizationUpdate → Bool)) (pk : Peer) (event : StepEvent) (out : StepOut) (n : ℕ) (old new : List (Peer × Seat D E S)) → Steps peer_of journal reports pk event out old new → Seated peer_of n old → All (Passes reports) (updates_of pk out.finalized)
passes_step peer_of journal reports pk event out n old new steps seated =
    let peer = (seated pk steps.step.before (stepping peer_of journal reports pk event out old new steps)).0 in
    subst (λ p. All (Passes reports) (updates_of p out.finalized)) peer steps.step.passes

-- Which engines run, and what a start, a stop and a step do to them.
use Rattle.std.specs.Prelude.{◌≡◌, ℕ, ◌+◌, ◌-◌, ◌^◌, ◌==◌, min, Bool, false, List, [], ◌∷◌, ◌++◌, Option, Some, None, All, IfSome, is_some, option_map, option_and_then, filter_map, map}
use Rattle.std.specs.Option.{option_map_or}
use Rattle.std.specs.Map.{lookup, set_value}
use Rattle.std.specs.BTreeMap.{insert_entry, is_at}
use Rattle.simulate_parts.specs.Engine.{Passes, updates_of}
use Rattle.simulate_parts.specs.Tracker.{peer_cmp}
use Rattle.simulate_parts.specs.declared.peer.Peer.{Peer}
use Rattle.simulate_parts.specs.declared.engine.InitContext.{InitContext}
use Rattle.simulate_parts.specs.declared.engine.StateView.{StateView}
use Rattle.simulate_parts.specs.declared.engine.StepEvent.{StepEvent}
use Rattle.simulate_parts.specs.declared.engine.StepOut.{StepOut}
use Rattle.simulate_parts.specs.declared.tracker.FinalizationUpdate.{FinalizationUpdate}
use Rattle.simulate_parts.specs.declared.seats.Running.{Running}
use Rattle.simulate_parts.specs.declared.seats.Seat.{Seat}
use Rattle.simulate_parts.specs.declared.seats.Start.{Start}

-- how often the peer of a seat was started
abbrev pub starts_in : {D E S : Type 0} → Option (Seat D E S) → ℕ
starts_in seat = option_map_or (λ s. s.starts) seat 0

-- the engine of a peer, where it runs
abbrev pub running_at : {D E S : Type 0} → List (Peer × Seat D E S) → Peer → Option (Running D E S)
running_at seats pk = option_and_then (λ s. s.running) (lookup (is_at (peer_cmp pk)) seats)

-- the peer runs
abbrev pub runs : {D E S : Type 0} → List (Peer × Seat D E S) → Peer → Bool
runs seats pk = is_some (running_at seats pk)

-- the engine of the peer that was started under this number runs
abbrev pub runs_since : {D E S : Type 0} → List (Peer × Seat D E S) → Peer → ℕ → Bool
runs_since seats pk birth = option_map_or (λ r. r.birth == birth) (running_at seats pk) false

-- the seats after the peer was stopped
abbrev pub stopped : {D E S : Type 0} → List (Peer × Seat D E S) → Peer → List (Peer × Seat D E S)
stopped seats pk =
    option_map_or (λ s. set_value (is_at (peer_cmp pk)) seats (record s { running = None })) (lookup (is_at (peer_cmp pk)) seats) seats

-- what `init` is told at a start
abbrev pub context_of : {D E S : Type 0} → List Peer → Start → List (Peer × Seat D E S) → InitContext
context_of participants start seats = record {
  index = start.index;
  delayed = start.delayed;
  restart = starts_in (lookup (is_at (peer_cmp start.pk)) seats);
  public_key = start.pk;
  participants = participants;
  fault = start.fault;
}

-- the peer has a new engine and its state, which one `init` made of the start's context
pub record Starts {D E S : Type 0} (peer_of : E → Peer) (made : InitContext → E × S → Type 0) (journal : Option (E → List (StepEvent × StepOut))) (participants : List Peer) (start : Start) (old new : List (Peer × Seat D E S)) : Type 0 where
  pub running : Running D E S
  pub put : new ≡ insert_entry peer_cmp old start.pk (record { starts = min (starts_in (lookup (is_at (peer_cmp start.pk)) old) + 1) (2 ^ 32 - 1); running = Some running })
  pub birth : running.birth ≡ start.birth
  pub peer : peer_of running.engine ≡ start.pk
  pub made_of : made (context_of participants start old) (running.engine, running.state)
  pub told : IfSome journal (λ j. j running.engine ≡ [])

-- the engine of a seat took a step: its journal has grown by this event and what it
-- gave, and each block that it reports passes the test
pub record StepsSeat {D E S : Type 0} (peer_of : E → Peer) (journal : Option (E → List (StepEvent × StepOut))) (reports : Option (FinalizationUpdate → Bool)) (event : StepEvent) (out : StepOut) (old new : Seat D E S) : Type 0 where
  pub before : Running D E S
  pub after : Running D E S
  pub ran : old.running ≡ Some before
  pub put : new ≡ record old { running = Some after }
  pub birth : after.birth ≡ before.birth
  pub peer : peer_of after.engine ≡ peer_of before.engine
  pub told : IfSome journal (λ j. j after.engine ≡ j before.engine ++ (event, out) ∷ [])
  pub passes : All (Passes reports) (updates_of (peer_of before.engine) out.finalized)

-- the peer's engine took a step
pub record Steps {D E S : Type 0} (peer_of : E → Peer) (journal : Option (E → List (StepEvent × StepOut))) (reports : Option (FinalizationUpdate → Bool)) (pk : Peer) (event : StepEvent) (out : StepOut) (old new : List (Peer × Seat D E S)) : Type 0 where
  pub seat : Seat D E S
  pub after : Seat D E S
  pub there : lookup (is_at (peer_cmp pk)) old ≡ Some seat
  pub put : new ≡ set_value (is_at (peer_cmp pk)) old after
  pub step : StepsSeat peer_of journal reports event out seat after

-- the peer of an entry, where it runs
abbrev pub key_of : {D E S : Type 0} → Peer × Seat D E S → Option Peer
key_of e = option_map (λ r. e.0) e.1.running

-- the peers that run, in ascending order
abbrev pub active_peers : {D E S : Type 0} → List (Peer × Seat D E S) → List Peer
active_peers seats = filter_map key_of seats

-- how checks see the state of a seat's engine, where it runs
abbrev pub view_of : {D E S : Type 0} → (S → ℕ) → (S → List ℕ) → Seat D E S → Option StateView
view_of height shown s = option_map (λ r. record { height = height r.state; shown = shown r.state }) s.running

-- how checks see the states of the engines that run, in ascending order of peers
abbrev pub active_views : {D E S : Type 0} → (S → ℕ) → (S → List ℕ) → List (Peer × Seat D E S) → List StateView
active_views height shown seats = filter_map (view_of height shown) (map (λ e. e.1) seats)

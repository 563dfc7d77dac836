-- What a team is, and what a start of it does.
use Rattle.std.specs.Prelude.{◌≡◌, ℕ, ◌==◌, Bool, false, not, List, [], ◌∷◌, Option, filter, unwrap_or, position}
use Rattle.std.specs.List.{list_any}
use Rattle.simulate_parts.specs.Seats.{Starts}
use Rattle.simulate_parts.specs.declared.engine.InitContext.{InitContext}
use Rattle.simulate_parts.specs.declared.engine.StepEvent.{StepEvent}
use Rattle.simulate_parts.specs.declared.engine.StepOut.{StepOut}
use Rattle.simulate_parts.specs.declared.peer.Peer.{Peer}
use Rattle.simulate_parts.specs.declared.link.FaultConfig.{FaultConfig}
use Rattle.simulate_parts.specs.declared.seats.Seat.{Seat}
use Rattle.simulate_parts.specs.declared.seats.Start.{Start}
use Rattle.simulate_parts.specs.declared.team.Team.{Team}

-- the participants, in their order
abbrev pub participants_of : {D E S : Type 0} → Team D E S → List Peer
participants_of team = team.participants.items

-- the peers that were started, in ascending order
abbrev pub seats_of : {D E S : Type 0} → Team D E S → List (Peer × Seat D E S)
seats_of team = team.seats.entries

-- how the team's engines are made and stepped
abbrev pub definition_of : {D E S : Type 0} → Team D E S → D
definition_of team = team.definition

-- the place of a peer among the participants, 0 where it is none
abbrev pub place_of : List Peer → Peer → ℕ
place_of participants pk = unwrap_or (position (λ peer. peer.0 == pk.0) participants) 0

-- a start of a participant of a team, whose engines aren't told apart by numbers
abbrev pub start_of : List Peer → Bool → FaultConfig → Peer → Start
start_of participants delayed fault pk = record { pk = pk; index = place_of participants pk; delayed = delayed; fault = fault; birth = 0 }

-- the peer is among these
abbrev pub names : List Peer → Peer → Bool
names peers pk = list_any (λ peer. peer.0 == pk.0) peers

-- those participants that aren't delayed
abbrev pub others : List Peer → List Peer → List Peer
others delayed participants = filter (λ p. not (names delayed p)) participants

-- these participants are started one after the other
abbrev pub StartsAll : {D E S : Type 0} → (E → Peer) → (InitContext → E × S → Type 0) → Option (E → List (StepEvent × StepOut)) → List Peer → FaultConfig → List Peer → List (Peer × Seat D E S) → List (Peer × Seat D E S) → Type 0
StartsAll peer_of made journal participants fault [] old new = new ≡ old
StartsAll {D} {E} {S} peer_of made journal participants fault (p ∷ ps) old new =
    (mid : List (Peer × Seat D E S)) × Starts peer_of made journal participants (start_of participants false fault p) old mid × StartsAll peer_of made journal participants fault ps mid new

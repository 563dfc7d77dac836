-- What becomes of the timers and messages that an engine gives.
use Rattle.std.specs.Prelude.{ℕ, ◌==◌, Bool, false, not, List, [], ◌∷◌, ◌++◌, Option, Some, None, length, map, nat_lt, if◌then◌else◌}
use Rattle.std.specs.List.{list_any}
use Rattle.rand_pcg.specs.Lcg.{Lcg}
use Rattle.simulate_parts.specs.Draw.{drawn}
use Rattle.simulate_parts.specs.declared.link.SimLink.{SimLink}
use Rattle.simulate_parts.specs.declared.peer.Peer.{Peer}
use Rattle.ledger_simulate.specs.declared.event.Event.{Event}
use Rattle.ledger_simulate.specs.declared.event.Event.TheVariants.{Timer, Received}

-- the timers of an engine, in the order of their delays
abbrev pub timers_of : Peer → ℕ → List ℕ → List (ℕ × Event)
timers_of pk birth delays = map (λ d. (d, Timer pk birth)) delays

-- the message is carried: it isn't above the greatest size, its channel is known, and its receiver is
-- another peer that runs
abbrev pub lets_through : ℕ → List ℕ → (Peer → Bool) → Peer → Peer × ℕ × List ℕ → Bool
lets_through max_size channels runs from m =
    if nat_lt max_size (length m.2) then false
    else (if list_any (λ c. c == m.1) channels then (if runs m.0 then not (m.0.0 == from.0) else false) else false)

-- the message as it arrives after this delay, or not at all
abbrev pub arrival : Peer → Peer × ℕ × List ℕ → Option ℕ → List (ℕ × Event)
arrival from m None = []
arrival from m (Some delay) = (delay, Received from m.0 m.1 m.2) ∷ []

-- one message, and the generator afterwards, of which a message that isn't carried takes no word
unfoldable pub sent : (Peer × ℕ × List ℕ → Bool) → (Peer → SimLink) → Lcg → Peer → Peer × ℕ × List ℕ → List (ℕ × Event) × Lcg
sent carried link words from m =
    if carried m then (arrival from m (drawn words (link m.0)).0, (drawn words (link m.0)).1) else ([], words)

-- the messages of an engine, in order, and the generator afterwards
abbrev pub delivered : (Peer × ℕ × List ℕ → Bool) → (Peer → SimLink) → Lcg → Peer → List (Peer × ℕ × List ℕ) → List (ℕ × Event) × Lcg
delivered carried link words from [] = ([], words)
delivered carried link words from (m ∷ ms) = (
  (sent carried link words from m).0 ++ (delivered carried link (sent carried link words from m).1 from ms).0,
  (delivered carried link (sent carried link words from m).1 from ms).1,
)

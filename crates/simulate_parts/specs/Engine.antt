-- What engines are told and give.
use Rattle.std.specs.Prelude.{ℕ, Bool, true, ◌==◌, ◌&&◌, List, [], ◌∷◌, Option, IfSome, IsTrue, map, not}
use Rattle.std.specs.List.{list_any}
use Rattle.simulate_parts.specs.declared.peer.Peer.{Peer}
use Rattle.simulate_parts.specs.declared.peer.Round.{Round}
use Rattle.simulate_parts.specs.declared.engine.StepOut.{StepOut}
use Rattle.simulate_parts.specs.declared.tracker.FinalizationUpdate.{FinalizationUpdate}

-- whether no two of these peers are equal
abbrev pub all_distinct : List Peer → Bool
all_distinct [] = true
all_distinct (p ∷ ps) = not (list_any (λ q. q.0 == p.0) ps) && all_distinct ps

-- no two of these peers are equal
abbrev pub DistinctPeers : List Peer → Type 0
DistinctPeers ps = IsTrue (all_distinct ps)

-- an output of nothing
abbrev pub no_output : StepOut
no_output = record { timers = []; messages = []; finalized = [] }

-- the report of a peer that a block is final
abbrev pub update_of : Peer → Round × ℕ × List ℕ → FinalizationUpdate
update_of pk block = record { pk = pk; round = block.0; height = block.1; block_digest = block.2 }

-- the reports that an output holds
abbrev pub updates_of : Peer → List (Round × ℕ × List ℕ) → List FinalizationUpdate
updates_of pk blocks = map (update_of pk) blocks

-- a report passes the test, where one is told
abbrev pub Passes : Option (FinalizationUpdate → Bool) → FinalizationUpdate → Type 0
Passes test u = IfSome test (λ p. IsTrue (p u))

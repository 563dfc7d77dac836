-- How contracts see a tracker.
use Rattle.std.specs.Prelude.{ℕ, List}
use Rattle.simulate_parts.specs.declared.peer.Peer.{Peer}
use Rattle.simulate_parts.specs.declared.peer.Round.{Round}

-- three finite maps, each as its entries in ascending order of keys: the digest per height, the digests
-- per round and the round per validator
pub record TrackerView : Type 0 where
  pub heights : List (ℕ × List ℕ)
  pub rounds : List (Round × List (List ℕ))
  pub validators : List (Peer × Round)

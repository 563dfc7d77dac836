-- The part that the kept pieces make.
use Rattle.std.specs.Prelude.{◌≡◌, ℕ, ◌-◌, ◌≤◌, List, length, take, drop, map, All, flat_map, count_ones, Result, Ok, Err}
use Rattle.std.specs.List.Sorted.{IsPermutation, IsNonDecreasingBy}
use Rattle.sha2.specs.Sha256.{sha256}
use Rattle.ledger_merkle.specs.Leaves.{ListView, leaves_from}
use Rattle.ledger_merkle.specs.Tree.{part_root}
use Rattle.ledger_merkle.specs.declared.proof.Part.{Part as Fetched}
use Rattle.ledger_log.specs.declared.target.Target.{Target}
use Rattle.sync_client.specs.declared.collector.Piece.{Piece}
use Rattle.sync_client.specs.declared.hashed.HashedPart.{HashedPart}
use Rattle.sync_client.specs.Tiles.{size_of_pieces}

-- a piece stands in these operations at its place
abbrev pub Stands : {Op : Type 0} → ℕ → List Op → Piece Op → Type 0
Stands start ops p = (start ≤ p.at) × (take (length p.ops) (drop (p.at - start) ops) ≡ p.ops)

-- these operations are the kept ones, each at its place
abbrev pub Assembles : {Op : Type 0} → ℕ → List (Piece Op) → List Op → Type 0
Assembles start kept ops = (length ops ≡ size_of_pieces kept) × All (Stands start ops) kept

-- the operations of the pieces, sorted by their places, one after the other
abbrev pub IsJoined : {Op : Type 0} → List (Piece Op) → List Op → Type 0
IsJoined {Op} kept ops = (sorted : List (Piece Op)) × IsPermutation kept sorted × IsNonDecreasingBy (λ (p : Piece Op). p.at) sorted × (ops ≡ flat_map (λ (p : Piece Op). p.ops) sorted)

-- pinned nodes with the leaves of the items behind them
abbrev pub leaves_behind : (List ℕ → List ℕ) → List (List ℕ) → ℕ → List (List ℕ) → ListView
leaves_behind hash nodes start items = record { front = start; pinned = nodes; leaves = leaves_from hash start items }

-- the leaves are those of the part
abbrev pub IsHashed : {Op : Type 0} → (Op → List ℕ) → HashedPart Op → Type 0
IsHashed spelling h = h.list ≡ leaves_behind sha256 h.part.pinned h.part.start (map spelling h.part.ops)

-- an answer without the leaves
abbrev pub part_of : {Op E : Type 0} → Result (HashedPart Op) E → Result (Fetched Op) E
part_of (Ok h) = Ok h.part
part_of (Err e) = Err e

-- the same beside the target that was synced
abbrev pub synced_part : {Op E : Type 0} → Result (Target × HashedPart Op) E → Result (Target × Fetched Op) E
synced_part (Ok x) = Ok (x.0, x.1.part)
synced_part (Err e) = Err e

-- a part of the target: its range, with the pinned nodes before it, and its root
pub record IsPartOf {Op : Type 0} (spelling : Op → List ℕ) (target : Target) (part : Fetched Op) : Type 0 where
  pub start : part.start ≡ target.start
  pub count : length part.ops ≡ target.end - target.start
  pub nodes : length part.pinned ≡ count_ones target.start
  pub root : part_root sha256 part.pinned part.start (map spelling part.ops) ≡ target.root

-- What is asked next, and which answers are kept.
use Rattle.std.specs.Prelude.{ℕ, ◌+◌, ◌-◌, min, Bool, true, false, ◌&&◌, List, [], ◌∷◌, length, map, Option, Some, None, nat_lt, nat_le, ◌==◌, if◌then◌else◌, remove, count_ones, bytes_eq}
use Rattle.std.specs.declared.ops.Range.{Range}
use Rattle.ledger_merkle.specs.Range.{needed, range_root}
use Rattle.ledger_merkle.specs.declared.proof.Proof.{Proof}
use Rattle.ledger_log.specs.declared.target.Target.{Target}
use Rattle.sync_net.specs.declared.response.GetOperationsResponse.{GetOperationsResponse}

-- how many operations are asked at once, and how many asks are pending at most
pub record LimitsView : Type 0 where
  pub batch : ℕ
  pub outstanding : ℕ

-- What is fetched, and how. The target is the first one, until a later one is taken: then it has the first start, and the later one's root and end. The start of the target that was taken last stands beside it, and how many later ones were taken.
pub record Plan : Type 0 where
  pub target : Target
  pub limits : LimitsView
  pub low : ℕ
  pub taken : ℕ

-- no later target was taken
abbrev pub first_plan : Target → LimitsView → Plan
first_plan target limits = record { target = target; limits = limits; low = target.start; taken = 0 }

-- ---- asks

-- the end of the batch from here on
abbrev pub batch_end : Plan → ℕ → ℕ
batch_end plan at = min (at + plan.limits.batch) plan.target.end

-- the range that is asked next, and what is then left to ask: first the rests, then a new batch
abbrev pub range_next : Plan → List (Range ℕ) → ℕ → Option (Range ℕ × List (Range ℕ) × ℕ)
range_next plan (r ∷ rests) fresh = Some (r, rests, fresh)
range_next plan [] fresh = if nat_lt fresh plan.target.end then Some (record { start = fresh; end = batch_end plan fresh }, [], batch_end plan fresh) else None

-- ---- answers

-- without what stands at this place
abbrev pub without_at : {X : Type 0} → Option ℕ → List X → List X
without_at None xs = xs
without_at (Some i) xs = remove xs i

-- what of a range is left after so many operations
abbrev pub rest_of : Range ℕ → ℕ → List (Range ℕ)
rest_of r n = if nat_lt (r.start + n) r.end then record { start = r.start + n; end = r.end } ∷ [] else []

-- so many pinned nodes are there
abbrev pub nodes_good : ℕ → Option (List (List ℕ)) → Bool
nodes_good count None = false
nodes_good count (Some nodes) = length nodes == count

-- the pinned nodes of an answer
abbrev pub nodes_of : Option (List (List ℕ)) → List (List ℕ)
nodes_of None = []
nodes_of (Some nodes) = nodes

-- an answer to a range from the start on has the pinned nodes
abbrev pub pinned_good : ℕ → Range ℕ → Option (List (List ℕ)) → Bool
pinned_good start r nodes = if r.start == start then nodes_good (count_ones start) nodes else true

-- how a proof of operations from a place on is judged
abbrev pub Judge : Type 0 → Type 0
Judge Op = Proof → ℕ → List Op → Bool

-- whether an answer to a range is kept, where the part begins at start: at least one operation and no more than were asked, with a proof, and with the pinned nodes where they were asked
unfoldable pub good : {Op : Type 0} → Judge Op → ℕ → Range ℕ → GetOperationsResponse Op → Bool
good proved start r m = nat_lt 0 (length m.operations) && (nat_le (length m.operations) (r.end - r.start) && (proved m.proof r.start m.operations && pinned_good start r m.pinned_nodes))

-- the items are the leaves of the range, by this proof (as a test)
unfoldable pub range_ok : {Op : Type 0} → (List ℕ → List ℕ) → (Op → List ℕ) → List ℕ → ℕ → Judge Op
range_ok hash spelling root size proof start ops =
    (proof.leaves == size) && ((proof.inactive_peaks == 0) && ((length proof.digests == needed size start (length ops)) && bytes_eq (range_root hash size start (map spelling ops) proof.digests) root))

-- how proofs are judged in the tree of a target
abbrev pub judged_by : {Op : Type 0} → (List ℕ → List ℕ) → (Op → List ℕ) → Target → Judge Op
judged_by hash spelling target = range_ok hash spelling target.root target.end

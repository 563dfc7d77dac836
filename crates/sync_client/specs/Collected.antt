-- What a collector has asked and kept, and what it asks and keeps next.
use Rattle.std.specs.Prelude.{◌≡◌, ℕ, ◌-◌, Bool, ◌&&◌, List, [], ◌∷◌, ◌++◌, length, map, Option, Some, None, nat_lt, ◌==◌, if◌then◌else◌, sum_by, position, slice_get, option_and_then}
use Rattle.std.specs.declared.ops.Range.{Range}
use Rattle.sync_net.specs.declared.response.GetOperationsResponse.{GetOperationsResponse}
use Rattle.ledger_log.specs.declared.target.Target.{Target}
use Rattle.sync_client.specs.declared.asked.Asked.{Asked}
use Rattle.sync_client.specs.declared.collector.Piece.{Piece}
use Rattle.sync_client.specs.Asking.{Plan, range_next, without_at, rest_of, nodes_of}

-- Ranges are asked in the order of their list; pieces are kept in the order in which they were accepted.
pub record Collected (Op : Type 0) : Type 0 where
  pub plan : Plan
  pub fresh : ℕ
  pub rests : List (Range ℕ)
  pub pending : List Asked
  pub pinned : List (List ℕ)
  pub kept : List (Piece Op)

-- nothing is asked
abbrev pub opening : {Op : Type 0} → Plan → Collected Op
opening plan = record { plan = plan; fresh = plan.target.start; rests = []; pending = []; pinned = []; kept = [] }

-- the ranges of what was asked
abbrev pub ranges_of : List Asked → List (Range ℕ)
ranges_of = map (λ a. a.range)

-- what is known after this range was asked for the current target, with what is then left to ask
abbrev pub asked : {Op : Type 0} → Collected Op → Option (Range ℕ × List (Range ℕ) × ℕ) → Option (Range ℕ × Collected Op)
asked v None = None
asked v (Some r) = Some (r.0, record v { fresh = r.2; rests = r.1; pending = v.pending ++ record { range = r.0; target = v.plan.target } ∷ [] })

-- the range that is asked next, and what is known after it; none where enough are pending or all is asked
unfoldable pub ask_next : {Op : Type 0} → Collected Op → Option (Range ℕ × Collected Op)
ask_next v = if nat_lt (length v.pending) v.plan.limits.outstanding then asked v (range_next v.plan v.rests v.fresh) else None

-- two ranges are one
abbrev pub same_range : Range ℕ → Range ℕ → Bool
same_range a b = (a.start == b.start) && (a.end == b.end)

-- the place at which a range was asked
abbrev pub place_in : Range ℕ → List Asked → Option ℕ
place_in r asked = position (λ a. same_range a.range r) asked

-- what was asked but this range
abbrev pub without : Range ℕ → List Asked → List Asked
without r asked = without_at (place_in r asked) asked

-- the target of what was asked, where that is there
abbrev pub target_or : Target → Option Asked → Target
target_or target None = target
target_or target (Some a) = a.target

-- the target for which a range was asked
abbrev pub target_of : {Op : Type 0} → Collected Op → Range ℕ → Target
target_of v r = target_or v.plan.target (option_and_then (λ i. slice_get v.pending i) (place_in r v.pending))

-- what is known after a good answer
abbrev pub accepted : {Op : Type 0} → Range ℕ → GetOperationsResponse Op → Collected Op → Collected Op
accepted r m v = record v {
  rests = v.rests ++ rest_of r (length m.operations);
  pending = without r v.pending;
  pinned = if r.start == v.plan.target.start then nodes_of m.pinned_nodes else v.pinned;
  kept = v.kept ++ record { at = r.start; ops = m.operations } ∷ [];
}

-- the range is asked and not yet answered
abbrev pub IsOutstanding : Range ℕ → List (Range ℕ) → Type 0
IsOutstanding r rs = (i : ℕ) × (slice_get rs i ≡ Some r)

-- what is known after a later target was taken, or wasn't
abbrev pub replanned : {Op : Type 0} → Plan → Collected Op → Collected Op
replanned plan v = record v { plan = plan }

-- every location of the range is kept
unfoldable pub is_complete : {Op : Type 0} → Collected Op → Bool
is_complete v = sum_by (λ p. length p.ops) v.kept == v.plan.target.end - v.plan.target.start

-- nothing is asked or left to ask
abbrev pub nothing_left : ℕ → ℕ → ℕ → ℕ → Bool
nothing_left pending rests fresh end = (pending == 0) && ((rests == 0) && (fresh == end))

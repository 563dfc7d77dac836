-- What is kept, asked and not yet asked covers the range: each place once.
use Rattle.std.specs.Prelude.{◌≡◌, ℕ, ◌+◌, ◌-◌, ◌^◌, ◌<◌, ◌≤◌, ◌&&◌, List, length, All, nat_lt, nat_le, if◌then◌else◌, sum_by, count_ones}
use Rattle.std.specs.declared.ops.Range.{Range}
use Rattle.sync_client.specs.declared.collector.Piece.{Piece}
use Rattle.sync_client.specs.declared.asked.Asked.{Asked}
use Rattle.sync_client.specs.Collected.{Collected, ranges_of}

-- 1 where the place stands from a to before b
unfoldable pub inside : ℕ → ℕ → ℕ → ℕ
inside x a b = if nat_le a x && nat_lt x b then 1 else 0

-- how many of the ranges the place stands in
abbrev pub in_ranges : ℕ → List (Range ℕ) → ℕ
in_ranges x = sum_by (λ r. inside x r.start r.end)

-- how many of the pieces the place stands in
abbrev pub in_pieces : {Op : Type 0} → ℕ → List (Piece Op) → ℕ
in_pieces x = sum_by (λ p. inside x p.at (p.at + length p.ops))

-- how many places the ranges have
abbrev pub size_of_ranges : List (Range ℕ) → ℕ
size_of_ranges = sum_by (λ r. r.end - r.start)

-- how many operations the pieces have
abbrev pub size_of_pieces : {Op : Type 0} → List (Piece Op) → ℕ
size_of_pieces = sum_by (λ p. length p.ops)

-- a range that isn't empty, and ends at or before this place
abbrev pub Within : ℕ → Range ℕ → Type 0
Within end r = (r.start < r.end) × (r.end ≤ end)

-- what was asked ends within its own target
abbrev pub EndsWithin : Asked → Type 0
EndsWithin a = a.range.end ≤ a.target.end

-- a piece that isn't empty
abbrev pub HasOps : {Op : Type 0} → Piece Op → Type 0
HasOps p = 0 < length p.ops

-- the piece at the start brought the pinned nodes
abbrev pub Pinned : {Op : Type 0} → ℕ → List (List ℕ) → Piece Op → Type 0
Pinned start nodes p = p.at ≡ start → length nodes ≡ count_ones start

-- Each place of the range is kept, pending, left over or not yet asked, and it is so once.
pub record Tiles {Op : Type 0} (v : Collected Op) : Type 0 where
  pub from_start : v.plan.target.start ≤ v.fresh
  pub to_end : v.fresh ≤ v.plan.target.end
  pub near : v.plan.target.end ≤ 2 ^ 62
  pub each : (x : ℕ) → in_pieces x v.kept + (in_ranges x (ranges_of v.pending) + (in_ranges x v.rests + inside x v.fresh v.plan.target.end)) ≡ inside x v.plan.target.start v.plan.target.end
  pub total : size_of_pieces v.kept + (size_of_ranges (ranges_of v.pending) + (size_of_ranges v.rests + (v.plan.target.end - v.fresh))) ≡ v.plan.target.end - v.plan.target.start
  pub pending : All (Within v.plan.target.end) (ranges_of v.pending)
  pub targets : All EndsWithin v.pending
  pub rests : All (Within v.plan.target.end) v.rests
  pub kept : All HasOps v.kept
  pub pinned : All (Pinned v.plan.target.start v.pinned) v.kept

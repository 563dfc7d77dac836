-- What plans are made of.
use Rattle.std.specs.Prelude.{ℕ, ◌≤◌, ◌-◌, if◌then◌else◌, Bool, true, false, not, List, [], ◌∷◌, count_by, filter, length}
use Rattle.std.specs.List.{list_any}
use Rattle.simulate_parts.specs.Engine.{DistinctPeers}
use Rattle.simulate_parts.specs.Team.{names}
use Rattle.simulate_parts.specs.declared.peer.Peer.{Peer}
use Rattle.simulate_parts.specs.declared.schedule.Crash.{Crash}
use Rattle.simulate_parts.specs.declared.schedule.Crash.TheVariants.{Random, DelayRound, ProcessedHeight, Schedule}

-- the failure delays participants
abbrev pub delays : Crash → Bool
delays (DelayRound participants round) = true
delays (Random frequency downtime count) = false
delays (ProcessedHeight participant first last downtime) = false
delays (Schedule events) = false

-- the failure is random
abbrev pub crashes_at_random : Crash → Bool
crashes_at_random (Random frequency downtime count) = true
crashes_at_random (DelayRound participants round) = false
crashes_at_random (ProcessedHeight participant first last downtime) = false
crashes_at_random (Schedule events) = false

-- the failure may stand beside these
abbrev pub fits_beside : List Crash → Crash → Bool
fits_beside crashes (DelayRound participants round) = not (list_any delays crashes)
fits_beside crashes (Random frequency downtime count) = not (list_any crashes_at_random crashes)
fits_beside crashes (ProcessedHeight participant first last downtime) = true
fits_beside crashes (Schedule events) = true

-- the first of these numbers, or else this one
abbrev pub first_or : List ℕ → ℕ → ℕ
first_or [] n = n
first_or (x ∷ xs) n = x

-- what a run needs of a plan: distinct participants, and at most one failure that delays and one that is
-- random
abbrev pub Runs : List Peer → List Crash → Type 0
Runs participants crashes =
    DistinctPeers participants × (count_by delays crashes ≤ 1) × (count_by crashes_at_random crashes ≤ 1)

-- the participants that a failure names to be started late
abbrev pub delayed_by : Crash → List Peer
delayed_by (DelayRound participants round) = participants
delayed_by (Random frequency downtime count) = []
delayed_by (ProcessedHeight participant first last downtime) = []
delayed_by (Schedule events) = []

-- the peers that the plan's failures name to be started late
abbrev pub named_late : List Crash → List Peer
named_late [] = []
named_late (c ∷ cs) = if delays c then delayed_by c else named_late cs

-- the participants that are started late, each once
abbrev pub late : List Peer → List Crash → List Peer
late participants crashes = filter (names (named_late crashes)) participants

-- how many participants count for the exit condition
abbrev pub target_count : List Peer → List Crash → Bool → ℕ
target_count participants crashes started =
    if started then length participants else (length participants - length (late participants crashes))

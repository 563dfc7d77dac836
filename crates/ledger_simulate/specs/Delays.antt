-- When the delayed participants are started, and how many count for the exit condition then.
use Rattle.std.specs.Prelude.{◌≡◌, ℕ, ◌-◌, ◌==◌, ◌&&◌, ◌||◌, Bool, true, false, not, List, [], ◌∷◌, ◌++◌, Option, Some, None, IsPermutation, IsSorted, length, take, if◌then◌else◌}
use Rattle.std.specs.List.{list_any}
use Rattle.std.specs.Ordering.{is_ge}
use Rattle.simulate_parts.specs.Tracker.{finalized_rounds, peer_cmp, round_cmp, tracker_of}
use Rattle.simulate_parts.specs.TrackerView.{TrackerView}
use Rattle.simulate_parts.specs.declared.peer.Peer.{Peer}
use Rattle.simulate_parts.specs.declared.peer.Round.{Round}
use Rattle.simulate_parts.specs.declared.schedule.Crash.{Crash}
use Rattle.simulate_parts.specs.declared.schedule.Crash.TheVariants.{Random, DelayRound, ProcessedHeight, Schedule}
use Rattle.simulate_parts.specs.declared.tracker.FinalizationUpdate.{FinalizationUpdate}
use Rattle.ledger_simulate.specs.Plans.{delays, late, target_count}
use Rattle.ledger_simulate.specs.declared.reports.Reached.{Reached}

-- the round at which a failure's participants are started
abbrev pub delay_of : Crash → Option Round
delay_of (DelayRound participants round) = Some round
delay_of (Random frequency downtime count) = None
delay_of (ProcessedHeight participant first last downtime) = None
delay_of (Schedule events) = None

-- the round at which the delayed participants are started
abbrev pub delay_round : List Crash → Option Round
delay_round [] = None
delay_round (c ∷ cs) = if delays c then delay_of c else delay_round cs

-- the second round is not before the first one, where there is one
abbrev pub reaches : Option Round → Round → Bool
reaches None r = false
reaches (Some due) r = is_ge (round_cmp r due)

-- the reports of this tracker have the delayed participants started: there are some, and a validator's round
-- reaches theirs
abbrev pub starts : List Peer → List Crash → TrackerView → Bool
starts participants crashes tracker =
    list_any (reaches (delay_round crashes)) (finalized_rounds tracker) && not (length (late participants crashes) == 0)

-- whether the delayed participants are started, after these reports behind earlier ones
abbrev pub started_after : List Peer → List Crash → List FinalizationUpdate → Bool → List FinalizationUpdate → Bool
started_after participants crashes before started [] = started
started_after participants crashes before started (u ∷ us) =
    started_after participants crashes (before ++ u ∷ []) (started || starts participants crashes (tracker_of (before ++ u ∷ []))) us

-- whether they are started where the exit condition was met at this report of the run, which is one of these
abbrev pub started_where : List Peer → List Crash → List FinalizationUpdate → Bool → ℕ → List FinalizationUpdate → Bool
started_where participants crashes before started count more =
    started_after participants crashes before started (take (count - length before - 1) more)

-- whether they are started after a step that brought these reports: once the exit condition is met, nobody is
abbrev pub started_by : List Peer → List Crash → List FinalizationUpdate → Bool → List FinalizationUpdate → Option Reached → Bool
started_by participants crashes before started more None = started_after participants crashes before started more
started_by participants crashes before started more (Some reached) = started_where participants crashes before started reached.count more

-- how many participants count where the exit condition is asked after these reports, which is before the last of
-- them can start the delayed ones
abbrev pub target_at : List Peer → List Crash → List FinalizationUpdate → Bool → List FinalizationUpdate → ℕ
target_at participants crashes before started more =
    target_count participants crashes (started_after participants crashes before started (take (length more - 1) more))

-- which participants a report starts, by whether the delayed ones were started before it and after it: all of those,
-- in ascending order, or none
abbrev pub Launches : List Peer → List Crash → Bool → Bool → List Peer → Type 0
Launches participants crashes false true launched = IsPermutation (late participants crashes) launched × IsSorted peer_cmp launched
Launches participants crashes false false launched = launched ≡ []
Launches participants crashes true is launched = launched ≡ []

-- The first events of a run.
use Rattle.std.specs.Prelude.{ℕ, Bool, List, [], ◌∷◌, ◌++◌, map, if◌then◌else◌}
use Rattle.std.specs.List.{flat_map}
use Rattle.simulate_parts.specs.Team.{others}
use Rattle.simulate_parts.specs.declared.peer.Peer.{Peer}
use Rattle.simulate_parts.specs.declared.schedule.Crash.{Crash}
use Rattle.simulate_parts.specs.declared.schedule.Crash.TheVariants.{Random, DelayRound, ProcessedHeight, Schedule}
use Rattle.ledger_simulate.specs.Plans.{named_late}
use Rattle.ledger_simulate.specs.declared.event.Event.{Event}
use Rattle.ledger_simulate.specs.declared.event.Event.TheVariants.{Started, Act, CrashTick, ExitPoll}

-- the starts of these participants
abbrev pub starts : List Peer → List (ℕ × Event)
starts participants = map (λ p. (0, Started p)) participants

-- the actions of a failure's schedule, at their times
abbrev pub actions_of : Crash → List (ℕ × Event)
actions_of (Schedule events) = map (λ e. (e.0, Act e.1)) events
actions_of (Random frequency downtime count) = []
actions_of (DelayRound participants round) = []
actions_of (ProcessedHeight participant first last downtime) = []

-- the first crash of a random failure
abbrev pub first_tick : Crash → List (ℕ × Event)
first_tick (Random frequency downtime count) = (frequency, CrashTick) ∷ []
first_tick (Schedule events) = []
first_tick (DelayRound participants round) = []
first_tick (ProcessedHeight participant first last downtime) = []

-- the first poll of an exit condition
abbrev pub first_poll : Bool → List (ℕ × Event)
first_poll polls = if polls then (25, ExitPoll) ∷ [] else []

-- the first events of a run, with their times and in the order of their numbers: the starts of the
-- participants that aren't delayed, the actions of the schedules, the random crash and the exit poll
abbrev pub opening : List Peer → List Crash → Bool → List (ℕ × Event)
opening participants crashes polls =
    starts (others (named_late crashes) participants) ++ flat_map actions_of crashes ++ flat_map first_tick crashes ++ first_poll polls

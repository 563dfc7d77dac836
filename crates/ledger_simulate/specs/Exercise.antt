-- Whether the configured failures came to anything.
use Rattle.std.specs.Prelude.{ℕ, ◌+◌, ◌==◌, Bool, false, not, List, [], ◌∷◌, Option, Some, None, length, slice_get, unwrap_or, if◌then◌else◌}
use Rattle.simulate_parts.specs.declared.schedule.Crash.{Crash}
use Rattle.simulate_parts.specs.declared.schedule.Crash.TheVariants.{Random, DelayRound, ProcessedHeight, Schedule}
use Rattle.ledger_simulate.specs.declared.exercise.Exercise.{Exercise}

-- the failure came to nothing: a random one while no crash ran, a schedule of actions while none was
-- applied, a delay while the delayed weren't started, a window that was never entered
abbrev pub is_unexercised : ℕ → ℕ → Bool → Crash → Bool → Bool
is_unexercised crashes actions started (Random frequency downtime count) entered = crashes == 0
is_unexercised crashes actions started (Schedule events) entered = if length events == 0 then false else (actions == 0)
is_unexercised crashes actions started (DelayRound participants round) entered = not started
is_unexercised crashes actions started (ProcessedHeight participant first last downtime) entered = not entered

-- the first place, from this one on, of a failure that came to nothing
abbrev pub unexercised_from : ℕ → ℕ → Bool → List Bool → ℕ → List Crash → Option ℕ
unexercised_from crashes actions started entered i [] = None
unexercised_from crashes actions started entered i (c ∷ cs) =
    if is_unexercised crashes actions started c (unwrap_or (slice_get entered i) false) then Some i
    else unexercised_from crashes actions started entered (i + 1) cs

-- the first failure that came to nothing
abbrev pub missed_by : Exercise → List Crash → Option ℕ
missed_by e crashes = unexercised_from e.crashes e.scheduled_actions e.delayed_started e.entered.items 0 crashes

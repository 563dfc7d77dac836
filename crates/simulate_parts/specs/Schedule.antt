-- Schedules of actions.
use Rattle.std.specs.Prelude.{ℕ, ◌≤◌, List, MatchOption, length, slice_get, ◌-◌}
use Rattle.simulate_parts.specs.declared.schedule.Action.{Action}

-- an action at this time may follow these: it isn't earlier than the last of them
abbrev pub MayFollow : List (ℕ × Action) → ℕ → Type 0
MayFollow events time = MatchOption (slice_get events (length events - 1)) (Unit {0}) (λ e. e.0 ≤ time)

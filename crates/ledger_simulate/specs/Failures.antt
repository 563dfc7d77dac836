-- What the configured failures do to the engines, and what they come to.
use Rattle.std.specs.Prelude.{ℕ, zero, suc, ◌+◌, ◌-◌, ◌%◌, ◌^◌, ◌&&◌, min, Bool, true, false, not, List, [], ◌∷◌, Option, Some, None, get_or, length, nat_le, nat_lt, option_and_then, option_map, remove, replicate, set, slice_get, unwrap_or, if◌then◌else◌}
use Rattle.std.specs.Option.{option_map_or, option_or}
use Rattle.rand_pcg.specs.Lcg.{Lcg}
use Rattle.rand_pcg.specs.Pcg.{pcg32}
use Rattle.simulate_parts.specs.Seats.{active_peers, active_views, running_at, runs, stopped}
use Rattle.simulate_parts.specs.declared.engine.StateView.{StateView}
use Rattle.simulate_parts.specs.declared.peer.Peer.{Peer}
use Rattle.simulate_parts.specs.declared.schedule.Action.{Action}
use Rattle.simulate_parts.specs.declared.schedule.Action.TheVariants.{SetStorageFault, Heal, UpdateLink, Crash as crash_of, Restart}
use Rattle.simulate_parts.specs.declared.schedule.Crash.{Crash}
use Rattle.simulate_parts.specs.declared.schedule.Crash.TheVariants.{Random, DelayRound, ProcessedHeight, Schedule}
use Rattle.simulate_parts.specs.declared.seats.Seat.{Seat}
use Rattle.ledger_simulate.specs.declared.event.Event.{Event}
use Rattle.ledger_simulate.specs.declared.event.Event.TheVariants.{Started, Timer, Received, Act, CrashTick, ExitPoll, Recover}
use Rattle.ledger_simulate.specs.declared.exercise.Exercise.{Exercise}
use Rattle.ledger_simulate.specs.declared.world.World.{World}

-- what the failures came to: how many crashes ran, how many scheduled actions were applied, and for each failure
-- whether it is a window that was entered
pub record Tally : Type 0 where
  pub ran : ℕ
  pub actions : ℕ
  pub entered : List Bool

-- nothing yet, of so many failures
abbrev pub no_tally : ℕ → Tally
no_tally failures = record { ran = 0; actions = 0; entered = replicate failures false }

-- the same of what a run has counted
abbrev pub tally_of : Exercise → Tally
tally_of e = record { ran = e.crashes; actions = e.scheduled_actions; entered = e.entered.items }

-- the engines, and what the failures came to
pub record Standing (D E S : Type 0) : Type 0 where
  pub seats : List (Peer × Seat D E S)
  pub tally : Tally

-- the same of a run's world
abbrev pub standing_of : {D E S : Type 0} → World D E S → Standing D E S
standing_of w = record { seats = w.seats.entries; tally = tally_of w.exercise }

-- one more, at the greatest count at most
abbrev pub counted : ℕ → ℕ
counted n = min (n + 1) (2 ^ 64 - 1)

-- a peer is stopped, which counts as a crash where it ran
abbrev pub crashed : {D E S : Type 0} → Standing D E S → Peer → Standing D E S
crashed s pk = record {
  seats = stopped s.seats pk;
  tally = if runs s.seats pk then record s.tally { ran = counted s.tally.ran } else s.tally;
}

-- these peers, one after another
abbrev pub crashed_all : {D E S : Type 0} → Standing D E S → List Peer → Standing D E S
crashed_all s [] = s
crashed_all s (pk ∷ pks) = crashed_all (crashed s pk) pks

-- so many of these peers, or all where there are fewer, each taken out by a word modulo the number of those left
abbrev pub picked : ℕ → Lcg → List Peer → List Peer
picked zero words left = []
picked (suc n) words [] = []
picked (suc n) words (pk ∷ pks) =
    let at = (pcg32 words).0 % length (pk ∷ pks) in
    get_or (pk ∷ pks) at pk ∷ picked n (pcg32 words).1 (remove (pk ∷ pks) at)

-- how many peers the random failure crashes at a time, if one is configured
abbrev pub random_count : List Crash → ℕ
random_count [] = 0
random_count (Random frequency downtime count ∷ cs) = count
random_count (DelayRound participants round ∷ cs) = random_count cs
random_count (ProcessedHeight participant first last downtime ∷ cs) = random_count cs
random_count (Schedule events ∷ cs) = random_count cs

-- the random failure strikes
abbrev pub crashed_at_random : {D E S : Type 0} → List Crash → Lcg → Standing D E S → Standing D E S
crashed_at_random crashes words s = crashed_all s (picked (random_count crashes) words (active_peers s.seats))

-- a scheduled action counts, and so does the crash of a peer that ran
abbrev pub acted : {D E S : Type 0} → Action → Standing D E S → Tally
acted (SetStorageFault fault) s = record s.tally { actions = counted s.tally.actions }
acted (Heal link) s = record s.tally { actions = counted s.tally.actions }
acted (UpdateLink from to link) s = record s.tally { actions = counted s.tally.actions }
acted (crash_of pk) s = record (crashed s pk).tally { actions = counted s.tally.actions }
acted (Restart pk) s = record s.tally { actions = counted s.tally.actions }

-- what the failures came to after an event that is for no engine
abbrev pub tally_after : {D E S : Type 0} → List Crash → Event → World D E S → Tally
tally_after crashes (Act action) w = acted action (standing_of w)
tally_after crashes CrashTick w = (crashed_at_random crashes w.words (standing_of w)).tally
tally_after crashes ExitPoll w = tally_of w.exercise
tally_after crashes (Recover pk) w = tally_of w.exercise
tally_after crashes (Started pk) w = tally_of w.exercise
tally_after crashes (Timer pk birth) w = tally_of w.exercise
tally_after crashes (Received from to channel bytes) w = tally_of w.exercise

-- the height of a peer's state, where it runs
abbrev pub height_at : {D E S : Type 0} → (S → ℕ) → List (Peer × Seat D E S) → Peer → Option ℕ
height_at height seats pk = option_map (λ r. height r.state) (running_at seats pk)

-- the failure at this place is a window that was entered
abbrev pub was_entered : Tally → ℕ → Bool
was_entered t i = unwrap_or (slice_get t.entered i) false

-- a window that wasn't entered, in which its participant's height is, is entered, and the participant crashes
abbrev pub window_entered : {D E S : Type 0} → (S → ℕ) → ℕ → Peer → ℕ → ℕ → Standing D E S → Standing D E S
window_entered height i participant first last s =
    if not (was_entered s.tally i) && option_map_or (λ h. nat_le first h && nat_le h last) (height_at height s.seats participant) false
    then crashed (record s { tally = record s.tally { entered = set s.tally.entered i true } }) participant
    else s

-- the failure at this place, where it is a window
abbrev pub looked_at : {D E S : Type 0} → (S → ℕ) → ℕ → Crash → Standing D E S → Standing D E S
looked_at height i (ProcessedHeight participant first last downtime) s = window_entered height i participant first last s
looked_at height i (Random frequency downtime count) s = s
looked_at height i (DelayRound participants round) s = s
looked_at height i (Schedule events) s = s

-- these failures in order, the first of them at this place
abbrev pub windows_entered : {D E S : Type 0} → (S → ℕ) → ℕ → List Crash → Standing D E S → Standing D E S
windows_entered height i [] s = s
windows_entered height i (c ∷ cs) s = windows_entered height (i + 1) cs (looked_at height i c s)

-- the height of a window's participant, where the window wasn't entered and the height is above it
abbrev pub window_passed : {D E S : Type 0} → (S → ℕ) → ℕ → Peer → ℕ → ℕ → Standing D E S → Option ℕ
window_passed height i participant first last s =
    if was_entered s.tally i then None
    else option_and_then (λ h. if nat_le first h && nat_lt last h then Some h else None) (height_at height s.seats participant)

-- the same of the failure at this place, where it is a window
abbrev pub passed_at : {D E S : Type 0} → (S → ℕ) → ℕ → Crash → Standing D E S → Option ℕ
passed_at height i (ProcessedHeight participant first last downtime) s = window_passed height i participant first last s
passed_at height i (Random frequency downtime count) s = None
passed_at height i (DelayRound participants round) s = None
passed_at height i (Schedule events) s = None

-- the first height above a window that wasn't entered, as these failures are looked at, the first of them at this
-- place
abbrev pub first_passed : {D E S : Type 0} → (S → ℕ) → ℕ → List Crash → Standing D E S → Option ℕ
first_passed height i [] s = None
first_passed height i (c ∷ cs) s = option_or (passed_at height i c s) (first_passed height (i + 1) cs (looked_at height i c s))

-- how checks see the states of the engines that run as they are asked at a report: its windows were entered
abbrev pub views_checked : {D E S : Type 0} → (S → ℕ) → (S → List ℕ) → List Crash → World D E S → List StateView
views_checked height shown crashes w = active_views height shown (windows_entered height 0 crashes (standing_of w)).seats

-- What fetching a log answers over a link that serves one.
use Rattle.std.specs.Prelude.{◌≡◌, ◌<◌, ◌≤◌, ◌-◌, ℕ, ◌^◌, List, All, length, map, count_ones, Option, Some, Result, Ok, Err}
use Rattle.sha2.specs.Sha256.{sha256}
use Rattle.ledger_log.specs.View.{LogView, log_size, log_range, log_peaks_at, last_floor}
use Rattle.sync_net.specs.Core.{LogData}
use Rattle.sync_net.specs.Service.{Service}
use Rattle.sync_net.specs.View.{MachineView}
use Rattle.sync_client.specs.Owing.{MayStop, OwesNothing}
use Rattle.sync_fetch.specs.Served.{IsOver}
use Rattle.sync_fetch.specs.declared.fault.StateFault.{StateFault}
use Rattle.sync_fetch.specs.declared.fault.StateFault.TheVariants.{Fetch, WrongState}

-- The data that a link tells stand for this log, whose operations are written so: it has as many nodes of 32 bytes as its front wants, its operations are those that the type has, and its floor is its last commit's.
pub record StandsFor {Op : Type 0} (written : Op → List ℕ) (sound : Op → Type 0) (floor_of : Op → Option ℕ) (held : LogData) : Type 0 where
  pub log : LogView Op
  pub is : held.log ≡ record { front = log.front; pinned = log.pinned; ops = map written log.ops }
  pub ops : All sound log.ops
  pub nodes : All (λ digest. length digest ≡ 32) log.pinned
  pub count : length log.pinned ≡ count_ones log.front
  pub most : log_size log ≤ 2 ^ 62
  pub floor : last_floor floor_of log.ops ≡ Some held.floor
  pub least : log.front ≤ held.floor
  pub within : held.floor < log_size log

module _ {Op : Type 0} where
  -- a log from a later place on
  abbrev pub log_from : (Op → List ℕ) → LogView Op → ℕ → LogView Op
  log_from written log loc = record { front = loc; pinned = log_peaks_at sha256 written log loc; ops = log_range log loc (log_size log - loc) }

  -- what is fetched is the served log from its floor on, and the exchange is over; a call that fetches none had a call of the link fail, memory wanting, or no number left
  abbrev pub LogServed : (Op → List ℕ) → LogData → LogView Op → Result (LogView Op) StateFault → MachineView → Option Service → Type 0
  LogServed written held log (Ok fetched) m now = (fetched ≡ log_from written log held.floor) × IsOver held m now
  LogServed written held log (Err (Fetch fault)) m now = MayStop fault
  LogServed written held log (Err (WrongState fault)) m now = ⊥

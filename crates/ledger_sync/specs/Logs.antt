-- What came of fetching a target and its range, and the log that was made of it.
use Rattle.std.specs.Prelude.{◌≡◌, ◌⊎◌, ◌≤◌, ℕ, List, [], Option, Some, None, Result, Ok, Err}
use Rattle.ledger_codec.specs.Parsing.{Parsed}
use Rattle.ledger_merkle.specs.declared.proof.Part.{Part as Fetched}
use Rattle.ledger_log.specs.View.{LogView}
use Rattle.ledger_log.specs.Faults.{parts_refusal}
use Rattle.ledger_log.specs.declared.fault.LogFault.{LogFault}
use Rattle.ledger_log.specs.declared.fault.LogFault.TheVariants as refusals
use Rattle.ledger_log.specs.declared.target.Target.{Target}
use Rattle.sync_net.specs.View.{MachineView}
use Rattle.sync_net.specs.Wire.{Wire}
use Rattle.sync_client.specs.declared.fault.SyncFault.{SyncFault}
use Rattle.sync_client.specs.declared.fault.SyncFault.TheVariants as faults
use Rattle.sync_client.specs.Asking.{LimitsView}
use Rattle.sync_client.specs.Ending.{origin_of, Ended}
use Rattle.sync_client.specs.Parts.{IsPartOf}
use Rattle.sync_client.specs.Updates.{TakesUpdates}
use Rattle.sync_fetch.specs.declared.fault.StateFault.{StateFault}
use Rattle.sync_fetch.specs.declared.fault.StateFault.TheVariants.{Fetch, WrongState}
use Rattle.sync_fetch.specs.Told.{TargetFetched}

-- the fault of a part that is no log
abbrev pub refused : LogFault → StateFault
refused refusals.OutOfMemory = Fetch faults.OutOfMemory
refused fault = WrongState fault

module _ {Op : Type 0} where
  -- the log of a part
  abbrev pub log_of_part : Fetched Op → LogView Op
  log_of_part part = record { front = part.start; pinned = part.pinned; ops = part.ops }

  -- a part was opened as a log, or refused, or memory was wanting
  abbrev pub Opened : (Op → Option ℕ) → Fetched Op → Result (LogView Op) StateFault → Type 0
  Opened floor_of part (Ok log) = (parts_refusal floor_of (log_of_part part) ≡ None) × (log ≡ log_of_part part)
  Opened floor_of part (Err (WrongState fault)) = parts_refusal floor_of (log_of_part part) ≡ Some fault
  Opened floor_of part (Err (Fetch fault)) = fault ≡ faults.OutOfMemory

  -- A target was fetched, and then the session for it, without later targets, ended so.
  pub record SessionEnded (spelling : Op → List ℕ) (limits : LimitsView) (result : Result (Target × Fetched Op) SyncFault) (read : List ℕ → Parsed Op) (written : Op → List ℕ) (m n : MachineView) (before now : Option Wire) (count risen : ℕ) : Type 0 where
    pub target : Target
    pub machine : MachineView
    pub wire : Option Wire
    pub faults_then : ℕ
    pub fetched : TargetFetched (Ok target) read written m machine before wire count faults_then
    pub later : count ≤ faults_then
    pub ended : Ended result (origin_of read written spelling target [] limits machine wire faults_then) n [] now risen

  -- a part of the served target was fetched
  pub record PartFetched (spelling : Op → List ℕ) (limits : LimitsView) (read : List ℕ → Parsed Op) (written : Op → List ℕ) (m n : MachineView) (before now : Option Wire) (count risen : ℕ) : Type 0 where
    pub synced : Target
    pub part : Fetched Op
    pub session : SessionEnded spelling limits (Ok (synced, part)) read written m n before now count risen
    pub took : TakesUpdates {X = Fetched Op} (Ok (synced, part)) session.target [] []
    pub whole : IsPartOf spelling synced part

  -- The log of the part that was fetched; or why there is none: that part is refused so, no target came, no part, or memory was wanting for the log.
  abbrev pub LogFetched : (Op → List ℕ) → (Op → Option ℕ) → LimitsView → Result (LogView Op) StateFault → (List ℕ → Parsed Op) → (Op → List ℕ) → MachineView → MachineView → Option Wire → Option Wire → ℕ → ℕ → Type 0
  LogFetched spelling floor_of limits (Ok log) read written m n before now count risen = (p : PartFetched spelling limits read written m n before now count risen) × Opened floor_of p.part (Ok log)
  LogFetched spelling floor_of limits (Err (WrongState fault)) read written m n before now count risen = (p : PartFetched spelling limits read written m n before now count risen) × Opened floor_of p.part (Err (WrongState fault))
  LogFetched spelling floor_of limits (Err (Fetch fault)) read written m n before now count risen =
      TargetFetched {Op = Op} (Err fault) read written m n before now count risen ⊎ (SessionEnded spelling limits (Err fault) read written m n before now count risen
      ⊎ ((p : PartFetched spelling limits read written m n before now count risen) × Opened floor_of p.part (Err (Fetch fault))))

-- What came of syncing a database to a target.
use Rattle.std.specs.Prelude.{◌≡◌, ◌⊎◌, ℕ, List, [], Option, Some, None, Result, Ok, Err}
use Rattle.sha2.specs.Sha256.{sha256}
use Rattle.ledger_codec.specs.Parsing.{Parsed}
use Rattle.ledger_merkle.specs.declared.proof.Part.{Part as Fetched}
use Rattle.ledger_log.specs.View.{LogView, log_size, log_root}
use Rattle.ledger_log.specs.declared.target.Target.{Target}
use Rattle.sync_net.specs.View.{MachineView}
use Rattle.sync_net.specs.Wire.{Wire}
use Rattle.sync_client.specs.declared.fault.SyncFault.{SyncFault}
use Rattle.sync_client.specs.Asking.{LimitsView}
use Rattle.sync_client.specs.Ending.{origin_of, Ended}
use Rattle.sync_client.specs.Parts.{IsPartOf}
use Rattle.sync_client.specs.Updates.{TakesUpdates}
use Rattle.sync_fetch.specs.declared.fault.StateFault.{StateFault}
use Rattle.sync_fetch.specs.declared.fault.StateFault.TheVariants.{Fetch, WrongState}
use Rattle.ledger_sync.specs.Logs.{Opened}

module _ {Op : Type 0} where
  -- the log is the target's: it begins where the target does, has its size, and its root
  pub record IsAt (spelling : Op → List ℕ) (log : LogView Op) (target : Target) : Type 0 where
    pub start : log.front ≡ target.start
    pub end : log_size log ≡ target.end
    pub root : log_root sha256 spelling log ≡ target.root

  -- the session for the target, without later ones, ended so
  abbrev pub SessionFor : (Op → List ℕ) → LimitsView → Target → Result (Target × Fetched Op) SyncFault → (List ℕ → Parsed Op) → (Op → List ℕ) → MachineView → MachineView → Option Wire → Option Wire → ℕ → ℕ → Type 0
  SessionFor spelling limits target result read written m n before now count risen = Ended result (origin_of read written spelling target [] limits m before count) n [] now risen

  -- it gave this part
  pub record PartSynced (spelling : Op → List ℕ) (limits : LimitsView) (target : Target) (read : List ℕ → Parsed Op) (written : Op → List ℕ) (m n : MachineView) (before now : Option Wire) (count risen : ℕ) : Type 0 where
    pub synced : Target
    pub part : Fetched Op
    pub session : SessionFor spelling limits target (Ok (synced, part)) read written m n before now count risen
    pub took : TakesUpdates {X = Fetched Op} (Ok (synced, part)) target [] []
    pub whole : IsPartOf spelling synced part

  -- The log of the part that the session gave; or why there is none: that part is refused so, the session gave none, or memory was wanting for the log.
  abbrev pub LogSynced : (Op → List ℕ) → (Op → Option ℕ) → LimitsView → Target → Result (LogView Op) StateFault → (List ℕ → Parsed Op) → (Op → List ℕ) → MachineView → MachineView → Option Wire → Option Wire → ℕ → ℕ → Type 0
  LogSynced spelling floor_of limits target (Ok log) read written m n before now count risen = (p : PartSynced spelling limits target read written m n before now count risen) × Opened floor_of p.part (Ok log)
  LogSynced spelling floor_of limits target (Err (WrongState fault)) read written m n before now count risen = (p : PartSynced spelling limits target read written m n before now count risen) × Opened floor_of p.part (Err (WrongState fault))
  LogSynced spelling floor_of limits target (Err (Fetch fault)) read written m n before now count risen =
      SessionFor spelling limits target (Err fault) read written m n before now count risen
      ⊎ ((p : PartSynced spelling limits target read written m n before now count risen) × Opened floor_of p.part (Err (Fetch fault)))

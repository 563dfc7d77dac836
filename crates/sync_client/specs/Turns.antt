-- What the turns of a session over a link answer.
use Rattle.std.specs.Prelude.{◌≡◌, ◌<◌, ◌≤◌, ℕ, true, false, List, [], ◌++◌, length, Option, Result, Ok, Err}
use Rattle.ledger_codec.specs.Causes.{Rose}
use Rattle.ledger_log.specs.declared.target.Target.{Target}
use Rattle.sync_net.specs.View.{MachineView}
use Rattle.sync_net.specs.Asking.{stopped}
use Rattle.sync_net.specs.Wire.{Wire}
use Rattle.sync_client.specs.declared.fault.SyncFault.{SyncFault}
use Rattle.sync_client.specs.declared.fault.SyncFault.TheVariants as faults
use Rattle.sync_client.specs.Collected.{Collected}
use Rattle.sync_client.specs.Session.{State, Nothing, ask_next, is_whole}
use Rattle.sync_client.specs.Seen.{beside, seen}
use Rattle.sync_client.specs.Ending.{Origin, Since, Came, Stopped}

-- what may be sent was sent
abbrev pub Filled : {Op : Type 0} → Result (Unit {0}) SyncFault → Origin Op → State Op → MachineView → List (Option Target) → Option Wire → ℕ → Type 0
Filled (Ok x) o t m updates wire count = Came o t m.held m.closed wire count × (ask_next t ≡ Nothing)
Filled (Err fault) o t m updates wire count = Stopped o fault m updates wire count

-- a frame was taken
abbrev pub Handled : {Op : Type 0} → Result (Unit {0}) SyncFault → Origin Op → State Op → MachineView → List (Option Target) → Option Wire → ℕ → Type 0
Handled (Ok x) o t m updates wire count = Came o t m.held m.closed wire count
Handled (Err fault) o t m updates wire count = Stopped o fault m updates wire count

-- bytes that came were taken in, or memory was wanting
abbrev pub TakesIn : Result (Unit {0}) SyncFault → MachineView → MachineView → List ℕ → Type 0
TakesIn (Ok x) m n piece = n ≡ record m { held = m.held ++ piece }
TakesIn (Err faults.OutOfMemory) m n piece = n ≡ m
TakesIn (Err e) m n piece = ⊥

-- bytes came, at least one and no more than a buffer has; or the end, which closes the machine. Bytes for which memory was wanting aren't held.
abbrev pub Receives : Result (Unit {0}) SyncFault → MachineView → MachineView → Option Wire → Option Wire → ℕ → ℕ → Type 0
Receives (Ok x) m n before now count risen = (piece : List ℕ) × (0 < length piece) × (n ≡ record m { held = m.held ++ piece }) × Since before now piece false [] × (count ≤ risen) × (length piece ≤ 4096)
Receives (Err faults.Network) m n before now count risen = (n ≡ m) × (now ≡ before) × Rose count risen
Receives (Err faults.RequestChannelClosed) m n before now count risen = (n ≡ stopped m) × Since before now [] true [] × (count ≤ risen)
Receives (Err faults.OutOfMemory) m n before now count risen = (lost : List ℕ) × (n ≡ m) × Since before now lost false [] × (count ≤ risen) × (length lost ≤ 4096)
Receives (Err e) m n before now count risen = ⊥

-- the session's whole range is kept, with so many strays, and these answers to come
pub record Whole {Op : Type 0} (o : Origin Op) (m : MachineView) (c : Collected Op) (updates : List (Option Target)) (wire : Option Wire) (count : ℕ) : Type 0 where
  pub strays : ℕ
  pub came : Came o (seen m c (beside strays updates)) m.held m.closed wire count
  pub nothing : ask_next (seen m c (beside strays updates)) ≡ Nothing
  pub whole : is_whole (seen m c (beside strays updates)) ≡ true

-- the whole range was collected
abbrev pub Collects : {Op : Type 0} → Result (Unit {0}) SyncFault → Origin Op → MachineView → Collected Op → List (Option Target) → Option Wire → ℕ → Type 0
Collects (Ok x) o m c updates wire count = Whole o m c updates wire count
Collects (Err fault) o m c updates wire count = Stopped o fault m updates wire count

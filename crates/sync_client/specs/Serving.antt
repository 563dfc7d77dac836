-- A log from which a target's range can be fetched.
use Rattle.std.specs.Prelude.{◌≡◌, ℕ, ◌^◌, ◌≤◌, List, [], ◌∷◌, length, map, All, count_ones}
use Rattle.sha2.specs.Sha256.{sha256}
use Rattle.ledger_log.specs.View.{LogView, log_size, log_root_at}
use Rattle.ledger_log.specs.declared.target.Target.{Target}
use Rattle.sync_net.specs.Core.{LogData}
use Rattle.sync_client.specs.Updates.{IsFresh}

-- The data that a link tells stand for this log, whose operations are written so: it holds the target's range, and its first operations have the target's root. Its nodes have 32 bytes, as every digest has, and its operations are those that the type has.
pub record Serves {Op : Type 0} (written : Op → List ℕ) (sound : Op → Type 0) (held : LogData) (target : Target) : Type 0 where
  pub log : LogView Op
  pub is : held.log ≡ record { front = log.front; pinned = log.pinned; ops = map written log.ops }
  pub ops : All sound log.ops
  pub nodes : All (λ digest. length digest ≡ 32) log.pinned
  pub count : length log.pinned ≡ count_ones log.front
  pub front : log.front ≤ target.start
  pub size : target.end ≤ log_size log
  pub most : log_size log ≤ 2 ^ 62
  pub root : log_root_at sha256 written log target.end ≡ target.root

-- the log holds the target's range, and its first operations have the target's root
pub record HasTarget {Op : Type 0} (written : Op → List ℕ) (log : LogView Op) (target : Target) : Type 0 where
  pub front : log.front ≤ target.start
  pub size : target.end ≤ log_size log
  pub root : log_root_at sha256 written log target.end ≡ target.root

-- the log has each of these later targets, which are fresh one after another
abbrev pub HasLater : {Op : Type 0} → (Op → List ℕ) → LogView Op → Target → List Target → Type 0
HasLater written log target [] = Unit {0}
HasLater written log target (later ∷ others) = IsFresh target later × (later.end ≤ log_size log) × (log_root_at sha256 written log later.end ≡ later.root) × HasLater written log later others

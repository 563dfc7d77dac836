-- When the end of a log has all its accounts.
use Rattle.std.specs.Prelude.{◌≡◌, ℕ, ◌≤◌}
use Rattle.ledger_log.specs.Any.{any_floor, any_write}
use Rattle.ledger_log.specs.View.{LogView, log_floor, log_size}
use Rattle.ledger_log.specs.declared.any.AnyOp.{AnyOp}
use Rattle.ledger_raising.specs.Raised.{FloorSound}

-- the log ends at the target's end, nothing that counts lies below its floor, and the target begins at or below the floor
pub record IsAbove (start end : ℕ) (log : LogView AnyOp) : Type 0 where
  pub ends : log_size log ≡ end
  pub sound : FloorSound any_floor any_write log
  pub below : start ≤ log_floor any_floor log

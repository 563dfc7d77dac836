-- The log with which databases begin, as tests serve it.
use Rattle.std.specs.Prelude.{[], ◌∷◌, None}
use Rattle.ledger_log.specs.Any.{any_commit}
use Rattle.ledger_log.specs.View.{LogView}
use Rattle.ledger_log.specs.declared.any.AnyOp.{AnyOp}

-- one commit, without metadata and with floor 0
abbrev pub fresh_any : LogView AnyOp
fresh_any = record { front = 0; pinned = []; ops = any_commit None 0 ∷ [] }

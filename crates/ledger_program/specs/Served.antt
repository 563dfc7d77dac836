-- The log that a job serves.
use Rattle.std.specs.Prelude.{◌≡◌, ◌++◌, List, [], ◌∷◌, None, map, ⊤}
use Rattle.ledger_job.specs.declared.line.Open.{Open}
use Rattle.ledger_log.specs.declared.any.AnyOp.{AnyOp}
use Rattle.ledger_log.specs.declared.any.AnyOp.TheVariants.{Update, CommitFloor}
use Rattle.ledger_log.specs.declared.fault.LogFault.{LogFault}
use Rattle.ledger_log.specs.declared.fault.LogFault.TheVariants.{OutOfMemory, Size}
use Rattle.ledger_managed.specs.Spelled.{sequenced_value}
use Rattle.ledger_transfers.specs.declared.sequenced.Sequenced.{Sequenced}

-- the account that is opened
abbrev pub opened_of : Open → Sequenced
opened_of account = record { balance = account.balance; nonce = account.nonce }

-- what an account that is opened writes
abbrev pub update_of : Open → AnyOp
update_of account = Update account.key (sequenced_value (opened_of account))

-- the log between two commits
unfoldable pub served : List Open → List AnyOp
served accounts = CommitFloor None 0 ∷ (map update_of accounts ++ CommitFloor None 0 ∷ [])

-- these are the operations of some served log
abbrev pub IsServedList : List AnyOp → Type 0
IsServedList ops = (accounts : List Open) × (ops ≡ served accounts)

-- a list too long for a log, which no memory holds, or want of memory
abbrev pub IsLongOrMemory : LogFault → Type 0
IsLongOrMemory Size = ⊤
IsLongOrMemory OutOfMemory = ⊤
IsLongOrMemory fault = ⊥

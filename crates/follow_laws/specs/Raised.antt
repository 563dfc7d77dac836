-- A log whose floor was raised, and the target of the end of a log.
use Rattle.std.specs.Prelude.{◌≡◌, ℕ, ◌≤◌, ◌^◌, List, [], ◌∷◌, None, replicate}
use Rattle.sha2.specs.Sha256.{sha256}
use Rattle.ledger_log.specs.Any.{any_spelling}
use Rattle.ledger_log.specs.View.{LogView, log_root, log_size}
use Rattle.ledger_log.specs.declared.any.AnyOp.{AnyOp}
use Rattle.ledger_log.specs.declared.any.AnyOp.TheVariants.{Update, CommitFloor}
use Rattle.ledger_log.specs.declared.target.Target.{Target}
use Rattle.ledger_managed.specs.Spelled.{sequenced_value}

-- the account with this balance and nonce at the key of sevens
unfoldable pub update_of : ℕ → ℕ → AnyOp
update_of balance nonce = Update (replicate 32 7) (sequenced_value (record { balance = balance; nonce = nonce }))

-- a commit, an account, what it became, and a commit whose floor is the place of the second
unfoldable pub raised : List AnyOp
raised = CommitFloor None 0 ∷ update_of 10 1 ∷ update_of 20 2 ∷ CommitFloor None 2 ∷ []

abbrev pub raised_log : LogView AnyOp
raised_log = record { front = 0; pinned = []; ops = raised }

-- the target of a log from this place to its end
pub record EndsLog (start : ℕ) (target : Target) (log : LogView AnyOp) : Type 0 where
  pub begins : target.start ≡ start
  pub end : target.end ≡ log_size log
  pub most : target.end ≤ 2 ^ 62
  pub root : target.root ≡ log_root sha256 any_spelling log

-- The log of four accounts, and the one that a fifth makes of it.
use Rattle.std.specs.Prelude.{ℕ, List, [], ◌∷◌, ◌++◌, None, replicate}
use Rattle.ledger_log.specs.View.{LogView}
use Rattle.ledger_log.specs.declared.any.AnyOp.{AnyOp}
use Rattle.ledger_log.specs.declared.any.AnyOp.TheVariants.{Update, CommitFloor}
use Rattle.ledger_managed.specs.Spelled.{sequenced_value}

-- the account with this balance and nonce at the key that repeats one byte
unfoldable pub update_of : ℕ → ℕ → ℕ → AnyOp
update_of key balance nonce = Update (replicate 32 key) (sequenced_value (record { balance = balance; nonce = nonce }))

-- a commit, the four accounts, and a commit
unfoldable pub four : List AnyOp
four = CommitFloor None 0 ∷ update_of 1 10 1 ∷ update_of 2 20 2 ∷ update_of 3 30 3 ∷ update_of 4 40 4 ∷ CommitFloor None 0 ∷ []

abbrev pub four_log : LogView AnyOp
four_log = record { front = 0; pinned = []; ops = four }

-- what grows behind it: a fifth account, and a commit
unfoldable pub fifth : List AnyOp
fifth = update_of 5 50 5 ∷ CommitFloor None 0 ∷ []

-- the log of five accounts
abbrev pub five_log : LogView AnyOp
five_log = record { front = 0; pinned = []; ops = four ++ fifth }

-- The values by which promises are tried.
use Rattle.std.specs.Prelude.{ℕ, List, [], ◌∷◌, None, replicate}
use Rattle.sha2.specs.Sha256.{sha256}
use Rattle.ledger_merkle.specs.Leaves.{ListView, leaves_from}
use Rattle.ledger_log.specs.declared.keyless.KeylessOp.{KeylessOp}
use Rattle.ledger_log.specs.declared.keyless.KeylessOp.TheVariants.{Append, Commit}

-- three items of 32 equal bytes
unfoldable pub three_items : List (List ℕ)
three_items = replicate 32 1 ∷ replicate 32 2 ∷ replicate 32 3 ∷ []

-- the list of their leaves
abbrev pub three_leaves : ListView
three_leaves = record { front = 0; pinned = []; leaves = leaves_from sha256 0 three_items }

-- a value, and a commit
unfoldable pub one_more : List KeylessOp
one_more = Append (replicate 32 1) ∷ Commit None 0 ∷ []

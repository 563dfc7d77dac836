use Rattle.std.specs.Prelude.{◌≡◌, ℕ, ◌++◌, Bool, false, not, List, [], ◌∷◌, is_some, replicate}
use Rattle.std.specs.List.{list_any}
use Rattle.std.specs.BTreeSet.{contains}
use Rattle.std.specs.Cmp.Lexicographic.{slice_cmp}
use Rattle.std.specs.Ordering.{nat_cmp}
use Rattle.ledger_log.specs.Any.{any_floor, any_write}
use Rattle.ledger_log.specs.Index.{writes_key}
use Rattle.ledger_log.specs.View.{LogView}
use Rattle.ledger_log.specs.declared.any.AnyOp.{AnyOp}
use Rattle.ledger_log.specs.declared.any.AnyOp.TheVariants.{Update, Delete, CommitFloor}
use Rattle.ledger_activity.specs.declared.later.Later.{Later}

-- one of these operations writes the key
abbrev pub is_written : List ℕ → List AnyOp → Bool
is_written key ops = list_any (λ op. writes_key key (any_write op)) ops

-- one of these operations is a commit
abbrev pub has_commit : List AnyOp → Bool
has_commit ops = list_any (λ op. is_some (any_floor op)) ops

-- an operation is active before these: an Update that is its key's last operation, and the last commit
abbrev pub is_active : AnyOp → List AnyOp → Bool
is_active (Update key value) later = not (is_written key later)
is_active (Delete key) later = false
is_active (CommitFloor metadata floor) later = not (has_commit later)

-- whether each of these operations is active
abbrev pub activity : List AnyOp → List Bool
activity [] = []
activity (op ∷ later) = is_active op later ∷ activity later

-- a bit for each place of a log: below the front none is active
abbrev pub log_bits : LogView AnyOp → List Bool
log_bits log = replicate log.front false ++ activity log.ops

-- what is known of these operations
pub record IsLater (later : Later) (ops : List AnyOp) : Type 0 where
  pub keys : (key : List ℕ) → contains (slice_cmp nat_cmp) later.keys key ≡ is_written key ops
  pub commit : later.commit ≡ has_commit ops

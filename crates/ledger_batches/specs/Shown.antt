-- The root that a database of the family current shows.
use Rattle.std.specs.Prelude.{ℕ, List}
use Rattle.ledger_log.specs.Any.{any_spelling}
use Rattle.ledger_log.specs.View.{LogView, log_root}
use Rattle.ledger_log.specs.declared.any.AnyOp.{AnyOp}
use Rattle.ledger_activity.specs.Active.{log_bits}
use Rattle.ledger_activity.specs.Chunks.{bits_root, canonical_root}

-- the canonical root, over its operations and the bits that tell which of them count
abbrev pub current_root : (List ℕ → List ℕ) → LogView AnyOp → List ℕ
current_root hash log = canonical_root hash (log_root hash any_spelling log) (bits_root hash (log_bits log))

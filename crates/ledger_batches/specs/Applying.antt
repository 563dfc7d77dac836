-- What stands once a sealed batch is applied, or refused on the way.
use Rattle.std.specs.Prelude.{◌≡◌, ℕ, List, [], ◌∷◌, Option, is_some, take, if◌then◌else◌}
use Rattle.ledger_log.specs.View.{LogView}
use Rattle.ledger_log.specs.Faults.{append_refusal}
use Rattle.ledger_compact.specs.View.{with_ops}
use Rattle.ledger_chain.specs.Chain.{LinkView, ops_of}

module _ {Op : Type 0} where
  -- behind the log stand some first ones of these batches, and nothing else
  abbrev pub StandFirst : LogView Op → List (LinkView Op) → LogView Op → Type 0
  StandFirst log links now = (n : ℕ) × (now ≡ with_ops log (ops_of (take n links)))

  -- the log with these batches behind it up to the first that it doesn't take
  abbrev pub with_taken : (Op → Option ℕ) → LogView Op → List (LinkView Op) → LogView Op
  with_taken floor_of log [] = log
  with_taken floor_of log (link ∷ links) = if is_some (append_refusal floor_of log link.ops) then log else with_taken floor_of (with_ops log link.ops) links

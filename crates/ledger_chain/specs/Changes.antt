-- What the writes of a batch change.
use Rattle.std.specs.Prelude.{ℕ, List, Option, Some, None, filter_map, is_none, if◌then◌else◌}
use Rattle.ledger_log.specs.View.{LogView}
use Rattle.ledger_chain.specs.Chain.{ChainView, view}
use Rattle.ledger_chain.specs.Writes.{Write}

module _ {Op : Type 0} where
  -- the operation of a write to a key that has this value before: the deletion of a key that has none is no change
  abbrev pub change_of : (List ℕ → List ℕ → Op) → (List ℕ → Op) → Option (List ℕ) → Write → Option Op
  change_of put delete before (key, Some value) = Some (put key value)
  change_of put delete before (key, None) = if is_none before then None else Some (delete key)

  -- the changes of a batch over this chain and database, in the order of its writes
  abbrev pub changes : (Op → Option Write) → (List ℕ → List ℕ → Op) → (List ℕ → Op) → ChainView Op → LogView Op → List Write → List Op
  changes write_of put delete chain log writes = filter_map (λ w. change_of put delete (view write_of chain log w.0) w) writes

-- What a log means to batches of sets, and what they mean to it.
use Rattle.std.specs.Prelude.{◌≡◌, ℕ, ◌+◌, List, [], ◌∷◌, ◌++◌, length, take, Option, Some, None, is_some, option_map, if◌then◌else◌}
use Rattle.std.specs.Option.{option_or}
use Rattle.ledger_log.specs.View.{batch_floor}
use Rattle.ledger_log.specs.Faults.{batch_refusal}
use Rattle.ledger_log.specs.Immutable.{immutable_floor}
use Rattle.ledger_log.specs.declared.immutable.ImmutableOp.{ImmutableOp}
use Rattle.ledger_log.specs.declared.fault.LogFault.{LogFault}
use Rattle.ledger_chain.specs.Chain.{ChainView, LinkView, missing}
use Rattle.ledger_chain.specs.Faults.{managed_fault, stale_read, stale_batch}
use Rattle.ledger_chain.specs.declared.state.State.{State}
use Rattle.ledger_chain.specs.declared.fault.ManagedFault.{ManagedFault}
use Rattle.ledger_sets.specs.Batches.{SetBatchView, SealedSetsView, batch_ops}

-- its size and root, its floor, and what it is with a batch behind it
pub record Meaning (D : Type 0) : Type 0 where
  pub state : D → State
  pub floor : D → ℕ
  pub behind : D → List ImmutableOp → D

-- a batch adds its operations, its floor is the last, and where two batches leave the log doesn't depend on the cut between them
pub record Laws {D : Type 0} (m : Meaning D) : Type 0 where
  pub size : (db : D) (ops : List ImmutableOp) → (m.state (m.behind db ops)).size ≡ (m.state db).size + length ops
  pub floor : (db : D) (ops : List ImmutableOp) (floor : ℕ) → batch_floor immutable_floor ops ≡ Some floor → m.floor (m.behind db ops) ≡ floor
  pub joined : (db : D) (a b : List ImmutableOp) → m.state (m.behind (m.behind db a) b) ≡ m.state (m.behind db (a ++ b))

module _ {D : Type 0} (m : Meaning D) where
  -- why the log takes no such batch
  abbrev pub refusal : D → List ImmutableOp → Option LogFault
  refusal db ops = batch_refusal (m.state db).size (m.floor db) (length ops) (batch_floor immutable_floor ops)

  -- the log with these batches behind it, one after another
  abbrev pub with_links : D → List (LinkView ImmutableOp) → D
  with_links db [] = db
  with_links db (link ∷ links) = with_links (m.behind db link.ops) links

  -- the same up to the first that it doesn't take
  abbrev pub with_taken : D → List (LinkView ImmutableOp) → D
  with_taken db [] = db
  with_taken db (link ∷ links) = if is_some (refusal db link.ops) then db else with_taken (m.behind db link.ops) links

  -- behind the log stand some first ones of these batches, and nothing else
  abbrev pub StandFirst : D → List (LinkView ImmutableOp) → D → Type 0
  StandFirst db links now = (n : ℕ) × (now ≡ with_links db (take n links))

  -- why it refuses the first of these batches that it doesn't take with those before behind it
  abbrev pub first_refusal : D → List (LinkView ImmutableOp) → Option LogFault
  first_refusal db [] = None
  first_refusal db (link ∷ links) = option_or (refusal db link.ops) (first_refusal (m.behind db link.ops) links)

  -- why it refuses the first of these batches and of one of these operations behind them
  abbrev pub refusal_behind : D → List (LinkView ImmutableOp) → List ImmutableOp → Option LogFault
  refusal_behind db links ops = option_or (first_refusal db links) (refusal (with_links db links) ops)

  -- what a batch of these operations leaves behind the log: itself, and the state after it
  abbrev pub link_behind : D → List ImmutableOp → LinkView ImmutableOp
  link_behind db ops = record { ops = ops; after = m.state (m.behind db ops) }

  -- the batches of the chain that the log lacks
  abbrev pub lacking : ChainView ImmutableOp → D → List (LinkView ImmutableOp)
  lacking chain db = missing chain (m.state db)

  -- the log with them behind it
  abbrev pub completed : ChainView ImmutableOp → D → D
  completed chain db = with_links db (lacking chain db)

  -- why the log takes not all of them with a batch of these operations behind them, as that is answered
  abbrev pub log_refusal : ChainView ImmutableOp → D → List ImmutableOp → Option ManagedFault
  log_refusal chain db ops = option_map managed_fault (refusal_behind db (lacking chain db) ops)

  -- the batch sealed
  abbrev pub sealed : SetBatchView → D → SealedSetsView
  sealed batch db = record { chain = batch.chain; own = link_behind (completed batch.chain db) (batch_ops batch) }

  -- why a batch can't be sealed over the log
  abbrev pub seal_refusal : SetBatchView → D → Option ManagedFault
  seal_refusal batch db = option_or (stale_read batch.chain (m.state db)) (log_refusal batch.chain db (batch_ops batch))

  -- why a sealed batch can't be applied to the log
  abbrev pub apply_refusal : SealedSetsView → D → Option ManagedFault
  apply_refusal batch db = option_or (stale_batch batch.chain (m.state db)) (log_refusal batch.chain db batch.own.ops)

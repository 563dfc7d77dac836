-- What a sealed batch appends, and why a batch can't be sealed or applied.
use Rattle.std.specs.Prelude.{ℕ, List, Option, option_map}
use Rattle.std.specs.Option.{option_or}
use Rattle.ledger_log.specs.View.{LogView}
use Rattle.ledger_compact.specs.View.{with_ops}
use Rattle.ledger_raising.specs.Raised.{raised}
use Rattle.ledger_chain.specs.Chain.{ChainView, LinkView, state_of, missing, ops_of}
use Rattle.ledger_chain.specs.Changes.{changes}
use Rattle.ledger_chain.specs.Writes.{Write}
use Rattle.ledger_chain.specs.Faults.{managed_fault, stale_read, stale_batch, refusal_behind}
use Rattle.ledger_chain.specs.declared.fault.ManagedFault.{ManagedFault}
use Rattle.ledger_batches.specs.Batches.{BatchView, SealedView}

-- what a batch with these operations leaves behind the log: itself, and the state after it
abbrev pub link_behind : {Op : Type 0} → (List ℕ → List ℕ) → (Op → List ℕ) → LogView Op → List Op → LinkView Op
link_behind hash spelling log ops = record { ops = ops; after = state_of hash spelling (with_ops log ops) }

module _ {Op : Type 0} (hash : List ℕ → List ℕ) (spelling : Op → List ℕ) where
  -- the batches of the chain that the log lacks
  abbrev pub lacking : ChainView Op → LogView Op → List (LinkView Op)
  lacking chain log = missing chain (state_of hash spelling log)

  -- the log with them behind it
  abbrev pub completed : ChainView Op → LogView Op → LogView Op
  completed chain log = with_ops log (ops_of (lacking chain log))

  -- why the log takes not all of them with a batch of these operations behind them, as that is answered
  abbrev pub log_refusal : (Op → Option ℕ) → ChainView Op → LogView Op → List Op → Option ManagedFault
  log_refusal floor_of chain log ops = option_map managed_fault (refusal_behind floor_of log (lacking chain log) ops)

  -- why a sealed batch can't be applied to the log
  abbrev pub apply_refusal : (Op → Option ℕ) → SealedView Op → LogView Op → Option ManagedFault
  apply_refusal floor_of batch log = option_or (stale_batch batch.chain (state_of hash spelling log)) (log_refusal floor_of batch.chain log batch.own.ops)

  module _ (floor_of : Op → Option ℕ) (write_of : Op → Option Write) (put : List ℕ → List ℕ → Op) (delete : List ℕ → Op) (commit_of : Option (List ℕ) → ℕ → Op) where
    -- what a batch appends: what its changes raise behind the log and the batches that this lacks
    abbrev pub batch_ops : BatchView Op → LogView Op → List Op
    batch_ops batch log = raised floor_of write_of commit_of (completed batch.chain log) (changes write_of put delete batch.chain log batch.writes) batch.metadata

    -- the batch sealed
    abbrev pub sealed : BatchView Op → LogView Op → SealedView Op
    sealed batch log = record { chain = batch.chain; own = link_behind hash spelling (completed batch.chain log) (batch_ops batch log) }

    -- why a batch can't be sealed over the log
    abbrev pub seal_refusal : BatchView Op → LogView Op → Option ManagedFault
    seal_refusal batch log = option_or (stale_read batch.chain (state_of hash spelling log)) (log_refusal floor_of batch.chain log (batch_ops batch log))

-- When batches are refused.
use Rattle.std.specs.Prelude.{ℕ, List, [], ◌∷◌, Option, Some, None, is_some, if◌then◌else◌}
use Rattle.std.specs.Option.{option_or}
use Rattle.ledger_log.specs.View.{LogView}
use Rattle.ledger_log.specs.Faults.{append_refusal}
use Rattle.ledger_log.specs.declared.fault.LogFault.{LogFault}
use Rattle.ledger_log.specs.declared.fault.LogFault.TheVariants.{OutOfMemory}
use Rattle.ledger_compact.specs.View.{with_ops}
use Rattle.ledger_chain.specs.Chain.{LinkView, ChainView, ops_of, place}
use Rattle.ledger_chain.specs.declared.state.State.{State}
use Rattle.ledger_chain.specs.declared.fault.ManagedFault.{ManagedFault}
use Rattle.ledger_chain.specs.declared.fault.ManagedFault.TheVariants.{StaleRead, StaleBatch, Log, OutOfMemory as ManagedMemory}

-- how a log's refusal is answered
abbrev pub managed_fault : LogFault → ManagedFault
managed_fault OutOfMemory = ManagedMemory
managed_fault fault = Log fault

-- why a batch over this chain can't be read over a database in this state
abbrev pub stale_read : {Op : Type 0} → ChainView Op → State → Option ManagedFault
stale_read chain state = if is_some (place chain state) then None else Some (StaleRead state.size state.root)

-- why a batch over this chain can't be applied to a database in this state
abbrev pub stale_batch : {Op : Type 0} → ChainView Op → State → Option ManagedFault
stale_batch chain state = if is_some (place chain state) then None else Some (StaleBatch state.size state.root)

module _ {Op : Type 0} (floor_of : Op → Option ℕ) where
  -- why the log refuses the first of these batches that it doesn't take with those before behind it
  abbrev pub first_refusal : LogView Op → List (LinkView Op) → Option LogFault
  first_refusal log [] = None
  first_refusal log (link ∷ links) = option_or (append_refusal floor_of log link.ops) (first_refusal (with_ops log link.ops) links)

  -- why it refuses the first of these batches and of one of these operations behind them
  abbrev pub refusal_behind : LogView Op → List (LinkView Op) → List Op → Option LogFault
  refusal_behind log links ops = option_or (first_refusal log links) (append_refusal floor_of (with_ops log (ops_of links)) ops)

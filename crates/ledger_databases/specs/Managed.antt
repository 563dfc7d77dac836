-- What databases answer.
use Rattle.std.specs.Prelude.{Bool, [], Option, None, Some, if◌then◌else◌}
use Rattle.ledger_chain.specs.declared.state.State.{State}
use Rattle.ledger_batches.specs.Batches.{BatchView}
use Rattle.ledger_databases.specs.declared.fault.InitFault.{InitFault}
use Rattle.ledger_databases.specs.declared.fault.InitFault.TheVariants.{Mismatch}

-- why a database isn't made: another target is expected than that of a fresh one
abbrev pub init_refusal : {T : Type 0} → (T → T → Bool) → T → Option T → Option (InitFault T)
init_refusal same initial None = None
init_refusal same initial (Some target) = if same target initial then None else Some (Mismatch initial)

-- a batch without writes over a database in this state
abbrev pub unwritten : {Op : Type 0} → State → BatchView Op
unwritten state = record { chain = record { base = state; links = [] }; writes = []; metadata = None }

-- The log with which databases begin, fetched over a link whose calls don't fail.
use Rattle.std.proofs.Common.{◌≡◌, ℕ, Result, Err, refl}
use Rattle.std.specs.Prelude.{IsOkUnless}
use Rattle.ledger_log.specs.Any.{any_spelling}
use Rattle.ledger_log.specs.View.{LogView}
use Rattle.ledger_log.specs.declared.any.AnyOp.{AnyOp}
use Rattle.ledger_sync.specs.Brought.{MayFail}
use Rattle.ledger_sync.specs.Served.{log_from}
use Rattle.sync_client.specs.declared.fault.SyncFault.TheVariants as session
use Rattle.sync_fetch.specs.States.{KeptAndNoNetwork}
use Rattle.sync_fetch.specs.declared.fault.StateFault.{StateFault}
use Rattle.sync_fetch.specs.declared.fault.StateFault.TheVariants.{Fetch, WrongState}
use Rattle.sync_program.specs.Fresh.{fresh_any}

-- from its floor on it is whole
pub whole : log_from any_spelling fresh_any 0 ≡ fresh_any
whole = refl

-- where no call of the link failed, only memory was wanting
pub only_memory : (fault : StateFault) (before now : ℕ) → MayFail fault → KeptAndNoNetwork {X = LogView AnyOp} (Err fault) before now → IsOkUnless {T = LogView AnyOp} (Err fault) (Fetch session.OutOfMemory)
only_memory (WrongState fault) before now may calm = absurd may
only_memory (Fetch session.Network) before now may calm = absurd calm
only_memory (Fetch session.RequestChannelClosed) before now may calm = absurd may
only_memory (Fetch session.InvalidResponse) before now may calm = absurd may
only_memory (Fetch (session.UnexpectedResponse number)) before now may calm = absurd may
only_memory (Fetch (session.Server code text)) before now may calm = absurd may
only_memory (Fetch (session.InvalidProof number)) before now may calm = absurd may
only_memory (Fetch session.TooManyStrays) before now may calm = absurd may
only_memory (Fetch (session.StaleUpdate start end)) before now may calm = absurd may
only_memory (Fetch (session.WrongRoot found)) before now may calm = absurd may
only_memory (Fetch session.Closed) before now may calm = absurd may
only_memory (Fetch session.Exhausted) before now may calm = absurd may
only_memory (Fetch session.OutOfMemory) before now may calm = refl

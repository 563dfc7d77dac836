-- What is fetched over a link that serves a log whole.
use Rattle.std.specs.Prelude.{◌≡◌, ℕ, [], ◌∷◌, None, Result, Ok, Err, ⊤}
use Rattle.ledger_log.specs.Keyless.{keyless_commit}
use Rattle.ledger_log.specs.declared.keyless.KeylessOp.{KeylessOp}
use Rattle.ledger_log.specs.declared.target.CompactTarget.{CompactTarget}
use Rattle.ledger_log.specs.declared.target.Target.{Target}
use Rattle.ledger_merkle.specs.declared.proof.Part.{Part as Fetched}
use Rattle.sync_client.specs.Owing.{MayStop}
use Rattle.sync_client.specs.declared.fault.SyncFault.{SyncFault}
use Rattle.sync_client.specs.declared.fault.SyncFault.TheVariants.{Network, Server, OutOfMemory}
use Rattle.sync_net.specs.Core.{unexpected}

-- it has none, and says that the message is none of its kind, unless memory was wanting
abbrev pub IsRefusal : Result CompactTarget SyncFault → Type 0
IsRefusal (Err (Server code text)) = (code ≡ unexpected.code) × (text ≡ unexpected.text)
IsRefusal (Err OutOfMemory) = ⊤
IsRefusal result = ⊥

-- the part is the one operation with which a log begins; or memory was wanting, or no number was left
abbrev pub IsFreshPart : Result (Target × Fetched KeylessOp) SyncFault → Type 0
IsFreshPart (Ok x) = x.1.ops ≡ keyless_commit None 0 ∷ []
IsFreshPart (Err Network) = ⊥
IsFreshPart (Err fault) = MayStop fault

-- What an answer says of the link's count of faults.
use Rattle.std.specs.Prelude.{◌≡◌, ℕ, Result, Err}
use Rattle.sync_client.specs.declared.fault.SyncFault.{SyncFault}
use Rattle.sync_client.specs.declared.fault.SyncFault.TheVariants as faults

-- each answer but Network leaves the count
abbrev pub CountKept : {X : Type 0} → Result X SyncFault → ℕ → ℕ → Type 0
CountKept (Err faults.Network) before now = Unit {0}
CountKept result before now = now ≡ before

-- the count stays, and Network isn't answered
abbrev pub NeverNetwork : {X : Type 0} → Result X SyncFault → ℕ → ℕ → Type 0
NeverNetwork (Err faults.Network) before now = ⊥
NeverNetwork result before now = now ≡ before

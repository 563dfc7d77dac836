-- Fetches over links whose calls don't fail.
use Rattle.std.proofs.Common.{◌≡◌, ℕ, Result, Err, subst}
use Rattle.sync_client.specs.declared.fault.SyncFault.TheVariants.{Network}
use Rattle.sync_fetch.specs.States.{KeptAndNoNetwork}
use Rattle.sync_fetch.specs.declared.fault.StateFault.{StateFault}
use Rattle.sync_fetch.specs.declared.fault.StateFault.TheVariants.{Fetch}

pub no_network : {X : Type 0} (result : Result X StateFault) (before now : ℕ) → KeptAndNoNetwork result before now → result ≡ Err (Fetch Network) → ⊥
no_network {X} result before now never is = subst (λ (r : Result X StateFault). KeptAndNoNetwork r before now) is never

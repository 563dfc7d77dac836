-- A new machine's fetch of a compact target over a link that serves a log whole, and whose calls don't fail.
use Rattle.std.proofs.Common.{◌≡◌, ℕ, List, [], Option, Some, None, Result, Ok, Err, refl, sym, ap, subst, ◌∙◌, arith}
use Rattle.ledger_codec.specs.Parsing.{Parsed}
use Rattle.ledger_log.specs.declared.target.CompactTarget.{CompactTarget}
use Rattle.sync_client.specs.Counts.{NeverNetwork}
use Rattle.sync_client.specs.Owing.{Begins, OwesNothing}
use Rattle.sync_client.specs.declared.fault.SyncFault.{SyncFault}
use Rattle.sync_client.specs.declared.fault.SyncFault.TheVariants as sync
use Rattle.sync_fetch.specs.Served.{RefusesCompact}
use Rattle.sync_fetch.specs.Told.{CompactTargetFetched}
use Rattle.sync_net.specs.Core.{LogData}
use Rattle.sync_net.specs.Service.{Service}
use Rattle.sync_net.specs.View.{MachineView}
use Rattle.sync_net.specs.Wire.{Wire}
use Rattle.promise_cases.specs.Served.{IsRefusal}
use Rattle.promise_cases.proofs.Fetches.{new_machine}

pub begins : (held : LogData) (m : MachineView) (now : Option Service) → m ≡ new_machine → OwesNothing held now → Begins held m now
begins held m now new told = subst (λ (x : MachineView). Begins held x now) (sym new) (record { live = refl; empty = refl; small = λ n h. (let one : 1 ≡ n = cc h in omega arith); told = told })

pub refused : {Op : Type 0} (read : List ℕ → Parsed Op) (written : Op → List ℕ) (held : LogData) (m n : MachineView) (now : Option Service) (result : Result CompactTarget SyncFault) (before told : Option Wire) (count risen : ℕ) → m ≡ new_machine
    → RefusesCompact held result now → NeverNetwork result count risen → CompactTargetFetched result read written m n before told count risen → IsRefusal result
refused read written held m n now (Ok target) before told count risen new h s t = absurd h
refused read written held m n now (Err (sync.Server code text)) before told count risen new h s t = (h.0, h.1)
refused read written held m n now (Err sync.OutOfMemory) before told count risen new h s t = tt
refused read written held m n now (Err sync.Network) before told count risen new h s t = absurd s
refused read written held m n now (Err sync.Exhausted) before told count risen new h s t = absurd (let x : None ≡ Some 1 = sym t.1 ∙ ap (λ (v : MachineView). v.next) new in cc)
refused read written held m n now (Err sync.RequestChannelClosed) before told count risen new h s t = absurd h
refused read written held m n now (Err sync.InvalidResponse) before told count risen new h s t = absurd h
refused read written held m n now (Err (sync.UnexpectedResponse number)) before told count risen new h s t = absurd h
refused read written held m n now (Err (sync.InvalidProof number)) before told count risen new h s t = absurd h
refused read written held m n now (Err sync.TooManyStrays) before told count risen new h s t = absurd h
refused read written held m n now (Err (sync.StaleUpdate start end)) before told count risen new h s t = absurd h
refused read written held m n now (Err (sync.WrongRoot found)) before told count risen new h s t = absurd h
refused read written held m n now (Err sync.Closed) before told count risen new h s t = absurd h

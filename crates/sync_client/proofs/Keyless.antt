-- A keyless log that a link serves, fetched where no later target is named.
use Rattle.std.proofs.Common.{◌≡◌, ℕ, ◌-◌, ◌<◌, ◌^◌, false, List, [], ◌∷◌, ◌++◌, Option, Some, Ok, refl, sym, ap, subst, ◌∙◌, arith}
use Rattle.ledger_merkle.specs.declared.proof.Part.{Part as Fetched}
use Rattle.ledger_log.specs.Keyless.{keyless_spelling, IsSoundKeyless}
use Rattle.ledger_log.specs.View.{log_range}
use Rattle.ledger_log.specs.declared.keyless.KeylessOp.{KeylessOp}
use Rattle.ledger_log.specs.declared.target.Target.{Target}
use Rattle.sync_net.specs.Core.{LogData}
use Rattle.sync_net.specs.Service.{Service}
use Rattle.sync_net.specs.View.{MachineView}
use Rattle.sync_client.specs.Owing.{Begins, OwesNothing, Fetches}
use Rattle.sync_client.specs.Serving.{Serves}
use Rattle.sync_client.specs.Updates.{TakesUpdates, targets_in, last_of}

-- with a new machine
pub keyless_begins : (held : LogData) (m : MachineView) (now : Option Service) → m ≡ record { next = Some 1; pending = []; held = []; closed = false } → OwesNothing held now → Begins held m now
keyless_begins held m now e told = subst (λ (x : MachineView). Begins held x now) (sym e) (record { live = refl; empty = refl; small = λ n h. (let one : 1 ≡ n = cc h in omega arith); told = told })

nothing_taken : (took now : List (Option Target)) → [] ≡ took ++ now → took ≡ []
nothing_taken [] now e = refl
nothing_taken (x ∷ took) now e = absurd (cc e)

-- the part is the log's own of the given target
pub keyless_fetched : (held : LogData) (target synced : Target) (h : Serves keyless_spelling IsSoundKeyless held target) (part : Fetched KeylessOp) (m : MachineView) (now : Option Service) → TakesUpdates (Ok (synced, part)) target [] [] → Fetches keyless_spelling held h.log (Ok (synced, part)) m now
    → part.ops ≡ log_range h.log target.start (target.end - target.start)
keyless_fetched held target synced h part m now t f =
    let none : t.0 ≡ [] = nothing_taken t.0 [] t.1.all in
    let end : synced.end ≡ target.end = t.2.end ∙ ap (λ (l : List (Option Target)). (last_of target (targets_in l)).end) none in
    f.ops ∙ (ap (λ n. log_range h.log n (synced.end - n)) t.2.start ∙ ap (λ e. log_range h.log target.start (e - target.start)) end)

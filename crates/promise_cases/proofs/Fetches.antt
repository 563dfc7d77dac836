-- What came of a fetch over a tape: the exchange over the bytes that it gave has no other end.
use Rattle.std.proofs.Common.{◌≡◌, ℕ, Bool, ◌||◌, false, List, [], ◌++◌, Option, Some, Result, Ok, Err, sym, ap, subst, ◌∙◌}
use Rattle.std.specs.Prelude.{IfOk, unwrap_or}
use Rattle.ledger_log.specs.Any.{any_spelling}
use Rattle.ledger_log.specs.Spellings.{any_at}
use Rattle.ledger_log.specs.declared.any.AnyOp.{AnyOp}
use Rattle.ledger_log.specs.declared.target.Target.{Target}
use Rattle.sync_client.specs.Counts.{NeverNetwork}
use Rattle.sync_client.specs.Ending.{wire_after}
use Rattle.sync_client.specs.declared.fault.SyncFault.{SyncFault}
use Rattle.sync_client.specs.declared.fault.SyncFault.TheVariants as sync
use Rattle.sync_fetch.specs.Exchange.{Answered, Exchange, OneWay, Reply}
use Rattle.sync_fetch.specs.States.{KeptAndNoNetwork}
use Rattle.sync_fetch.specs.Told.{TargetFetched, pending_of}
use Rattle.sync_fetch.specs.declared.fault.StateFault.{StateFault}
use Rattle.sync_fetch.specs.declared.fault.StateFault.TheVariants as states
use Rattle.sync_net.specs.declared.ask.Ask.TheVariants as asks
use Rattle.sync_net.specs.declared.message.Message.TheVariants as messages
use Rattle.sync_net.specs.declared.response.GetSyncTargetResponse.{GetSyncTargetResponse}
use Rattle.sync_net.specs.Asking.{ask_frame}
use Rattle.sync_net.specs.View.{MachineView}
use Rattle.sync_net.specs.Wire.{Wire}
use Rattle.sync_server.specs.Links.{TapeView, tape_wire}

-- a machine that asked nothing yet
abbrev pub new_machine : MachineView
new_machine = record { next = Some 1; pending = []; held = []; closed = false }

-- the exchange of the first request of a new machine
abbrev pub First : List ℕ → Bool → Reply AnyOp → Type 0
First bytes ended reply = Exchange any_at (pending_of 1 asks.SyncTarget) bytes ended reply

pub only_end : (target : Target) (m n : MachineView) (old now : TapeView) (count risen : ℕ) → m ≡ new_machine → old.given ≡ [] → old.ended ≡ false
    → TargetFetched (Ok target) any_at any_spelling m n (Some (tape_wire old)) (Some (tape_wire now)) count risen → OneWay any_at
    → (other : Reply AnyOp) → First now.given now.ended other → (answer : GetSyncTargetResponse) × (answer.target ≡ target) × (other ≡ Answered (messages.GetSyncTargetResponse answer))
only_end target m n old now count risen new none going fetched way other x =
    let number : ℕ = fetched.2.1 in
    let came = fetched.2.3 in
    let h = came.heard in
    let reply : Reply AnyOp = Answered (messages.GetSyncTargetResponse fetched.0) in
    let drawn : Some number ≡ Some 1 = sym fetched.2.2 ∙ ap (λ (v : MachineView). v.next) new in
    let one : number ≡ 1 = cc drawn in
    let told : tape_wire now ≡ wire_after h.given h.ended (ask_frame any_spelling number asks.SyncTarget) (tape_wire old) = ap (λ (o : Option Wire). unwrap_or o (tape_wire old)) h.told in
    let given : now.given ≡ h.given = ap (λ (w : Wire). w.given) told ∙ ap (λ (bytes : List ℕ). bytes ++ h.given) none in
    let ended : now.ended ≡ h.ended = ap (λ (w : Wire). w.ended) told ∙ ap (λ (b : Bool). b || h.ended) going in
    let held : m.held ++ h.given ≡ now.given = ap (λ (v : MachineView). v.held ++ h.given) new ∙ sym given in
    let over : Exchange any_at (pending_of number asks.SyncTarget) now.given h.ended reply = subst (λ (bytes : List ℕ). Exchange any_at (pending_of number asks.SyncTarget) bytes h.ended reply) held h.exchange in
    let over_all : Exchange any_at (pending_of number asks.SyncTarget) now.given now.ended reply = subst (λ (b : Bool). Exchange any_at (pending_of number asks.SyncTarget) now.given b reply) (sym ended) over in
    let is : First now.given now.ended reply = subst (λ (k : ℕ). Exchange any_at (pending_of k asks.SyncTarget) now.given now.ended reply) one over_all in
    (fetched.0, fetched.1, sym (way (pending_of 1 asks.SyncTarget) now.given now.ended reply other is x))

pub only_ends : (result : Result Target SyncFault) (m n : MachineView) (old now : TapeView) (count risen : ℕ) → m ≡ new_machine → old.given ≡ [] → old.ended ≡ false
    → TargetFetched result any_at any_spelling m n (Some (tape_wire old)) (Some (tape_wire now)) count risen → OneWay any_at
    → IfOk result (λ target. (other : Reply AnyOp) → First now.given now.ended other → (answer : GetSyncTargetResponse) × (answer.target ≡ target) × (other ≡ Answered (messages.GetSyncTargetResponse answer)))
only_ends (Ok target) m n old now count risen new none going fetched way = only_end target m n old now count risen new none going fetched way
only_ends (Err fault) m n old now count risen new none going fetched way = tt

-- ---- links whose calls don't fail

pub no_network : {X : Type 0} (result : Result X SyncFault) (before now : ℕ) → NeverNetwork result before now → result ≡ Err sync.Network → ⊥
no_network {X} result before now never is = subst (λ (r : Result X SyncFault). NeverNetwork r before now) is never

pub no_network_for_a_state : {X : Type 0} (result : Result X StateFault) (before now : ℕ) → KeptAndNoNetwork result before now → result ≡ Err (states.Fetch sync.Network) → ⊥
no_network_for_a_state {X} result before now never is = subst (λ (r : Result X StateFault). KeptAndNoNetwork r before now) is never

-- What the parts of a fetch answer.
use Rattle.std.specs.Prelude.{◌≡◌, ◌⊎◌, ◌≤◌, ℕ, Bool, true, false, List, [], ◌∷◌, ◌++◌, length, Option, Some, None, Result, Ok, Err, option_map}
use Rattle.ledger_codec.specs.Causes.{Rose}
use Rattle.ledger_codec.specs.declared.framing.FrameError.{FrameError}
use Rattle.ledger_codec.specs.Parsing.{Parsed}
use Rattle.ledger_codec.specs.Frames.{Short, Bad, front, Leads}
use Rattle.ledger_log.specs.declared.target.Target.{Target}
use Rattle.ledger_log.specs.declared.target.CompactTarget.{CompactTarget}
use Rattle.sync_net.specs.declared.ask.Ask.{Ask}
use Rattle.sync_net.specs.declared.ask.Ask.TheVariants as asks
use Rattle.sync_net.specs.declared.ask.Pending.{Pending}
use Rattle.sync_net.specs.declared.ask.Answer.{Answer}
use Rattle.sync_net.specs.declared.ask.Submitted.{Submitted}
use Rattle.sync_net.specs.declared.fault.MachineFault.TheVariants as machine
use Rattle.sync_net.specs.declared.fault.SubmitRefusal.{SubmitRefusal}
use Rattle.sync_net.specs.declared.fault.SubmitRefusal.TheVariants as refusals
use Rattle.sync_net.specs.declared.message.Message.{Message}
use Rattle.sync_net.specs.declared.message.Message.TheVariants as messages
use Rattle.sync_net.specs.declared.response.GetSyncTargetResponse.{GetSyncTargetResponse}
use Rattle.sync_net.specs.declared.response.GetCompactTargetResponse.{GetCompactTargetResponse}
use Rattle.sync_net.specs.Asks.{is_response_to}
use Rattle.sync_net.specs.Asking.{Answers, ask_frame, number_after}
use Rattle.sync_net.specs.View.{MachineView}
use Rattle.sync_net.specs.Wire.{Wire, with_sent}
use Rattle.sync_client.specs.declared.fault.SyncFault.{SyncFault}
use Rattle.sync_client.specs.declared.fault.SyncFault.TheVariants as faults
use Rattle.sync_client.specs.Session.{InvalidResponse, UnexpectedResponse, Server, TooManyStrays}
use Rattle.sync_client.specs.Ending.{Since}
use Rattle.sync_fetch.specs.Exchange.{Exchange, Strays, IsRead, Reply, Answered, Refused, Closed, Pends}

-- a request that was made was sent; one that wasn't made says why
abbrev pub Sends : Result (Unit {0}) SyncFault → Result Submitted SubmitRefusal → Option Wire → Option Wire → ℕ → ℕ → Type 0
Sends (Ok x) made before now count risen = (s : Submitted) × (made ≡ Ok s) × (now ≡ option_map (with_sent s.frame.items) before) × (count ≤ risen)
Sends (Err faults.Network) made before now count risen = (s : Submitted) × (made ≡ Ok s) × (now ≡ before) × Rose count risen
Sends (Err faults.Closed) made before now count risen = (made ≡ Err refusals.Closed) × (now ≡ before) × (risen ≡ count)
Sends (Err faults.Exhausted) made before now count risen = (made ≡ Err refusals.Exhausted) × (now ≡ before) × (risen ≡ count)
Sends (Err faults.OutOfMemory) made before now count risen = (now ≡ before) × (count ≤ risen) × ((made ≡ Err refusals.OutOfMemory) ⊎ ((s : Submitted) × (made ≡ Ok s)))
Sends (Err e) made before now count risen = ⊥

-- the machine's answer
abbrev pub HeldAnswer : {Op : Type 0} → Result (Option (Answer Op)) SyncFault → (List ℕ → Parsed Op) → MachineView → MachineView → Type 0
HeldAnswer (Ok found) read old now = Answers read (Ok found) old now
HeldAnswer (Err faults.InvalidResponse) read old now = Answers read (Err machine.InvalidResponse) old now
HeldAnswer (Err (faults.UnexpectedResponse number)) read old now = Answers read (Err (machine.UnexpectedResponse number)) old now
HeldAnswer (Err (faults.Server code text)) read old now = Answers read (Err (machine.Server code text)) old now
HeldAnswer (Err faults.RequestChannelClosed) read old now = Answers read (Err machine.RequestChannelClosed) old now
HeldAnswer (Err faults.Closed) read old now = Answers read (Err machine.Closed) old now
HeldAnswer (Err faults.OutOfMemory) read old now = Answers read (Err machine.OutOfMemory) old now
HeldAnswer (Err e) read old now = ⊥

-- with these bytes behind those that are held
abbrev pub fed : MachineView → List ℕ → MachineView
fed m given = record m { held = m.held ++ given }

-- What was given over held bytes was read where they were the beginning of a frame: it is nothing, or else its last piece, which no buffer exceeds, came over such a beginning.
abbrev pub IsDrawn : List ℕ → List ℕ → Type 0
IsDrawn held given = (given ≡ []) ⊎ ((first : List ℕ) × (piece : List ℕ) × (given ≡ first ++ piece) × (length piece ≤ 4096) × (front 10485760 (held ++ first) ≡ Short))

-- The machine's answer after more bytes came. Where memory was wanting, the bytes that came last may be lost; the machine holds the others.
abbrev pub NextAnswer : {Op : Type 0} → Result (Answer Op) SyncFault → (List ℕ → Parsed Op) → MachineView → MachineView → Option Wire → Option Wire → ℕ → ℕ → Type 0
NextAnswer (Ok answer) read m n before now count risen = (given : List ℕ) × Since before now given false [] × (count ≤ risen) × Answers read (Ok (Some answer)) (fed m given) n × IsDrawn m.held given
NextAnswer (Err faults.InvalidResponse) read m n before now count risen = (given : List ℕ) × Since before now given false [] × Answers read (Err machine.InvalidResponse) (fed m given) n × IsDrawn m.held given
NextAnswer (Err (faults.UnexpectedResponse number)) read m n before now count risen = (given : List ℕ) × Since before now given false [] × Answers read (Err (machine.UnexpectedResponse number)) (fed m given) n × IsDrawn m.held given
NextAnswer (Err (faults.Server code text)) read m n before now count risen = (given : List ℕ) × Since before now given false [] × Answers read (Err (machine.Server code text)) (fed m given) n × IsDrawn m.held given
NextAnswer (Err faults.RequestChannelClosed) read m n before now count risen = (given : List ℕ) × (ended : Bool) × Since before now given ended [] × (((bad : FrameError) × (front 10485760 (m.held ++ given) ≡ Bad bad) × (ended ≡ false)) ⊎ ((front 10485760 (m.held ++ given) ≡ Short) × (ended ≡ true))) × (n.closed ≡ true) × IsDrawn m.held given
NextAnswer (Err faults.Network) read m n before now count risen = (given : List ℕ) × Since before now given false [] × Rose count risen × (front 10485760 (m.held ++ given) ≡ Short) × (n ≡ fed m given) × IsDrawn m.held given
NextAnswer (Err faults.OutOfMemory) read m n before now count risen = (given : List ℕ) × (lost : List ℕ) × Since before now (given ++ lost) false [] × (count ≤ risen) × (n ≡ fed m given) × IsDrawn m.held given × ((lost ≡ []) ⊎ ((length lost ≤ 4096) × (front 10485760 (m.held ++ given) ≡ Short)))
NextAnswer (Err e) read m n before now count risen = ⊥

-- The waiting for the answer to a request ended so: these bytes were given, and those were sent. Nothing was read once it had ended.
pub record Heard {Op : Type 0} (read : List ℕ → Parsed Op) (p : Pending) (held sent : List ℕ) (before now : Option Wire) (reply : Reply Op) : Type 0 where
  pub given : List ℕ
  pub ended : Bool
  pub exchange : Exchange read p (held ++ given) ended reply
  pub told : Since before now given ended sent
  pub drawn : IsRead read p held given
  pub waited : ended ≡ true → Exchange read p (held ++ given) false Pends

-- Memory was wanting. So far strays alone were taken, and the machine, which isn't closed, holds what is behind them; the request is still pending. Bytes that it doesn't hold came last, while it waited.
pub record Starved {Op : Type 0} (read : List ℕ → Parsed Op) (p : Pending) (held sent : List ℕ) (before now : Option Wire) (n : MachineView) : Type 0 where
  pub given : List ℕ
  pub lost : List ℕ
  pub bodies : List (List ℕ)
  pub strays : ℕ
  pub led : Leads 10485760 (held ++ given) bodies n.held
  pub passed : Strays read p 0 bodies strays
  pub told : Since before now (given ++ lost) false sent
  pub drawn : IsRead read p held given
  pub waited : (lost ≡ []) ⊎ ((length lost ≤ 4096) × Exchange read p (held ++ given) false Pends)
  pub live : n.closed ≡ false
  pub pending : n.pending ≡ p ∷ []

-- The answer came: nothing is pending, and what is behind its frame is held.
pub record Came {Op : Type 0} (read : List ℕ → Parsed Op) (p : Pending) (held sent : List ℕ) (before now : Option Wire) (m : Message Op) (next : Option ℕ) (n : MachineView) : Type 0 where
  pub heard : Heard read p held sent before now (Answered m)
  pub kind : is_response_to p.ask m ≡ true
  pub live : n.closed ≡ false
  pub nothing_pending : n.pending ≡ []
  pub number_next : n.next ≡ next
  pub left : n.held ≡ heard.exchange.ends.1

-- why no answer came, and what the machine is then
abbrev pub Stops : {Op : Type 0} → SyncFault → (List ℕ → Parsed Op) → Pending → List ℕ → List ℕ → Option Wire → Option Wire → ℕ → ℕ → MachineView → Type 0
Stops faults.Network read p held sent before now count risen n = Rose count risen × (n.closed ≡ false) × (h : Heard read p held sent before now Pends) × (n.held ≡ h.exchange.rest)
Stops faults.RequestChannelClosed read p held sent before now count risen n = (n.closed ≡ true) × Heard read p held sent before now Closed
Stops faults.InvalidResponse read p held sent before now count risen n = (n.closed ≡ true) × Heard read p held sent before now (Refused InvalidResponse)
Stops (faults.UnexpectedResponse number) read p held sent before now count risen n = (n.closed ≡ true) × Heard read p held sent before now (Refused (UnexpectedResponse number))
Stops (faults.Server code text) read p held sent before now count risen n = (n.closed ≡ true) × Heard read p held sent before now (Refused (Server code text))
Stops faults.TooManyStrays read p held sent before now count risen n = (n.closed ≡ false) × Heard read p held sent before now (Refused TooManyStrays)
Stops faults.OutOfMemory read p held sent before now count risen n = (count ≤ risen) × Starved read p held sent before now n
Stops e read p held sent before now count risen n = ⊥

-- what came of one pending request
abbrev pub Awaits : {Op : Type 0} → Result (Message Op) SyncFault → (List ℕ → Parsed Op) → Pending → MachineView → MachineView → Option Wire → Option Wire → ℕ → ℕ → Type 0
Awaits (Ok m) read p old n before now count risen = Came read p old.held [] before now m old.next n
Awaits (Err fault) read p old n before now count risen = Stops fault read p old.held [] before now count risen n

-- ---- whole fetches

-- the request is made under the machine's next number, and its frame is sent
abbrev pub pending_of : ℕ → Ask → Pending
pending_of number ask = record { number = number; ask = ask }

-- the request was made and not sent: it is pending, and the machine holds what it held
abbrev pub Unsent : Ask → MachineView → MachineView → Option Wire → Option Wire → Type 0
Unsent ask m n before now = (number : ℕ) × (m.next ≡ Some number) × (n.closed ≡ false) × (n.held ≡ m.held) × (n.pending ≡ pending_of number ask ∷ []) × (now ≡ before)

-- why nothing was fetched: the machine was closed, it has no number, the request wasn't sent, or no answer came to it
abbrev pub FetchStops : {Op : Type 0} → SyncFault → (List ℕ → Parsed Op) → (Op → List ℕ) → Ask → MachineView → MachineView → Option Wire → Option Wire → ℕ → ℕ → Type 0
FetchStops faults.Closed read written ask m n before now count risen = (m.closed ≡ true) × (n ≡ m) × (now ≡ before) × (risen ≡ count)
FetchStops faults.Exhausted read written ask m n before now count risen = (m.closed ≡ false) × (m.next ≡ None) × (n ≡ m) × (now ≡ before) × (risen ≡ count)
FetchStops faults.Network read written ask m n before now count risen = (m.closed ≡ false) × Rose count risen × (n.closed ≡ false) × (number : ℕ) × (m.next ≡ Some number) × (((now ≡ before) × (n.held ≡ m.held)) ⊎ ((h : Heard read (pending_of number ask) m.held (ask_frame written number ask) before now Pends) × (n.held ≡ h.exchange.rest)))
FetchStops faults.OutOfMemory read written ask m n before now count risen = (m.closed ≡ false) × (count ≤ risen) × (((n ≡ m) × (now ≡ before)) ⊎ (Unsent ask m n before now ⊎ ((number : ℕ) × (m.next ≡ Some number) × Starved read (pending_of number ask) m.held (ask_frame written number ask) before now n)))
FetchStops fault read written ask m n before now count risen = (m.closed ≡ false) × (number : ℕ) × (m.next ≡ Some number) × Stops fault read (pending_of number ask) m.held (ask_frame written number ask) before now count risen n

-- what was fetched: the answer under the number that the machine had next, after which the following number is next
abbrev pub FetchCame : {Op : Type 0} → (List ℕ → Parsed Op) → (Op → List ℕ) → Ask → Message Op → MachineView → MachineView → Option Wire → Option Wire → Type 0
FetchCame read written ask message m n before now = (m.closed ≡ false) × (number : ℕ) × (m.next ≡ Some number) × Came read (pending_of number ask) m.held (ask_frame written number ask) before now message (number_after number) n

-- the target that was fetched, or why none was
abbrev pub TargetFetched : {Op : Type 0} → Result Target SyncFault → (List ℕ → Parsed Op) → (Op → List ℕ) → MachineView → MachineView → Option Wire → Option Wire → ℕ → ℕ → Type 0
TargetFetched (Ok target) read written m n before now count risen = (r : GetSyncTargetResponse) × (r.target ≡ target) × FetchCame read written asks.SyncTarget (messages.GetSyncTargetResponse r) m n before now
TargetFetched (Err fault) read written m n before now count risen = FetchStops fault read written asks.SyncTarget m n before now count risen

-- the compact target that was fetched, or why none was
abbrev pub CompactTargetFetched : {Op : Type 0} → Result CompactTarget SyncFault → (List ℕ → Parsed Op) → (Op → List ℕ) → MachineView → MachineView → Option Wire → Option Wire → ℕ → ℕ → Type 0
CompactTargetFetched (Ok target) read written m n before now count risen = (r : GetCompactTargetResponse) × (r.target ≡ target) × FetchCame read written asks.CompactTarget (messages.GetCompactTargetResponse r) m n before now
CompactTargetFetched (Err fault) read written m n before now count risen = FetchStops fault read written asks.CompactTarget m n before now count risen

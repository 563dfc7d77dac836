-- What a request machine answers, and what it is afterwards.
use Rattle.std.specs.Prelude.{◌≡◌, ◌<◌, ℕ, ◌+◌, ◌-◌, ◌^◌, true, false, List, [], ◌∷◌, ◌++◌, length, Option, Some, None, Result, Ok, Err, nat_lt, if◌then◌else◌}
use Rattle.ledger_codec.specs.declared.fault.CodecError.{CodecError}
use Rattle.ledger_codec.specs.declared.framing.FrameError.{FrameError}
use Rattle.ledger_codec.specs.Parsing.{Parsed}
use Rattle.ledger_codec.specs.Sequences.{all_of, string_written}
use Rattle.ledger_codec.specs.Frames.{Whole, Short, Bad, front}
use Rattle.sync_net.specs.declared.ask.Ask.{Ask}
use Rattle.sync_net.specs.declared.ask.Pending.{Pending}
use Rattle.sync_net.specs.declared.ask.Submitted.{Submitted}
use Rattle.sync_net.specs.declared.ask.Answer.{Answer}
use Rattle.sync_net.specs.declared.message.Message.{Message}
use Rattle.sync_net.specs.declared.fault.MachineFault.{MachineFault}
use Rattle.sync_net.specs.declared.fault.MachineFault.TheVariants as faults
use Rattle.sync_net.specs.declared.fault.SubmitRefusal.{SubmitRefusal}
use Rattle.sync_net.specs.declared.fault.SubmitRefusal.TheVariants as refusals
use Rattle.sync_net.specs.Numbered.{number_of}
use Rattle.sync_net.specs.Messages.{message_at, message_written}
use Rattle.sync_net.specs.Asks.{request_of, pending_in, answer_to, pending_after}
use Rattle.sync_net.specs.View.{MachineView}

-- the number after this one; none after the last number of 64 bits
abbrev pub number_after : ℕ → Option ℕ
number_after n = if nat_lt n (2 ^ 64 - 1) then Some (n + 1) else None

-- numbers are consecutive
abbrev pub Draws : Option ℕ → Option ℕ → Option ℕ → Type 0
Draws (Some n) old now = (old ≡ Some n) × (now ≡ number_after n)
Draws None old now = (old ≡ None) × (now ≡ None)

-- the frame of the request that asks this under a number
abbrev pub ask_frame : {Op : Type 0} → (Op → List ℕ) → ℕ → Ask → List ℕ
ask_frame op number ask = string_written (message_written op (request_of number ask))

-- A submit gives the next number and the frame of its request, and the ask is pending under it. A refused one changes nothing.
abbrev pub Submits : {Op : Type 0} → (Op → List ℕ) → Ask → Result Submitted SubmitRefusal → MachineView → MachineView → Type 0
Submits op ask (Ok s) old now = (old.closed ≡ false) × (old.next ≡ Some s.number) × (s.frame.items ≡ ask_frame op s.number ask) × (now ≡ record old { next = number_after s.number; pending = old.pending ++ record { number = s.number; ask = ask } ∷ [] })
Submits op ask (Err refusals.Closed) old now = (old.closed ≡ true) × (now ≡ old)
Submits op ask (Err refusals.Exhausted) old now = (old.closed ≡ false) × (old.next ≡ None) × (now ≡ old)
Submits op ask (Err refusals.OutOfMemory) old now = (old.closed ≡ false) × (now ≡ old)

-- a machine that was closed holds no bytes
abbrev pub stopped : MachineView → MachineView
stopped v = record v { held = []; closed = true }

-- what a message answers, and the asks that are pending after it
abbrev pub Replies : {Op : Type 0} → Result (Answer Op) MachineFault → Message Op → List Pending → List Pending → Type 0
Replies (Ok answer) m old now = (answer_to m (pending_in (number_of m) old) ≡ Ok answer) × (now ≡ pending_after m answer old)
Replies {Op} (Err e) m old now = (answer_to {Op = Op} m (pending_in (number_of m) old) ≡ Err e) × (now ≡ old)

-- the next frame is a message that closes the machine with this fault
abbrev pub Stops : (Op : Type 0) → (List ℕ → Parsed Op) → MachineFault → MachineView → MachineView → Type 0
Stops Op op fault old now = (body : List ℕ) × (rest : List ℕ) × (m : Message Op) × (old.closed ≡ false) × (front 10485760 old.held ≡ Whole body rest) × (all_of (message_at op) body ≡ Ok m)
    × (answer_to {Op = Op} m (pending_in (number_of m) old.pending) ≡ Err fault) × (now ≡ stopped old)

-- The next whole frame is handled. After each fault but want of memory the machine is closed; after that one the frame is still held.
abbrev pub Answers : {Op : Type 0} → (List ℕ → Parsed Op) → Result (Option (Answer Op)) MachineFault → MachineView → MachineView → Type 0
Answers op (Ok None) old now = (old.closed ≡ false) × (front 10485760 old.held ≡ Short) × (now ≡ old)
Answers {Op} op (Ok (Some answer)) old now = (body : List ℕ) × (rest : List ℕ) × (m : Message Op) × (old.closed ≡ false) × (front 10485760 old.held ≡ Whole body rest) × (all_of (message_at op) body ≡ Ok m)
    × (answer_to m (pending_in (number_of m) old.pending) ≡ Ok answer) × (now ≡ record old { held = rest; pending = pending_after m answer old.pending })
Answers op (Err faults.Closed) old now = (old.closed ≡ true) × (now ≡ old)
Answers op (Err faults.OutOfMemory) old now = (old.closed ≡ false) × (now ≡ old)
Answers op (Err faults.RequestChannelClosed) old now = (bad : FrameError) × (old.closed ≡ false) × (front 10485760 old.held ≡ Bad bad) × (now ≡ stopped old)
Answers op (Err faults.InvalidResponse) old now = (body : List ℕ) × (rest : List ℕ) × (e : CodecError) × (old.closed ≡ false) × (front 10485760 old.held ≡ Whole body rest) × (all_of (message_at op) body ≡ Err e) × (now ≡ stopped old)
Answers {Op} op (Err (faults.UnexpectedResponse n)) old now = Stops Op op (faults.UnexpectedResponse n) old now
Answers {Op} op (Err (faults.Server code text)) old now = Stops Op op (faults.Server code text) old now

-- bytes are appended; a refused feed changes nothing
abbrev pub Feeds : Result (Unit {0}) MachineFault → MachineView → MachineView → List ℕ → Type 0
Feeds (Ok x) old now piece = (old.closed ≡ false) × (now ≡ record old { held = old.held ++ piece })
Feeds (Err faults.Closed) old now piece = (old.closed ≡ true) × (now ≡ old)
Feeds (Err faults.OutOfMemory) old now piece = (old.closed ≡ false) × (now ≡ old)
Feeds (Err e) old now piece = ⊥

-- the machine is closed; a fault says that it was, or that an ask is pending
abbrev pub Ends : Result (Unit {0}) MachineFault → MachineView → MachineView → Type 0
Ends (Ok x) old now = (old.closed ≡ false) × (old.pending ≡ []) × (now ≡ stopped old)
Ends (Err faults.Closed) old now = (old.closed ≡ true) × (now ≡ old)
Ends (Err faults.RequestChannelClosed) old now = (old.closed ≡ false) × (0 < length old.pending) × (now ≡ stopped old)
Ends (Err e) old now = ⊥

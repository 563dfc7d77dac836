-- What a frame does to a machine.
use Rattle.std.proofs.Common.{◌≡◌, ◌<◌, ◌≤◌, ◌+◌, length, arith, ℕ, Bool, true, false, cond, List, drop, Option, Some, None, Ok, Err, refl, sym, ap, subst, ◌∙◌, Result}
use Rattle.std.specs.Prelude.{◌==◌, position, remove, option_and_then, slice_get}
use Rattle.ledger_codec.specs.declared.fault.CodecError.{CodecError}
use Rattle.ledger_codec.specs.declared.fault.CodecError.TheVariants as codec
use Rattle.ledger_codec.specs.Parsing.{Parsed, Fails}
use Rattle.ledger_codec.specs.Sequences.{all_of}
use Rattle.ledger_codec.specs.Frames.{Whole, front}
use Rattle.ledger_codec.specs.Held.{Held}
use Rattle.sync_net.specs.declared.message.Message.{Message}
use Rattle.sync_net.specs.declared.response.ErrorResponse.{ErrorResponse}
use Rattle.sync_net.specs.declared.ask.Pending.{Pending}
use Rattle.sync_net.specs.declared.ask.Answer.{Answer}
use Rattle.sync_net.specs.declared.ask.Answer.TheVariants as answers
use Rattle.sync_net.specs.declared.fault.MachineFault.{MachineFault}
use Rattle.sync_net.specs.declared.fault.MachineFault.TheVariants as faults
use Rattle.sync_net.specs.Messages.{message_at}
use Rattle.sync_net.specs.Numbered.{number_of}
use Rattle.sync_net.specs.View.{MachineView}
use Rattle.sync_net.specs.Asks.{is_response_to, fault_in, refusal_in, pending_in, pending_after, answer_to, replied_to, without_at}
use Rattle.sync_net.specs.Pendings.{named, AreNumbered, IsGone}
use Rattle.sync_net.proofs.Pendings.{is_first, counts, no_place, taken_away}
use Rattle.sync_net.specs.Asking.{Answers, Stops, stopped}

-- an answer is refused by these alone
abbrev Refusal : MachineFault → Type 0
Refusal faults.InvalidResponse = ⊥
Refusal (faults.UnexpectedResponse n) = Unit {0}
Refusal (faults.Server code text) = Unit {0}
Refusal faults.RequestChannelClosed = ⊥
Refusal faults.Closed = ⊥
Refusal faults.OutOfMemory = ⊥

abbrev refused_so : {Op : Type 0} → Result (Answer Op) MachineFault → Type 0
refused_so (Ok a) = Unit {0}
refused_so (Err e) = Refusal e

refused_else : (n : ℕ) (o : Option ErrorResponse) → Refusal (fault_in n o)
refused_else n (Some refusal) = tt
refused_else n None = tt

either_so : {Op : Type 0} (b : Bool) (a : Answer Op) (e : MachineFault) → Refusal e → refused_so (cond b (Ok a) (Err e))
either_so true a e h = tt
either_so false a e h = h

never_else : {Op : Type 0} (m : Message Op) (o : Option Pending) → refused_so (answer_to m o)
never_else m None = tt
never_else m (Some p) = either_so (is_response_to p.ask m) (answers.Reply (number_of m) p.ask m) (fault_in (number_of m) (refusal_in m)) (refused_else (number_of m) (refusal_in m))

stops : {Op : Type 0} (op : List ℕ → Parsed Op) (fault : MachineFault) (old now : MachineView) → Refusal fault → Stops Op op fault old now → Answers op (Err fault) old now
stops op faults.InvalidResponse old now r h = absurd r
stops op (faults.UnexpectedResponse n) old now r h = h
stops op (faults.Server code text) old now r h = h
stops op faults.RequestChannelClosed old now r h = absurd r
stops op faults.Closed old now r h = absurd r
stops op faults.OutOfMemory old now r h = absurd r

stops_so : {Op : Type 0} (op : List ℕ → Parsed Op) (fault : MachineFault) (old now : MachineView) (body rest : List ℕ) (m : Message Op) → old.closed ≡ false → front 10485760 old.held ≡ Whole body rest → all_of (message_at op) body ≡ Ok m
    → answer_to {Op = Op} m (pending_in (number_of m) old.pending) ≡ Err fault → now ≡ stopped old → Answers op (Err fault) old now
stops_so {Op} op fault old now body rest m unclosed f read found ends =
    stops op fault old now (subst (λ (x : Result (Answer Op) MachineFault). refused_so x) found (never_else m (pending_in (number_of m) old.pending))) (body, rest, m, unclosed, f, read, found, ends)

exact : {Y : Type 0} (e : CodecError) (read : Result Y CodecError) → (e ≡ codec.OutOfMemory → ⊥) → Fails e read → read ≡ Err e
exact codec.EndOfBuffer read ne h = h
exact codec.InvalidVarint read ne h = h
exact (codec.InvalidLength f l) read ne h = h
exact (codec.InvalidEnum t) read ne h = h
exact codec.Invalid read ne h = h
exact (codec.ExtraData r) read ne h = h
exact codec.OutOfMemory read ne h = absurd (ne refl)

abbrev viewed : Option ℕ → List Pending → List ℕ → Bool → MachineView
viewed next pending held closed = record { next = next; pending = pending; held = held; closed = closed }

-- (the machine as it was is v, by its parts)
pub answered : {Op : Type 0} (op : List ℕ → Parsed Op) (v : MachineView) (next : Option ℕ) (pending now : List Pending) (frames after : Held) (count : ℕ) (closed : Bool) (body : List ℕ) (m : Message Op) (answer : Answer Op)
    → viewed next pending frames.bytes closed ≡ v → closed ≡ false → frames.limit ≡ 10485760 → front frames.limit frames.bytes ≡ Whole body (drop count frames.bytes)
    → all_of (message_at op) body ≡ Ok m → answer_to m (pending_in (number_of m) pending) ≡ Ok answer → now ≡ pending_after m answer pending → after ≡ record frames { bytes = drop count frames.bytes }
    → Answers op (Ok (Some answer)) v (viewed next now after.bytes closed)
answered {Op} op v next pending now frames after count closed body m answer is unclosed limit fr read found left skipped =
    let f : front 10485760 frames.bytes ≡ Whole body (drop count frames.bytes) = ap (λ (l : ℕ). front l frames.bytes) (sym limit) ∙ fr in
    let ends : viewed next now after.bytes closed ≡ viewed next (pending_after m answer pending) (drop count frames.bytes) closed =
    ap (λ (p : List Pending). viewed next p after.bytes closed) left ∙ ap (λ (h : Held). viewed next (pending_after m answer pending) h.bytes closed) skipped in
    subst (λ (w : MachineView). Answers op (Ok (Some answer)) w (viewed next now after.bytes closed)) is (body, drop count frames.bytes, m, unclosed, f, read, found, ends)

pub refused : {Op : Type 0} (op : List ℕ → Parsed Op) (v last : MachineView) (next : Option ℕ) (pending now : List Pending) (frames : Held) (count : ℕ) (closed : Bool) (body : List ℕ) (m : Message Op) (fault : MachineFault)
    → viewed next pending frames.bytes closed ≡ v → closed ≡ false → frames.limit ≡ 10485760 → front frames.limit frames.bytes ≡ Whole body (drop count frames.bytes)
    → all_of (message_at op) body ≡ Ok m → answer_to {Op = Op} m (pending_in (number_of m) pending) ≡ Err fault → now ≡ pending → last ≡ stopped (viewed next now frames.bytes closed)
    → Answers op (Err fault) v last
refused {Op} op v last next pending now frames count closed body m fault is unclosed limit fr read found left ends =
    let f : front 10485760 frames.bytes ≡ Whole body (drop count frames.bytes) = ap (λ (l : ℕ). front l frames.bytes) (sym limit) ∙ fr in
    let stands : last ≡ stopped (viewed next pending frames.bytes closed) = ends ∙ ap (λ (p : List Pending). stopped (viewed next p frames.bytes closed)) left in
    subst (λ (w : MachineView). Answers op (Err fault) w last) is (stops_so op fault (viewed next pending frames.bytes closed) last body (drop count frames.bytes) m unclosed f read found stands)

pub unread : {Op : Type 0} (op : List ℕ → Parsed Op) (v last : MachineView) (next : Option ℕ) (pending : List Pending) (frames : Held) (count : ℕ) (closed : Bool) (body : List ℕ) (e : CodecError)
    → viewed next pending frames.bytes closed ≡ v → closed ≡ false → frames.limit ≡ 10485760 → front frames.limit frames.bytes ≡ Whole body (drop count frames.bytes)
    → (e ≡ codec.OutOfMemory → ⊥) → Fails {Y = Message Op} e (all_of (message_at op) body) → last ≡ stopped v
    → Answers op (Err faults.InvalidResponse) v last
unread {Op} op v last next pending frames count closed body e is unclosed limit fr ne fails ends =
    let f : front 10485760 frames.bytes ≡ Whole body (drop count frames.bytes) = ap (λ (l : ℕ). front l frames.bytes) (sym limit) ∙ fr in
    subst (λ (w : MachineView). Answers op (Err faults.InvalidResponse) w last) is (body, drop count frames.bytes, e, unclosed, f, exact e (all_of (message_at op) body) ne fails, ends ∙ ap stopped (sym is))

kept : {Op : Type 0} (b : Bool) (p : Pending) (m : Message Op) (answer : Answer Op) (e : MachineFault) → cond b (Ok (answers.Reply (number_of m) p.ask m)) (Err e) ≡ Ok answer → answers.Reply (number_of m) p.ask m ≡ answer
kept true p m answer e h = cc
kept false p m answer e h = absurd cc

-- a reply takes the pending ask at this place
pub taken : {Op : Type 0} (m : Message Op) (pending now : List Pending) (p : Pending) (place : ℕ) (answer : Answer Op) → pending_in (number_of m) pending ≡ Some p → position (λ q. q.number == number_of m) pending ≡ Some place → replied_to (number_of m) p.ask m ≡ Ok answer → now ≡ remove pending place
    → (answer_to m (pending_in (number_of m) pending) ≡ Ok answer) × (now ≡ pending_after m answer pending)
taken {Op} m pending now p place answer found at replied left =
    let is : answers.Reply (number_of m) p.ask m ≡ answer = kept (is_response_to p.ask m) p m answer (fault_in (number_of m) (refusal_in m)) replied in
    let after : pending_after m answer pending ≡ remove pending place = ap (λ (a : Answer Op). pending_after m a pending) (sym is) ∙ ap (λ (o : Option ℕ). without_at o pending) at in
    (ap (answer_to m) found ∙ replied, left ∙ sym after)

-- and nothing is pending under its number then
pub kept_apart : {Op : Type 0} (next : Option ℕ) (m : Message Op) (pending now : List Pending) (p : Pending) (place : ℕ) (answer : Answer Op) → position (λ q. q.number == number_of m) pending ≡ Some place → replied_to (number_of m) p.ask m ≡ Ok answer → now ≡ remove pending place
    → AreNumbered next pending → AreNumbered next now × IsGone answer now
kept_apart {Op} next m pending now p place answer at replied left old =
    let n = number_of m in
    let first = is_first n pending place at in
    let within : place < length pending = subst (λ (i : ℕ). i < length pending) first.1 first.0 in
    let one : named n (remove pending place) + 1 ≡ named n pending = subst (λ (i : ℕ). named n (remove pending i) + 1 ≡ named n pending) first.1 (counts n pending p first.0) in
    let once : named n pending ≤ 1 = old.once n in
    let none : named n (remove pending place) ≡ 0 = omega arith in
    let gone : pending_in n (remove pending place) ≡ None = ap (λ (o : Option ℕ). option_and_then (λ i. slice_get (remove pending place) i) o) (no_place n (remove pending place) none) in
    let is : answers.Reply n p.ask m ≡ answer = kept (is_response_to p.ask m) p m answer (fault_in n (refusal_in m)) replied in
    let after : AreNumbered next (remove pending place) × IsGone answer (remove pending place) =
    (taken_away next pending place p within old, subst (λ (a : Answer Op). IsGone a (remove pending place)) is gone) in
    subst (λ (ps : List Pending). AreNumbered next ps × IsGone answer ps) (sym left) after

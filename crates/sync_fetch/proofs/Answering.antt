-- The machine's answer to the frame at hand is what the one pending request makes of it.
use Rattle.std.proofs.Common.{◌≡◌, ℕ, ◌<◌, ◌≤◌, Bool, true, false, cond, ◌==◌, List, [], ◌∷◌, Option, Some, None, Result, Ok, Err, refl, sym, ap, subst, ◌∙◌, inl, inr}
use Rattle.std.proofs.lemmas.Bool.{cases_Bool, lt-ltb, le-ltb}
use Rattle.ledger_codec.specs.declared.fault.CodecError.{CodecError}
use Rattle.ledger_codec.specs.Parsing.{Parsed}
use Rattle.ledger_codec.specs.Sequences.{all_of}
use Rattle.sync_net.specs.declared.ask.Ask.{Ask}
use Rattle.sync_net.specs.declared.ask.Pending.{Pending}
use Rattle.sync_net.specs.declared.ask.Answer.{Answer}
use Rattle.sync_net.specs.declared.ask.Answer.TheVariants as answers
use Rattle.sync_net.specs.declared.code.ErrorCode.{ErrorCode}
use Rattle.sync_net.specs.declared.fault.MachineFault.{MachineFault}
use Rattle.sync_net.specs.declared.fault.MachineFault.TheVariants as machine
use Rattle.sync_net.specs.declared.message.Message.{Message}
use Rattle.sync_net.specs.declared.response.ErrorResponse.{ErrorResponse}
use Rattle.sync_net.specs.Numbered.{number_of}
use Rattle.sync_net.specs.Messages.{message_at}
use Rattle.sync_net.specs.Asks.{is_response_to, refusal_in, fault_in, replied_to, pending_in, without, answer_to}
use Rattle.sync_client.specs.Session.{Offence, InvalidResponse, UnexpectedResponse, Server, TooManyStrays, offence_of}
use Rattle.sync_fetch.specs.Exchange.{exchanged, exchange_frame}

-- ---- the one pending request

pub found : (p : Pending) (n : ℕ) → (p.number == n) ≡ true → pending_in n (p ∷ []) ≡ Some p
found p n e = rw e refl

pub missed : (p : Pending) (n : ℕ) → (p.number == n) ≡ false → pending_in n (p ∷ []) ≡ None
missed p n e = rw e refl

pub taken_away : (p : Pending) (n : ℕ) → (p.number == n) ≡ true → without n (p ∷ []) ≡ []
taken_away p n e = rw e refl

-- ---- what a frame does

frame_is : {Op : Type 0} (read : List ℕ → Parsed Op) (p : Pending) (strays : ℕ) (body : List ℕ) (m : Message Op) → all_of (message_at read) body ≡ Ok m → exchange_frame read p strays body ≡ exchanged p strays m
unfolding exchange_frame
frame_is read p strays body m e = rw e refl

pub unread : {Op : Type 0} (read : List ℕ → Parsed Op) (p : Pending) (strays : ℕ) (body : List ℕ) (e : CodecError) → all_of (message_at read) body ≡ Err e → exchange_frame read p strays body ≡ Err InvalidResponse
unfolding exchange_frame
unread read p strays body f e = rw e refl

either : {A B : Type 0} (b : Bool) (x : A) (e : B) (y : A) → cond b (Ok x) (Err e) ≡ Ok y → (b ≡ true) × (x ≡ y)
either true x e y h = (refl, cc h)
either false x e y h = absurd (cc h)

either_err : {A B : Type 0} (b : Bool) (x : A) (e f : B) → cond b (Ok x) (Err e) ≡ Err f → (b ≡ false) × (e ≡ f)
either_err true x e f h = absurd (cc h)
either_err false x e f h = (refl, cc h)

abbrev message_in : {Op : Type 0} → Message Op → Answer Op → Message Op
message_in d (answers.Reply number ask message) = message
message_in d (answers.Stray number) = d

abbrev is_reply : {Op : Type 0} → Answer Op → Bool
is_reply (answers.Reply number ask message) = true
is_reply (answers.Stray number) = false

-- the answer
pub record Replied {Op : Type 0} (read : List ℕ → Parsed Op) (p : Pending) (strays : ℕ) (body : List ℕ) (message m : Message Op) : Type 0 where
  pub same : message ≡ m
  pub number : (p.number == number_of m) ≡ true
  pub kind : is_response_to p.ask m ≡ true
  pub frame : exchange_frame read p strays body ≡ Ok (Some m)

pub replied : {Op : Type 0} (read : List ℕ → Parsed Op) (p : Pending) (strays : ℕ) (body : List ℕ) (m : Message Op) (number : ℕ) (ask : Ask) (message : Message Op) → all_of (message_at read) body ≡ Ok m → answer_to m (pending_in (number_of m) (p ∷ [])) ≡ Ok (answers.Reply number ask message) → Replied read p strays body message m
replied {Op} read p strays body m number ask message e a = elim (cases_Bool (p.number == number_of m)) [
  | inl t ↦
      let b : replied_to (number_of m) p.ask m ≡ Ok (answers.Reply number ask message) = ap (answer_to m) (sym (found p (number_of m) t)) ∙ a in
      let h = either (is_response_to p.ask m) (answers.Reply (number_of m) p.ask m) (fault_in (number_of m) (refusal_in m)) (answers.Reply number ask message) b in
      let one : exchanged p strays m ≡ Ok (Some m) = rw (t, h.0) refl in
      record { same = sym (ap (message_in m) h.1); number = t; kind = h.0; frame = frame_is read p strays body m e ∙ one }
  | inr f ↦
      let b : Ok (answers.Stray (number_of m)) ≡ Ok (answers.Reply number ask message) = ap (answer_to m) (sym (missed p (number_of m) f)) ∙ a in
      absurd (cc b)
]

-- a stray
pub strayed : {Op : Type 0} (read : List ℕ → Parsed Op) (p : Pending) (strays : ℕ) (body : List ℕ) (m : Message Op) (number : ℕ) → all_of (message_at read) body ≡ Ok m → answer_to m (pending_in (number_of m) (p ∷ [])) ≡ Ok (answers.Stray number)
    → (strays < 1024 → exchange_frame read p strays body ≡ Ok None) × (1024 ≤ strays → exchange_frame read p strays body ≡ Err TooManyStrays)
strayed {Op} read p strays body m number e a = elim (cases_Bool (p.number == number_of m)) [
  | inl t ↦
      let b : replied_to (number_of m) p.ask m ≡ Ok (answers.Stray number) = ap (answer_to m) (sym (found p (number_of m) t)) ∙ a in
      let h = either (is_response_to p.ask m) (answers.Reply (number_of m) p.ask m) (fault_in (number_of m) (refusal_in m)) (answers.Stray number) b in
      absurd (cc h.1)
  | inr f ↦ (λ lt. frame_is read p strays body m e ∙ rw (f, lt-ltb strays 1024 lt) refl, λ le. frame_is read p strays body m e ∙ rw (f, le-ltb strays 1024 le) refl)
]

-- ---- offences

abbrev IsFault : MachineFault → Offence → Type 0
IsFault (machine.UnexpectedResponse n) offence = offence ≡ UnexpectedResponse n
IsFault (machine.Server code text) offence = offence ≡ Server code text
IsFault machine.InvalidResponse offence = ⊥
IsFault machine.RequestChannelClosed offence = ⊥
IsFault machine.Closed offence = ⊥
IsFault machine.OutOfMemory offence = ⊥

fault_is : (n : ℕ) (o : Option ErrorResponse) → IsFault (fault_in n o) (offence_of n o)
fault_is n None = refl
fault_is n (Some refusal) = refl

offends : {Op : Type 0} (read : List ℕ → Parsed Op) (p : Pending) (strays : ℕ) (body : List ℕ) (m : Message Op) (fault : MachineFault) → all_of (message_at read) body ≡ Ok m → answer_to {Op = Op} m (pending_in (number_of m) (p ∷ [])) ≡ Err fault
    → (offence : Offence) × (exchange_frame read p strays body ≡ Err offence) × IsFault fault offence
offends {Op} read p strays body m fault e a = elim (cases_Bool (p.number == number_of m)) [
  | inl t ↦
      let b : replied_to (number_of m) p.ask m ≡ Err fault = ap (answer_to m) (sym (found p (number_of m) t)) ∙ a in
      let h = either_err (is_response_to p.ask m) (answers.Reply (number_of m) p.ask m) (fault_in (number_of m) (refusal_in m)) fault b in
      (offence_of (number_of m) (refusal_in m), frame_is read p strays body m e ∙ rw (t, h.0) refl, subst (λ (f : MachineFault). IsFault f (offence_of (number_of m) (refusal_in m))) h.1 (fault_is (number_of m) (refusal_in m)))
  | inr f ↦
      let b : Ok (answers.Stray (number_of m)) ≡ Err fault = ap (answer_to m) (sym (missed p (number_of m) f)) ∙ a in
      absurd (cc b)
]

pub unexpected : {Op : Type 0} (read : List ℕ → Parsed Op) (p : Pending) (strays : ℕ) (body : List ℕ) (m : Message Op) (n : ℕ) → all_of (message_at read) body ≡ Ok m → answer_to {Op = Op} m (pending_in (number_of m) (p ∷ [])) ≡ Err (machine.UnexpectedResponse n) → exchange_frame read p strays body ≡ Err (UnexpectedResponse n)
unexpected {Op} read p strays body m n e a =
    let h = offends read p strays body m (machine.UnexpectedResponse n) e a in
    h.1 ∙ ap (λ (o : Offence). let x : Result (Option (Message Op)) Offence = Err o in x) h.2

pub served_error : {Op : Type 0} (read : List ℕ → Parsed Op) (p : Pending) (strays : ℕ) (body : List ℕ) (m : Message Op) (code : ErrorCode) (text : List ℕ) → all_of (message_at read) body ≡ Ok m → answer_to {Op = Op} m (pending_in (number_of m) (p ∷ [])) ≡ Err (machine.Server code text) → exchange_frame read p strays body ≡ Err (Server code text)
served_error {Op} read p strays body m code text e a =
    let h = offends read p strays body m (machine.Server code text) e a in
    h.1 ∙ ap (λ (o : Offence). let x : Result (Option (Message Op)) Offence = Err o in x) h.2

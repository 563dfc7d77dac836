-- One exchange over a link that owes its reply alone: the reply comes whole, and nothing else does.
use Rattle.std.proofs.Common.{◌≡◌, ℕ, zero, suc, ◌<◌, ◌≤◌, Bool, true, false, if◌then◌else◌, List, [], ◌∷◌, ◌++◌, length, take, drop, Option, Some, None, Result, Ok, Err, refl, sym, ap, subst, ◌∙◌, append_assoc, inl, inr, arith, lit≤}
use Rattle.std.specs.Prelude.{slice_get, remove}
use Rattle.std.proofs.lemmas.Bool.{eq-eqb}
use Rattle.std.proofs.lemmas.List.{append-nil, take-append-drop}
use Rattle.ledger_codec.specs.declared.framing.FrameError.{FrameError}
use Rattle.ledger_codec.specs.Parsing.{Parsed}
use Rattle.ledger_codec.specs.Numbers.{varint_from}
use Rattle.ledger_codec.specs.Sequences.{all_of, string_written}
use Rattle.ledger_codec.specs.Frames.{Whole, Short, Bad, front}
use Rattle.ledger_codec.proofs.Stable.{framed, front_more, front_still}
use Rattle.sync_net.specs.declared.ask.Ask.{Ask}
use Rattle.sync_net.specs.declared.ask.Answer.{Answer}
use Rattle.sync_net.specs.declared.ask.Answer.TheVariants as answers
use Rattle.sync_net.specs.declared.ask.Pending.{Pending}
use Rattle.sync_net.specs.declared.code.ErrorCode.{ErrorCode}
use Rattle.sync_net.specs.declared.fault.MachineFault.{MachineFault}
use Rattle.sync_net.specs.declared.fault.MachineFault.TheVariants as machine
use Rattle.sync_net.specs.declared.message.Message.{Message}
use Rattle.sync_net.specs.declared.response.ErrorResponse.{ErrorResponse}
use Rattle.sync_net.specs.Asks.{is_response_to, refusal_in, fault_in, replied_to, pending_in, answer_to}
use Rattle.sync_net.specs.Core.{LogData}
use Rattle.sync_net.specs.Messages.{message_at}
use Rattle.sync_net.specs.Numbered.{number_of}
use Rattle.sync_net.specs.Service.{Service, Receives, Goes, ServiceReceived}
use Rattle.sync_net.specs.View.{MachineView}
use Rattle.sync_net.specs.Wire.{Wire}
use Rattle.sync_client.specs.declared.fault.SyncFault.{SyncFault}
use Rattle.sync_client.specs.declared.fault.SyncFault.TheVariants as faults
use Rattle.sync_client.specs.Owing.{Gives, OwesNothing}
use Rattle.sync_client.specs.Turns.{Receives as BytesCame}
use Rattle.sync_fetch.specs.Told.{HeldAnswer, fed}
use Rattle.sync_fetch.specs.Served.{IsDue, NextServed, ReplyServed}
use Rattle.sync_fetch.proofs.Answering.{found}

-- ---- small things

-- no bytes are the beginning of a frame
front_none : front 10485760 [] ≡ Short
unfolding varint_from
front_none = refl

nil_parts : (a b : List ℕ) → [] ≡ a ++ b → (a ≡ []) × (b ≡ [])
nil_parts [] b e = (refl, sym e)
nil_parts (x ∷ a) b e = absurd (cc e)

some_left : (left : List ℕ) → (left ≡ [] → ⊥) → 0 < length left
some_left [] h = absurd (h refl)
some_left (x ∷ xs) h = omega arith

-- of one list one can be begun
only_one : (reply other : List ℕ) (place : ℕ) → slice_get (reply ∷ []) place ≡ Some other → (other ≡ reply) × (remove (reply ∷ []) place ≡ [])
only_one reply other zero e = (sym (cc e), refl)
only_one reply other (suc n) e = absurd (cc e)

with_held : (m0 m : MachineView) (given bytes : List ℕ) → m ≡ fed m0 given → m.held ≡ bytes → m ≡ record m0 { held = bytes }
with_held m0 m given bytes e h = e ∙ ap (λ (b : List ℕ). let v : MachineView = record m0 { held = b } in v) (sym (ap (λ (v : MachineView). v.held) e) ∙ h)

unexpected_so : (o : Option ErrorResponse) (first other : ℕ) → fault_in first o ≡ machine.UnexpectedResponse other → o ≡ None
unexpected_so None first other e = refl
unexpected_so (Some r) first other e = absurd (cc e)

server_so : (o : Option ErrorResponse) (first : ℕ) (code : ErrorCode) (text : List ℕ) → fault_in first o ≡ machine.Server code text → (other : ℕ) × (o ≡ Some (record { request_id = other; error_code = code; message = text }))
server_so None first code text e = absurd (cc e)
server_so (Some r) first code text e =
    let c : r.error_code ≡ code = cc e in
    let t : r.message ≡ text = cc e in
    (r.request_id, ap (λ (x : ErrorCode). Some (record { request_id = r.request_id; error_code = x; message = r.message })) c ∙ ap (λ (x : List ℕ). Some (record { request_id = r.request_id; error_code = code; message = x })) t)

-- ---- bytes

module _ (held : LogData) (body : List ℕ) (short : length body ≤ 10485760) where
  pub reply_whole : front 10485760 (string_written body) ≡ Whole body []
  reply_whole = ap (front 10485760) (sym (append-nil (string_written body))) ∙ framed 10485760 body [] short (lit≤ tt)

  same_frame : (other rest : List ℕ) → front 10485760 (string_written body) ≡ Whole other rest → (other ≡ body) × (rest ≡ [])
  same_frame other rest e = let x : Whole body [] ≡ Whole other rest = sym reply_whole ∙ e in (let y : body ≡ other = cc in sym y, let y : [] ≡ rest = cc in sym y)

  -- a whole frame that is held is the whole reply
  whole_reply : (bytes other rest : List ℕ) (now : Option Service) → IsDue held (string_written body) bytes now → front 10485760 bytes ≡ Whole other rest → (bytes ≡ string_written body) × OwesNothing held now
  whole_reply bytes other rest now (inl d) e = absurd (let x : Short ≡ Whole other rest = sym (ap (front 10485760) d.0 ∙ front_none) ∙ e in cc)
  whole_reply bytes other rest now (inr (left, parts, told)) e =
      let m : Whole body [] ≡ Whole other (rest ++ left) = sym (ap (front 10485760) parts ∙ reply_whole) ∙ front_more 10485760 bytes left other rest e in
      let none : [] ≡ rest ++ left = cc in
      let both = nil_parts rest left none in (
        sym (append-nil bytes) ∙ (ap (λ (l : List ℕ). bytes ++ l) (sym both.1) ∙ parts),
        told ∙ ap (λ (l : List ℕ). Some (record { log = held; delivering = l; waiting = [] })) both.1,
      )

  -- no bad length comes
  never_bad : (bytes : List ℕ) (fault : FrameError) (now : Option Service) → IsDue held (string_written body) bytes now → front 10485760 bytes ≡ Bad fault → ⊥
  never_bad bytes fault now (inl d) e = let x : Short ≡ Bad fault = sym (ap (front 10485760) d.0 ∙ front_none) ∙ e in cc
  never_bad bytes fault now (inr (left, parts, told)) e = let x : Whole body [] ≡ Bad fault = sym (ap (front 10485760) parts ∙ reply_whole) ∙ front_still 10485760 fault bytes left e in cc

  -- a recv gives at least one byte of the reply
  more_due : (bytes buffer : List ℕ) (n : ℕ) (before now : Option Service) → IsDue held (string_written body) bytes before → front 10485760 bytes ≡ Short → 0 < length buffer → ServiceReceived before now (Ok n) buffer
      → (0 < n) × IsDue held (string_written body) (bytes ++ take n buffer) now
  more_due bytes buffer n before now (inl d) e room r =
      let reply : List ℕ = string_written body in
      let one : Service = record { log = held; delivering = []; waiting = reply ∷ [] } in
      let all : Receives one now n buffer = subst (λ (m : Option Service). ServiceReceived m now (Ok n) buffer) d.1 r in
      let b = all.begins room refl (omega arith) in
      let is = only_one reply b.1.reply b.1.place b.1.owed in
      let g : Goes (record { log = held; delivering = b.1.reply; waiting = remove (reply ∷ []) b.1.place }) now n buffer = subst (λ (t : Service). Goes t now n buffer) b.1.begun b.2 in
      let parts : (bytes ++ take n buffer) ++ drop n b.1.reply ≡ reply =
      ap (λ (x : List ℕ). (x ++ take n buffer) ++ drop n b.1.reply) d.0 ∙ (ap (λ (x : List ℕ). x ++ drop n b.1.reply) g.bytes ∙ (take-append-drop n b.1.reply ∙ is.0)) in
      (g.some, inr (drop n b.1.reply, parts, g.left ∙ ap (λ (l : List (List ℕ)). Some (record { log = held; delivering = drop n b.1.reply; waiting = l })) is.1))
  more_due bytes buffer n before now (inr (left, parts, told)) e room r =
      let one : Service = record { log = held; delivering = left; waiting = [] } in
      let all : Receives one now n buffer = subst (λ (m : Option Service). ServiceReceived m now (Ok n) buffer) told r in
      let more : 0 < length left = some_left left (λ q. let x : Whole body [] ≡ Short = sym (ap (front 10485760) parts ∙ reply_whole) ∙ (ap (front 10485760) (ap (λ (l : List ℕ). bytes ++ l) q ∙ append-nil bytes) ∙ e) in cc) in
      let g = all.goes_on room more in
      let whole : (bytes ++ take n buffer) ++ drop n left ≡ string_written body =
      append_assoc bytes (take n buffer) (drop n left) ∙ (ap (λ (x : List ℕ). bytes ++ x) (ap (λ (x : List ℕ). x ++ drop n left) g.bytes ∙ take-append-drop n left) ∙ parts) in
      (g.some, inr (drop n left, whole, g.left))

  -- ---- one answer of the machine

  pub recv_due : (m n : MachineView) (before now : Option Service) (x : Unit {0}) → IsDue held (string_written body) m.held before → front 10485760 m.held ≡ Short → Gives (Ok x) m n before now → IsDue held (string_written body) n.held now
  recv_due m n before now x d short g =
      let r = more_due m.held g.1 g.0 before now d short g.2 g.4 in
      subst (λ (l : List ℕ). IsDue held (string_written body) l now) (sym (ap (λ (v : MachineView). v.held) g.3)) r.1

  module _ {Op : Type 0} (read : List ℕ → Parsed Op) (m0 m n : MachineView) (given : List ℕ) (fed_so : m ≡ fed m0 given) (live : m0.closed ≡ false) where
    pub answered_due : (answer : Answer Op) (now : Option Service) → IsDue held (string_written body) m.held now → HeldAnswer (Ok (Some answer)) read m n → NextServed (Ok answer) read body held m0 n now
    answered_due answer now d h =
        let w = whole_reply m.held h.0 h.1 now d h.4 in
        (subst (λ (v : MachineView). HeldAnswer (Ok (Some answer)) read v n) (with_held m0 m given (string_written body) fed_so w.0) h, w.1)

    whole_stops : (fault : SyncFault) (other rest : List ℕ) (now : Option Service) → IsDue held (string_written body) m.held now → front 10485760 m.held ≡ Whole other rest → HeldAnswer {Op = Op} (Err fault) read m n → NextServed {Op = Op} (Err fault) read body held m0 n now
    whole_stops fault other rest now d e h =
        let w = whole_reply m.held other rest now d e in
        inr (subst (λ (v : MachineView). HeldAnswer {Op = Op} (Err fault) read v n) (with_held m0 m given (string_written body) fed_so w.0) h, w.1)

    pub held_due : (fault : SyncFault) (now : Option Service) → IsDue held (string_written body) m.held now → HeldAnswer {Op = Op} (Err fault) read m n → NextServed {Op = Op} (Err fault) read body held m0 n now
    held_due faults.InvalidResponse now d h = whole_stops faults.InvalidResponse h.0 h.1 now d h.4 h
    held_due (faults.UnexpectedResponse number) now d h = whole_stops (faults.UnexpectedResponse number) h.0 h.1 now d h.4 h
    held_due (faults.Server code text) now d h = whole_stops (faults.Server code text) h.0 h.1 now d h.4 h
    held_due faults.RequestChannelClosed now d h = absurd (never_bad m.held h.0 now d h.2)
    held_due faults.Closed now d h = absurd (let x : true ≡ false = sym h.0 ∙ (ap (λ (v : MachineView). v.closed) fed_so ∙ live) in cc)
    held_due faults.OutOfMemory now d h = inl tt
    held_due faults.Network now d h = absurd h
    held_due faults.Exhausted now d h = absurd h
    held_due (faults.InvalidProof number) now d h = absurd h
    held_due faults.TooManyStrays now d h = absurd h
    held_due (faults.StaleUpdate start end) now d h = absurd h
    held_due (faults.WrongRoot root) now d h = absurd h

  pub recv_may_stop : {Op : Type 0} (read : List ℕ → Parsed Op) (m0 m n : MachineView) (fault : SyncFault) (before now : Option Service) (wire told : Option Wire) (count risen : ℕ) → IsDue held (string_written body) m.held before → front 10485760 m.held ≡ Short → Gives (Err fault) m n before now → BytesCame (Err fault) m n wire told count risen
      → NextServed {Op = Op} (Err fault) read body held m0 n now
  recv_may_stop read m0 m n faults.Network before now wire told count risen d short g r = inl tt
  recv_may_stop read m0 m n faults.OutOfMemory before now wire told count risen d short g r = inl tt
  recv_may_stop read m0 m n faults.RequestChannelClosed before now wire told count risen d short g r = absurd (let z = (more_due m.held g.0 0 before now d short g.1 g.2).0 in omega arith)
  recv_may_stop read m0 m n faults.Closed before now wire told count risen d short g r = absurd r
  recv_may_stop read m0 m n faults.Exhausted before now wire told count risen d short g r = absurd r
  recv_may_stop read m0 m n faults.InvalidResponse before now wire told count risen d short g r = absurd r
  recv_may_stop read m0 m n (faults.UnexpectedResponse number) before now wire told count risen d short g r = absurd r
  recv_may_stop read m0 m n (faults.Server code text) before now wire told count risen d short g r = absurd r
  recv_may_stop read m0 m n (faults.InvalidProof number) before now wire told count risen d short g r = absurd r
  recv_may_stop read m0 m n faults.TooManyStrays before now wire told count risen d short g r = absurd r
  recv_may_stop read m0 m n (faults.StaleUpdate start end) before now wire told count risen d short g r = absurd r
  recv_may_stop read m0 m n (faults.WrongRoot root) before now wire told count risen d short g r = absurd r

  -- ---- the reply

  module _ {Op : Type 0} (read : List ℕ → Parsed Op) (p : Pending) (reply : Message Op) (spelled : all_of (message_at read) body ≡ Ok reply) (number : p.number ≡ number_of reply) (m0 n : MachineView) (one : m0.pending ≡ p ∷ []) where
    same_reply : (other : List ℕ) (message : Message Op) → other ≡ body → all_of (message_at read) other ≡ Ok message → message ≡ reply
    same_reply other message e f = let x : Ok reply ≡ Ok message = sym spelled ∙ (ap (all_of (message_at read)) (sym e) ∙ f) in let y : reply ≡ message = cc in sym y

    -- the machine answers to the reply
    answers_to : (message : Message Op) (result : Result (Answer Op) MachineFault) → message ≡ reply → answer_to message (pending_in (number_of message) m0.pending) ≡ result → replied_to (number_of reply) p.ask reply ≡ result
    answers_to message result e a =
        let b : answer_to reply (pending_in (number_of reply) (p ∷ [])) ≡ result = subst (λ (ps : List Pending). answer_to reply (pending_in (number_of reply) ps) ≡ result) one (subst (λ (x : Message Op). answer_to x (pending_in (number_of x) m0.pending) ≡ result) e a) in
        ap (answer_to reply) (sym (found p (number_of reply) (eq-eqb p.number (number_of reply) number))) ∙ b

    no_stray : (kind : Bool) (answer : Answer Op) (fault : MachineFault) (other : ℕ) (e : (if kind then Ok answer else Err fault) ≡ Ok (answers.Stray other)) → (answer ≡ answers.Stray other → ⊥) → ⊥
    no_stray true answer fault other e h = let x : answer ≡ answers.Stray other = cc e in h x
    no_stray false answer fault other e h = cc e

    not_stray : (other : ℕ) → answers.Reply (number_of reply) p.ask reply ≡ answers.Stray other → ⊥
    not_stray other e = cc e

    -- it is no stray
    pub never_stray : (other : ℕ) (now : Option Service) → NextServed (Ok (answers.Stray other)) read body held m0 n now → ⊥
    never_stray other now a =
        let h = a.0 in
        let e = same_reply h.0 h.2 (same_frame h.0 h.1 h.4).0 h.5 in
        no_stray (is_response_to p.ask reply) (answers.Reply (number_of reply) p.ask reply) (fault_in (number_of reply) (refusal_in reply)) other (answers_to h.2 (Ok (answers.Stray other)) e h.6) (not_stray other)

    reply_of : (kind : Bool) (ask : Ask) (fault : MachineFault) (other : ℕ) (asked : Ask) (message : Message Op) → (if kind then Ok (answers.Reply (number_of reply) ask reply) else Err fault) ≡ Ok (answers.Reply other asked message) → message ≡ reply
    reply_of true ask fault other asked message e = let x : answers.Reply (number_of reply) ask reply ≡ answers.Reply other asked message = cc e in (let y : reply ≡ message = cc in sym y)
    reply_of false ask fault other asked message e = absurd (cc e)

    -- it is what came
    pub reply_due : (other : ℕ) (asked : Ask) (message : Message Op) (now : Option Service) → NextServed (Ok (answers.Reply other asked message)) read body held m0 n now → ReplyServed (Ok message) p reply held n now
    reply_due other asked message now a =
        let h = a.0 in
        let f = same_frame h.0 h.1 h.4 in
        let e = same_reply h.0 h.2 f.0 h.5 in (
          reply_of (is_response_to p.ask reply) p.ask (fault_in (number_of reply) (refusal_in reply)) other asked message (answers_to h.2 (Ok (answers.Reply other asked message)) e h.6),
          (ap (λ (v : MachineView). v.held) h.7 ∙ f.1, a.1),
        )

    refused_so : (kind : Bool) (answer : Answer Op) (fault other : MachineFault) → (if kind then Ok answer else Err fault) ≡ Err other → (kind ≡ false) × (fault ≡ other)
    refused_so true answer fault other e = absurd (cc e)
    refused_so false answer fault other e = (refl, cc e)

    -- or it refuses
    pub stops_due : (fault : SyncFault) (now : Option Service) → m0.closed ≡ false → NextServed {Op = Op} (Err fault) read body held m0 n now → ReplyServed (Err fault) p reply held n now
    stops_due faults.Network now live a = tt
    stops_due faults.OutOfMemory now live a = tt
    stops_due faults.Exhausted now live a = tt
    stops_due faults.InvalidResponse now live (inl a) = absurd a
    stops_due faults.InvalidResponse now live (inr (h, told)) =
        absurd (let x : Ok reply ≡ Err h.2 = sym spelled ∙ (ap (all_of (message_at read)) (sym (same_frame h.0 h.1 h.4).0) ∙ h.5) in cc)
    stops_due (faults.UnexpectedResponse other) now live (inl a) = absurd a
    stops_due (faults.UnexpectedResponse other) now live (inr (h, told)) =
        let e = same_reply h.0 h.2 (same_frame h.0 h.1 h.4).0 h.5 in
        let r = refused_so (is_response_to p.ask reply) (answers.Reply (number_of reply) p.ask reply) (fault_in (number_of reply) (refusal_in reply)) (machine.UnexpectedResponse other) (answers_to h.2 (Err (machine.UnexpectedResponse other)) e h.6) in
        (r.0, unexpected_so (refusal_in reply) (number_of reply) other r.1)
    stops_due (faults.Server code text) now live (inl a) = absurd a
    stops_due (faults.Server code text) now live (inr (h, told)) =
        let e = same_reply h.0 h.2 (same_frame h.0 h.1 h.4).0 h.5 in
        let r = refused_so (is_response_to p.ask reply) (answers.Reply (number_of reply) p.ask reply) (fault_in (number_of reply) (refusal_in reply)) (machine.Server code text) (answers_to h.2 (Err (machine.Server code text)) e h.6) in
        let s = server_so (refusal_in reply) (number_of reply) code text r.1 in
        (r.0, s.0, s.1, told)
    stops_due faults.RequestChannelClosed now live (inl a) = absurd a
    stops_due faults.RequestChannelClosed now live (inr (h, told)) = absurd (let x : Whole body [] ≡ Bad h.0 = sym reply_whole ∙ h.2 in cc)
    stops_due faults.Closed now live (inl a) = absurd a
    stops_due faults.Closed now live (inr (h, told)) = absurd (let x : true ≡ false = sym h.0 ∙ live in cc)
    stops_due (faults.InvalidProof other) now live (inl a) = absurd a
    stops_due (faults.InvalidProof other) now live (inr (h, told)) = absurd h
    stops_due faults.TooManyStrays now live (inl a) = absurd a
    stops_due faults.TooManyStrays now live (inr (h, told)) = absurd h
    stops_due (faults.StaleUpdate start end) now live (inl a) = absurd a
    stops_due (faults.StaleUpdate start end) now live (inr (h, told)) = absurd h
    stops_due (faults.WrongRoot root) now live (inl a) = absurd a
    stops_due (faults.WrongRoot root) now live (inr (h, told)) = absurd h

-- A request that is sent over a link which serves a log: its reply is owed, and is read as it was written.
use Rattle.std.proofs.Common.{◌≡◌, ℕ, ◌<◌, ◌≤◌, ◌^◌, Bool, true, false, nat_lt, List, [], ◌∷◌, ◌++◌, length, Option, Some, None, Result, Ok, Err, refl, sym, ap, subst, ◌∙◌, arith, lit≤, length-append, inl, ◌&&◌}
use Rattle.std.specs.Prelude.{option_map}
use Rattle.std.specs.Str.{IsUtf8}
use Rattle.std.specs.Prelude.{All}
use Rattle.std.proofs.lemmas.Bool.{lt-ltb, ltb-true, and_parts}
use Rattle.std.proofs.lemmas.List.{append-nil}
use Rattle.std.proofs.lemmas.List.Elements.{All-cons, All-nil}
use Rattle.std.proofs.lemmas.Str.{IsUtf8-from_ascii}
use Rattle.std.proofs.lemmas.Str.Ascii.{IsAscii-from_all}
use Rattle.sha2.specs.Sha256.{sha256}
use Rattle.ledger_codec.specs.Frames.{Whole, front}
use Rattle.ledger_codec.specs.Numbers.{varint}
use Rattle.ledger_codec.specs.Parsing.{Parsed}
use Rattle.ledger_codec.specs.Sequences.{all_of, string_written}
use Rattle.ledger_codec.specs.Spelling.{SpellLaws}
use Rattle.ledger_codec.proofs.Stable.{framed}
use Rattle.ledger_merkle.specs.Digests.{sha256_length}
use Rattle.ledger_merkle.specs.Tree.{root}
use Rattle.ledger_log.specs.View.{LogView, log_size, log_root}
use Rattle.sync_net.specs.declared.ask.Ask.{Ask}
use Rattle.sync_net.specs.declared.ask.Ask.TheVariants as asks
use Rattle.sync_net.specs.declared.ask.Pending.{Pending}
use Rattle.sync_net.specs.declared.ask.Submitted.{Submitted}
use Rattle.sync_net.specs.declared.fault.SubmitRefusal.{SubmitRefusal}
use Rattle.sync_net.specs.declared.fault.SubmitRefusal.TheVariants as refusals
use Rattle.sync_net.specs.declared.message.Message.{Message}
use Rattle.sync_net.specs.declared.message.Message.TheVariants as messages
use Rattle.sync_net.specs.declared.response.ErrorResponse.{ErrorResponse}
use Rattle.sync_net.specs.declared.response.GetSyncTargetResponse.{GetSyncTargetResponse}
use Rattle.sync_net.specs.declared.response.GetCompactTargetResponse.{GetCompactTargetResponse}
use Rattle.sync_net.specs.Asks.{request_of, IsSoundAsk}
use Rattle.sync_net.specs.Asking.{Submits, ask_frame}
use Rattle.sync_net.specs.Core.{LogData, core, request_framed, request_in, request_read, nothing_at, asked, reply_frame, reply_to, refuse, unexpected, target_answer, Request}
use Rattle.sync_net.specs.Laws.{message_laws}
use Rattle.sync_net.specs.Messages.{message_at, message_written, IsNumber, IsSoundMessage, MessageFits, number_written}
use Rattle.sync_net.specs.Numbered.{number_of}
use Rattle.sync_net.specs.Service.{Service, owes, service_sent}
use Rattle.sync_net.specs.View.{MachineView}
use Rattle.sync_net.specs.Wire.{Wire}
use Rattle.sync_net.proofs.PlainData.{reply_same}
use Rattle.sync_net.proofs.Requests.{request_same}
use Rattle.sync_net.proofs.Short.{request_short}
use Rattle.sync_client.specs.declared.fault.SyncFault.{SyncFault}
use Rattle.sync_client.specs.declared.fault.SyncFault.TheVariants as faults
use Rattle.sync_client.specs.Owing.{Begins}
use Rattle.sync_client.proofs.ServedAnswers.{varint_short}
use Rattle.sync_fetch.specs.Told.{Sends, pending_of}
use Rattle.sync_fetch.specs.Served.{IsToldOf, IsTargetOf, FetchesTarget, RefusesCompact, IsDue, ReplyServed, ServesSent}

-- the text of a refusal is one
all_below : List ℕ → Bool
all_below [] = true
all_below (b ∷ bs) = nat_lt b 128 && all_below bs

below_so : (bs : List ℕ) → all_below bs ≡ true → All (λ b. b < 128) bs
unfolding all_below
below_so [] e = All-nil (λ (b : ℕ). b < 128)
below_so (b ∷ bs) e = All-cons (λ (b : ℕ). b < 128) b bs (ltb-true b 128 (and_parts _ _ e).0) (below_so bs (and_parts _ _ e).1)

unexpected_utf8 : IsUtf8 unexpected.text
unfolding all_below
unexpected_utf8 = IsUtf8-from_ascii unexpected.text (IsAscii-from_all unexpected.text (below_so unexpected.text refl))

-- the same refusal
same_refusal : (r s : ErrorResponse) (a : Option ErrorResponse) → a ≡ Some r → a ≡ Some s → r ≡ s
same_refusal r s a e f = let x : Some r ≡ Some s = sym e ∙ f in cc

-- a root has 32 bytes
root_digest : (n : ℕ) (peaks : List (List ℕ)) → length (root sha256 n peaks) ≡ 32
unfolding root
root_digest n peaks = sha256_length _

-- the request was made under this number and sent, and its reply is owed alone
record Due (held : LogData) (ask : Ask) (n : MachineView) (now : Option Service) : Type 0 where
  number : ℕ
  small : IsNumber number
  one : n.pending ≡ pending_of number ask ∷ []
  live : n.closed ≡ false
  due : IsDue held (reply_frame held (record { number = number; ask = ask })) n.held now

module _ {Op : Type 0} (read : List ℕ → Parsed Op) (written : Op → List ℕ) (sound fits : Op → Type 0) (laws : SpellLaws read written sound fits) where
  -- a message that was written is read as it
  whole_again : (m : Message Op) → IsSoundMessage sound m → MessageFits fits m → all_of (message_at read) (message_written written m) ≡ Ok m
  unfolding all_of
  whole_again m s f =
      let e = (message_laws read written sound fits laws).again m s f [] in
      let b : message_at read (message_written written m) ≡ Ok (m, []) = ap (message_at read) (sym (append-nil (message_written written m))) ∙ e in
      rw b refl

  -- ---- requests

  -- the request is read from its frame
  asked_again : (number : ℕ) (ask : Ask) → IsSoundAsk ask → IsSoundMessage sound (request_of number ask) → MessageFits fits (request_of number ask) → request_in {Op = Op} (request_of number ask) ≡ Some (record { number = number; ask = ask })
      → asked (ask_frame written number ask) ≡ Some (record { number = number; ask = ask })
  asked_again number ask well s f is =
      let m : Message Op = request_of number ask in
      let body = message_written written m in
      let short : length body ≤ 10485760 = request_short written number ask well in
      let one : front 10485760 (string_written body) ≡ Whole body [] = ap (front 10485760) (sym (append-nil (string_written body))) ∙ framed 10485760 body [] short (lit≤ tt) in
      let two : all_of (message_at read) body ≡ Ok m = whole_again m s f in
      ap request_framed one ∙ (request_same nothing_at read body ∙ (ap request_read two ∙ is))

  due_so : (held : LogData) (ask : Ask) (m n : MachineView) (made : Result Submitted SubmitRefusal) (x : Unit {0}) (before now : Option Service) → IsSoundAsk ask → ((number : ℕ) → IsNumber number → IsSoundMessage sound (request_of number ask)) → ((number : ℕ) → MessageFits fits (request_of number ask)) → ((number : ℕ) → request_in {Op = Op} (request_of number ask) ≡ Some (record { number = number; ask = ask }))
      → m.pending ≡ [] → Begins held m before → Submits written ask made m n → ServesSent (Ok x) made before now → Due held ask n now
  due_so held ask m n made x before now well sound_so fits_so is none b submits sends =
      let one : Service = record { log = held; delivering = []; waiting = [] } in
      let s : ServesSent (Ok x) made (Some one) now = subst (λ (o : Option Service). ServesSent (Ok x) made o now) b.told sends in
      let h : Submits written ask (Ok s.0) m n = subst (λ (r : Result Submitted SubmitRefusal). Submits written ask r m n) s.1 submits in
      let small = b.small s.0.number h.1 in
      let asks = asked_again s.0.number ask well (sound_so s.0.number small) (fits_so s.0.number) (is s.0.number) in
      let owed : now ≡ Some (record { log = held; delivering = []; waiting = reply_frame held (record { number = s.0.number; ask = ask }) ∷ [] }) =
      s.2 ∙ (ap (λ (l : List ℕ). owes one (reply_to held l)) h.2 ∙ ap (λ (o : Option Request). owes one (option_map (reply_frame held) o)) asks) in
      record {
        number = s.0.number;
        small = small;
        one = ap (λ (v : MachineView). v.pending) h.3 ∙ ap (λ (ps : List Pending). ps ++ pending_of s.0.number ask ∷ []) none;
        live = ap (λ (v : MachineView). v.closed) h.3 ∙ h.0;
        due = inl (ap (λ (v : MachineView). v.held) h.3 ∙ b.empty, owed);
      }

  -- what is due to a request came, or why it didn't
  reply_so : (held : LogData) (ask : Ask) (n last : MachineView) (mid now : Option Service) (result : Result (Message Op) SyncFault) (reply : Message Op) (d : Due held ask n mid) → IsSoundMessage sound reply → MessageFits fits reply → length (message_written written reply) ≤ 10485760 → number_of reply ≡ d.number
      → reply_frame held (record { number = d.number; ask = ask }) ≡ string_written (message_written written reply)
      → ((held : LogData) (p : Pending) (body : List ℕ) (reply : Message Op) → length body ≤ 10485760 → all_of (message_at read) body ≡ Ok reply → p.number ≡ number_of reply → n.pending ≡ p ∷ [] → IsDue held (string_written body) n.held mid → ReplyServed result p reply held last now)
      → ReplyServed result (pending_of d.number ask) reply held last now
  reply_so held ask n last mid now result reply d s f short number frame awaits =
      awaits held (pending_of d.number ask) (message_written written reply) reply short (whole_again reply s f) (sym number) d.one (subst (λ (b : List ℕ). IsDue held b n.held mid) frame d.due)

  -- ---- the target

  module _ (held : LogData) (h : IsToldOf written held) where
    some_target : (number : ℕ) (ordered : Bool) (less : nat_lt held.floor (log_size h.log) ≡ ordered) → nat_lt held.floor (log_size h.log) ≡ true
        → (r : GetSyncTargetResponse) × (target_answer {Op = Op} ordered number (log_root sha256 written h.log) held.floor (log_size h.log) less ≡ messages.GetSyncTargetResponse r) × (r.request_id ≡ number) × IsTargetOf written held h.log r.target
    some_target number true less t = (record { request_id = number; target = record { root = log_root sha256 written h.log; start = held.floor; end = log_size h.log; ordered = _ } }, refl, refl, record { root = refl; start = refl; end = refl })
    some_target number false less t = absurd (let x : false ≡ true = sym less ∙ t in cc)

    target_frame : (number : ℕ) → (r : GetSyncTargetResponse) × (reply_frame held (record { number = number; ask = asks.SyncTarget }) ≡ string_written (message_written written (messages.GetSyncTargetResponse r))) × (r.request_id ≡ number) × IsTargetOf written held h.log r.target
    target_frame number =
        let o = some_target number (nat_lt held.floor (log_size h.log)) refl (lt-ltb held.floor (log_size h.log) h.floor) in (
          o.0,
          ap (λ (v : LogView (List ℕ)). string_written (message_written (λ op. op) (core sha256 (λ op. op) held.floor v (request_of number asks.SyncTarget)))) h.is
              ∙ (ap string_written (reply_same sha256 written held.floor h.log number asks.SyncTarget) ∙ ap (λ (m : Message Op). string_written (message_written written m)) o.1),
          o.2,
          o.3,
        )

    target_short : (r : GetSyncTargetResponse) → length r.target.root ≡ 32 → length (message_written written (messages.GetSyncTargetResponse r)) ≤ 10485760
    target_short r root =
        let name : length (number_written r.request_id) ≡ 8 = refl in
        let a = varint_short r.target.start in
        let b = varint_short r.target.end in
        let one = length-append r.target.root (varint r.target.start) in
        let two = length-append (r.target.root ++ varint r.target.start) (varint r.target.end) in
        let three = length-append (number_written r.request_id) ((r.target.root ++ varint r.target.start) ++ varint r.target.end) in
        omega (arith, root, name, a, b, one, two, three)

    target_stops : (r : GetSyncTargetResponse) (number : ℕ) (fault : SyncFault) (last : MachineView) (now : Option Service) → ReplyServed {Op = Op} (Err fault) (pending_of number asks.SyncTarget) (messages.GetSyncTargetResponse r) held last now → FetchesTarget written held h.log (Err fault) last now
    target_stops r number faults.Network last now a = a
    target_stops r number faults.OutOfMemory last now a = a
    target_stops r number faults.Exhausted last now a = a
    target_stops r number (faults.Server code text) last now a = absurd (cc a.0)
    target_stops r number (faults.UnexpectedResponse other) last now a = absurd (cc a.0)
    target_stops r number faults.RequestChannelClosed last now a = a
    target_stops r number faults.InvalidResponse last now a = a
    target_stops r number (faults.InvalidProof other) last now a = a
    target_stops r number faults.TooManyStrays last now a = a
    target_stops r number (faults.StaleUpdate start end) last now a = a
    target_stops r number (faults.WrongRoot found) last now a = a
    target_stops r number faults.Closed last now a = a

    -- what was fetched over a link that serves, or why nothing was
    target_reply : (m n last : MachineView) (made : Result Submitted SubmitRefusal) (x : Unit {0}) (before mid now : Option Service) (result : Result (Message Op) SyncFault) → m.pending ≡ [] → Begins held m before → Submits written asks.SyncTarget made m n → ServesSent (Ok x) made before mid
        → ((held : LogData) (p : Pending) (body : List ℕ) (reply : Message Op) → length body ≤ 10485760 → all_of (message_at read) body ≡ Ok reply → p.number ≡ number_of reply → n.pending ≡ p ∷ [] → IsDue held (string_written body) n.held mid → ReplyServed result p reply held last now)
        → (r : GetSyncTargetResponse) × IsTargetOf written held h.log r.target × (number : ℕ) × ReplyServed result (pending_of number asks.SyncTarget) (messages.GetSyncTargetResponse r) held last now
    target_reply m n last made x before mid now result none b submits sends awaits =
        let d = due_so held asks.SyncTarget m n made x before mid tt (λ number small. small) (λ number. tt) (λ number. refl) none b submits sends in
        let f = target_frame d.number in
        let t = f.3 in
        let root : length f.0.target.root ≡ 32 = ap length t.root ∙ root_digest (log_size h.log) _ in
        let end : f.0.target.end ≤ 2 ^ 62 = (let e = t.end in let k = h.most in omega arith) in
        let small : IsNumber f.0.request_id = subst (λ (k : ℕ). IsNumber k) (sym f.2) d.small in
        (f.0, t, d.number, reply_so held asks.SyncTarget n last mid now result (messages.GetSyncTargetResponse f.0) d (small, record { root = root; end = end }) tt (target_short f.0 root) f.2 f.1 awaits)

    pub target_came : (m n last : MachineView) (made : Result Submitted SubmitRefusal) (x : Unit {0}) (before mid now : Option Service) (message : Message Op) (answer : GetSyncTargetResponse) → m.pending ≡ [] → Begins held m before → Submits written asks.SyncTarget made m n → ServesSent (Ok x) made before mid
        → ((held : LogData) (p : Pending) (body : List ℕ) (reply : Message Op) → length body ≤ 10485760 → all_of (message_at read) body ≡ Ok reply → p.number ≡ number_of reply → n.pending ≡ p ∷ [] → IsDue held (string_written body) n.held mid → ReplyServed (Ok message) p reply held last now)
        → message ≡ messages.GetSyncTargetResponse answer → FetchesTarget written held h.log (Ok answer.target) last now
    target_came m n last made x before mid now message answer none b submits sends awaits is =
        let r = target_reply m n last made x before mid now (Ok message) none b submits sends awaits in
        let e : messages.GetSyncTargetResponse r.0 ≡ messages.GetSyncTargetResponse answer = sym r.3.0 ∙ is in
        let same : r.0 ≡ answer = cc in
        (subst (λ (a : GetSyncTargetResponse). IsTargetOf written held h.log a.target) same r.1, r.3.1)

    pub target_didnt : (m n last : MachineView) (made : Result Submitted SubmitRefusal) (x : Unit {0}) (before mid now : Option Service) (fault : SyncFault) → m.pending ≡ [] → Begins held m before → Submits written asks.SyncTarget made m n → ServesSent (Ok x) made before mid
        → ((held : LogData) (p : Pending) (body : List ℕ) (reply : Message Op) → length body ≤ 10485760 → all_of (message_at read) body ≡ Ok reply → p.number ≡ number_of reply → n.pending ≡ p ∷ [] → IsDue held (string_written body) n.held mid → ReplyServed (Err fault) p reply held last now)
        → FetchesTarget written held h.log (Err fault) last now
    target_didnt m n last made x before mid now fault none b submits sends awaits =
        let r = target_reply m n last made x before mid now (Err fault) none b submits sends awaits in
        target_stops r.0 r.2 fault last now r.3

  -- ---- the compact target

  compact_stops : (number other : ℕ) (held : LogData) (fault : SyncFault) (last : MachineView) (now : Option Service) → ReplyServed {Op = Op} (Err fault) (pending_of number asks.CompactTarget) (refuse other unexpected) held last now → RefusesCompact held (Err fault) now
  compact_stops number other held faults.Network last now a = a
  compact_stops number other held faults.OutOfMemory last now a = a
  compact_stops number other held faults.Exhausted last now a = a
  compact_stops number other held (faults.Server code text) last now a =
      let own : ErrorResponse = record { request_id = other; error_code = unexpected.code; message = unexpected.text } in
      let told : ErrorResponse = record { request_id = a.1; error_code = code; message = text } in
      let same : own ≡ told = same_refusal own told (Some own) refl a.2 in
      (sym (ap (λ (r : ErrorResponse). r.error_code) same), sym (ap (λ (r : ErrorResponse). r.message) same), a.3)
  compact_stops number other held (faults.UnexpectedResponse n) last now a = absurd (cc a.1)
  compact_stops number other held faults.RequestChannelClosed last now a = a
  compact_stops number other held faults.InvalidResponse last now a = a
  compact_stops number other held (faults.InvalidProof n) last now a = a
  compact_stops number other held faults.TooManyStrays last now a = a
  compact_stops number other held (faults.StaleUpdate start end) last now a = a
  compact_stops number other held (faults.WrongRoot found) last now a = a
  compact_stops number other held faults.Closed last now a = a

  compact_reply : (held : LogData) (m n last : MachineView) (made : Result Submitted SubmitRefusal) (x : Unit {0}) (before mid now : Option Service) (result : Result (Message Op) SyncFault) → m.pending ≡ [] → Begins held m before → Submits written asks.CompactTarget made m n → ServesSent (Ok x) made before mid
      → ((held : LogData) (p : Pending) (body : List ℕ) (reply : Message Op) → length body ≤ 10485760 → all_of (message_at read) body ≡ Ok reply → p.number ≡ number_of reply → n.pending ≡ p ∷ [] → IsDue held (string_written body) n.held mid → ReplyServed result p reply held last now)
      → (number : ℕ) × ReplyServed result (pending_of number asks.CompactTarget) (refuse number unexpected) held last now
  unfolding varint
  compact_reply held m n last made x before mid now result none b submits sends awaits =
      let d = due_so held asks.CompactTarget m n made x before mid tt (λ number small. small) (λ number. tt) (λ number. refl) none b submits sends in
      (d.number, reply_so held asks.CompactTarget n last mid now result (refuse d.number unexpected) d (d.small, unexpected_utf8) (lit≤ tt) (lit≤ tt) refl refl awaits)

  pub compact_came : (held : LogData) (m n last : MachineView) (made : Result Submitted SubmitRefusal) (x : Unit {0}) (before mid now : Option Service) (message : Message Op) (answer : GetCompactTargetResponse) → m.pending ≡ [] → Begins held m before → Submits written asks.CompactTarget made m n → ServesSent (Ok x) made before mid
      → ((held : LogData) (p : Pending) (body : List ℕ) (reply : Message Op) → length body ≤ 10485760 → all_of (message_at read) body ≡ Ok reply → p.number ≡ number_of reply → n.pending ≡ p ∷ [] → IsDue held (string_written body) n.held mid → ReplyServed (Ok message) p reply held last now)
      → message ≡ messages.GetCompactTargetResponse answer → ⊥
  compact_came held m n last made x before mid now message answer none b submits sends awaits is =
      let r = compact_reply held m n last made x before mid now (Ok message) none b submits sends awaits in
      let e : refuse r.0 unexpected ≡ messages.GetCompactTargetResponse answer = sym r.1.0 ∙ is in
      cc

  pub compact_didnt : (held : LogData) (m n last : MachineView) (made : Result Submitted SubmitRefusal) (x : Unit {0}) (before mid now : Option Service) (fault : SyncFault) → m.pending ≡ [] → Begins held m before → Submits written asks.CompactTarget made m n → ServesSent (Ok x) made before mid
      → ((held : LogData) (p : Pending) (body : List ℕ) (reply : Message Op) → length body ≤ 10485760 → all_of (message_at read) body ≡ Ok reply → p.number ≡ number_of reply → n.pending ≡ p ∷ [] → IsDue held (string_written body) n.held mid → ReplyServed (Err fault) p reply held last now)
      → RefusesCompact held (Err fault) now
  compact_didnt held m n last made x before mid now fault none b submits sends awaits =
      let r = compact_reply held m n last made x before mid now (Err fault) none b submits sends awaits in
      compact_stops r.0 r.0 held fault last now r.1

-- ---- a request that was sent, and one that wasn't

pub sent_so : (made : Result Submitted SubmitRefusal) (s : Submitted) (x : Unit {0}) (bytes : List ℕ) (before now : Option Service) → made ≡ Ok s → bytes ≡ s.frame.items → now ≡ service_sent (Ok x) bytes before → ServesSent (Ok x) made before now
sent_so made s x bytes None now e f g = g
sent_so made s x bytes (Some held) now e f g = (s, e, g ∙ ap (λ (b : List ℕ). owes held (reply_to held.log b)) f)

pub unsent_may_stop : {Op : Type 0} (written : Op → List ℕ) (ask : Ask) (held : LogData) (m n : MachineView) (made : Result Submitted SubmitRefusal) (fault : SyncFault) (wire told : Option Wire) (count risen : ℕ) (before : Option Service) → Begins held m before → Submits written ask made m n → Sends (Err fault) made wire told count risen
    → (P : SyncFault → Type 0) → P faults.Network → P faults.OutOfMemory → P faults.Exhausted → P fault
unsent_may_stop written ask held m n made faults.Network wire told count risen before b submits a P network memory exhausted = network
unsent_may_stop written ask held m n made faults.OutOfMemory wire told count risen before b submits a P network memory exhausted = memory
unsent_may_stop written ask held m n made faults.Exhausted wire told count risen before b submits a P network memory exhausted = exhausted
unsent_may_stop written ask held m n made faults.Closed wire told count risen before b submits a P network memory exhausted =
    let h : Submits written ask (Err refusals.Closed) m n = subst (λ (r : Result Submitted SubmitRefusal). Submits written ask r m n) a.0 submits in
    absurd (let x : true ≡ false = sym h.0 ∙ b.live in cc)
unsent_may_stop written ask held m n made faults.RequestChannelClosed wire told count risen before b submits a P network memory exhausted = absurd a
unsent_may_stop written ask held m n made faults.InvalidResponse wire told count risen before b submits a P network memory exhausted = absurd a
unsent_may_stop written ask held m n made (faults.UnexpectedResponse number) wire told count risen before b submits a P network memory exhausted = absurd a
unsent_may_stop written ask held m n made (faults.Server code text) wire told count risen before b submits a P network memory exhausted = absurd a
unsent_may_stop written ask held m n made (faults.InvalidProof number) wire told count risen before b submits a P network memory exhausted = absurd a
unsent_may_stop written ask held m n made faults.TooManyStrays wire told count risen before b submits a P network memory exhausted = absurd a
unsent_may_stop written ask held m n made (faults.StaleUpdate start end) wire told count risen before b submits a P network memory exhausted = absurd a
unsent_may_stop written ask held m n made (faults.WrongRoot root) wire told count risen before b submits a P network memory exhausted = absurd a

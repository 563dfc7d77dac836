-- A whole fetch: the request that was sent, and what came of it.
use Rattle.std.proofs.Common.{◌≡◌, ℕ, ◌+◌, ◌-◌, ◌≤◌, ◌^◌, Bool, true, false, List, [], ◌∷◌, ◌++◌, Option, Some, Result, Ok, Err, refl, ap, subst, ◌∙◌, arith, inl, inr}
use Rattle.std.specs.Prelude.{min}
use Rattle.std.proofs.lemmas.List.{append-nil}
use Rattle.ledger_codec.specs.Causes.{Rose}
use Rattle.ledger_codec.specs.Parsing.{Parsed}
use Rattle.ledger_codec.specs.Frames.{Leads}
use Rattle.sync_net.specs.declared.ask.Ask.{Ask}
use Rattle.sync_net.specs.declared.ask.Ask.TheVariants as asks
use Rattle.sync_net.specs.declared.ask.Pending.{Pending}
use Rattle.sync_net.specs.declared.ask.Submitted.{Submitted}
use Rattle.sync_net.specs.declared.fault.SubmitRefusal.{SubmitRefusal}
use Rattle.sync_net.specs.declared.fault.SubmitRefusal.TheVariants as refusals
use Rattle.sync_net.specs.declared.message.Message.{Message}
use Rattle.sync_net.specs.declared.message.Message.TheVariants as messages
use Rattle.sync_net.specs.declared.response.GetSyncTargetResponse.{GetSyncTargetResponse}
use Rattle.sync_net.specs.declared.response.GetCompactTargetResponse.{GetCompactTargetResponse}
use Rattle.sync_net.specs.Asks.{is_response_to}
use Rattle.sync_net.specs.Asking.{Submits, ask_frame, number_after}
use Rattle.sync_net.specs.View.{MachineView}
use Rattle.sync_net.specs.Wire.{Wire}
use Rattle.sync_client.specs.declared.fault.SyncFault.{SyncFault}
use Rattle.sync_client.specs.declared.fault.SyncFault.TheVariants as faults
use Rattle.sync_client.specs.Ending.{Since}
use Rattle.sync_client.proofs.Stepping.{Since-none, Since-then, Since-sent}
use Rattle.sync_fetch.specs.Exchange.{Exchange, IsRead, Reply, Pends}
use Rattle.sync_fetch.specs.Told.{Sends, Heard, Came, Stops, Awaits, pending_of, FetchStops, FetchCame}

rose_since : (a b c : ℕ) → a ≤ b → Rose b c → Rose a c
rose_since a b c le h = let r : min (b + 1) (2 ^ 64 - 1) ≤ c = h in omega arith

-- the request was made under this number, and its frame was sent
record Made {Op : Type 0} (written : Op → List ℕ) (ask : Ask) (m n : MachineView) (before mid : Option Wire) (count between : ℕ) : Type 0 where
  number : ℕ
  live : m.closed ≡ false
  drawn : m.next ≡ Some number
  one : n.pending ≡ pending_of number ask ∷ []
  held : n.held ≡ m.held
  next : n.next ≡ number_after number
  told : Since before mid [] false (ask_frame written number ask)
  later : count ≤ between

made_so : {Op : Type 0} (written : Op → List ℕ) (ask : Ask) (m n : MachineView) (made : Result Submitted SubmitRefusal) (x : Unit {0}) (before mid : Option Wire) (count between : ℕ) → m.pending ≡ [] → Submits written ask made m n → Sends (Ok x) made before mid count between → Made written ask m n before mid count between
made_so written ask m n made x before mid count between e submits sends =
    let s = sends.0 in
    let h : Submits written ask (Ok s) m n = subst (λ (r : Result Submitted SubmitRefusal). Submits written ask r m n) sends.1 submits in
    record {
      number = s.number;
      live = h.0;
      drawn = h.1;
      one = ap (λ (v : MachineView). v.pending) h.3 ∙ ap (λ (ps : List Pending). ps ++ pending_of s.number ask ∷ []) e;
      held = ap (λ (v : MachineView). v.held) h.3;
      next = ap (λ (v : MachineView). v.next) h.3;
      told = subst (λ (b : List ℕ). Since before mid [] false b) h.2 (Since-sent before before mid [] [] s.frame.items (Since-none before) sends.2);
      later = sends.3;
    }

told_all : (before mid now : Option Wire) (given sent : List ℕ) (ended : Bool) → Since before mid [] false sent → Since mid now given ended [] → Since before now given ended sent
told_all before mid now given sent ended p q = subst (λ (b : List ℕ). Since before now given ended b) (append-nil sent) (Since-then before mid now [] given ended sent [] p q)

module _ {Op : Type 0} (read : List ℕ → Parsed Op) (written : Op → List ℕ) (ask : Ask) (m n : MachineView) (before mid now : Option Wire) (count between : ℕ) (s : Made written ask m n before mid count between) where
  exchange_all : (given : List ℕ) (ended : Bool) (reply : Reply Op) → Exchange read (pending_of s.number ask) (n.held ++ given) ended reply → Exchange read (pending_of s.number ask) (m.held ++ given) ended reply
  exchange_all given ended reply x = subst (λ (b : List ℕ). Exchange read (pending_of s.number ask) (b ++ given) ended reply) s.held x

  drawn_all : (given : List ℕ) → IsRead read (pending_of s.number ask) n.held given → IsRead read (pending_of s.number ask) m.held given
  drawn_all given d = subst (λ (b : List ℕ). IsRead read (pending_of s.number ask) b given) s.held d

  abbrev heard_all : (reply : Reply Op) → Heard read (pending_of s.number ask) n.held [] mid now reply → Heard read (pending_of s.number ask) m.held (ask_frame written s.number ask) before now reply
  heard_all reply h = record {
    given = h.given;
    ended = h.ended;
    exchange = record {
      bodies = h.exchange.bodies;
      rest = h.exchange.rest;
      strays = h.exchange.strays;
      led = subst (λ (b : List ℕ). Leads 10485760 (b ++ h.given) h.exchange.bodies h.exchange.rest) s.held h.exchange.led;
      passed = h.exchange.passed;
      ends = h.exchange.ends;
    };
    told = told_all before mid now h.given (ask_frame written s.number ask) h.ended s.told h.told;
    drawn = drawn_all h.given h.drawn;
    waited = λ t. exchange_all h.given false Pends (h.waited t);
  }

  stops_all : (last : MachineView) (risen : ℕ) (fault : SyncFault) → Stops {Op = Op} fault read (pending_of s.number ask) n.held [] mid now between risen last → FetchStops {Op = Op} fault read written ask m last before now count risen
  stops_all last risen faults.Network a = (s.live, rose_since count between risen s.later a.0, a.1, s.number, s.drawn, inr (heard_all _ a.2, a.3))
  stops_all last risen faults.RequestChannelClosed a = (s.live, s.number, s.drawn, (a.0, heard_all _ a.1))
  stops_all last risen faults.InvalidResponse a = (s.live, s.number, s.drawn, (a.0, heard_all _ a.1))
  stops_all last risen (faults.UnexpectedResponse number) a = (s.live, s.number, s.drawn, (a.0, heard_all _ a.1))
  stops_all last risen (faults.Server code text) a = (s.live, s.number, s.drawn, (a.0, heard_all _ a.1))
  stops_all last risen faults.TooManyStrays a = (s.live, s.number, s.drawn, (a.0, heard_all _ a.1))
  stops_all last risen faults.OutOfMemory a =
      let h = a.1 in (
        s.live,
        (let x = s.later in let y = a.0 in omega arith),
        inr (inr (
          s.number,
          s.drawn,
          record {
            given = h.given;
            lost = h.lost;
            bodies = h.bodies;
            strays = h.strays;
            led = subst (λ (b : List ℕ). Leads 10485760 (b ++ h.given) h.bodies last.held) s.held h.led;
            passed = h.passed;
            told = told_all before mid now (h.given ++ h.lost) (ask_frame written s.number ask) false s.told h.told;
            drawn = drawn_all h.given h.drawn;
            waited = elim h.waited [ inl e ↦ inl e | inr r ↦ inr (r.0, exchange_all h.given false Pends r.1) ];
            live = h.live;
            pending = h.pending;
          },
        )),
      )
  stops_all last risen faults.Closed a = absurd a
  stops_all last risen faults.Exhausted a = absurd a
  stops_all last risen (faults.InvalidProof number) a = absurd a
  stops_all last risen (faults.StaleUpdate start end) a = absurd a
  stops_all last risen (faults.WrongRoot root) a = absurd a

  came_all : (last : MachineView) (message : Message Op) → Came read (pending_of s.number ask) n.held [] mid now message n.next last → FetchCame read written ask message m last before now
  came_all last message a = (
    s.live,
    s.number,
    s.drawn,
    record {
      heard = heard_all _ a.heard;
      kind = a.kind;
      live = a.live;
      nothing_pending = a.nothing_pending;
      number_next = a.number_next ∙ s.next;
      left = a.left;
    },
  )

-- the request wasn't sent
pub send_stops : {Op : Type 0} (read : List ℕ → Parsed Op) (written : Op → List ℕ) (ask : Ask) (m n : MachineView) (made : Result Submitted SubmitRefusal) (before now : Option Wire) (count risen : ℕ) (fault : SyncFault)
    → m.pending ≡ [] → Submits written ask made m n → Sends (Err fault) made before now count risen → FetchStops {Op = Op} fault read written ask m n before now count risen
send_stops read written ask m n made before now count risen faults.Network e submits a =
    let h : Submits written ask (Ok a.0) m n = subst (λ (r : Result Submitted SubmitRefusal). Submits written ask r m n) a.1 submits in
    (h.0, a.3, ap (λ (v : MachineView). v.closed) h.3 ∙ h.0, a.0.number, h.1, inl (a.2, ap (λ (v : MachineView). v.held) h.3))
send_stops read written ask m n made before now count risen faults.Closed e submits a =
    let h : Submits written ask (Err refusals.Closed) m n = subst (λ (r : Result Submitted SubmitRefusal). Submits written ask r m n) a.0 submits in
    (h.0, h.1, a.1, a.2)
send_stops read written ask m n made before now count risen faults.Exhausted e submits a =
    let h : Submits written ask (Err refusals.Exhausted) m n = subst (λ (r : Result Submitted SubmitRefusal). Submits written ask r m n) a.0 submits in
    (h.0, h.1, h.2, a.1, a.2)
send_stops read written ask m n made before now count risen faults.OutOfMemory e submits (same, later, inl k) =
    let h : Submits written ask (Err refusals.OutOfMemory) m n = subst (λ (r : Result Submitted SubmitRefusal). Submits written ask r m n) k submits in
    (h.0, later, inl (h.1, same))
send_stops read written ask m n made before now count risen faults.OutOfMemory e submits (same, later, inr k) =
    let h : Submits written ask (Ok k.0) m n = subst (λ (r : Result Submitted SubmitRefusal). Submits written ask r m n) k.1 submits in
    let one = ap (λ (v : MachineView). v.pending) h.3 ∙ ap (λ (ps : List Pending). ps ++ pending_of k.0.number ask ∷ []) e in
    (h.0, later, inr (inl (k.0.number, h.1, ap (λ (v : MachineView). v.closed) h.3 ∙ h.0, ap (λ (v : MachineView). v.held) h.3, one, same)))
send_stops read written ask m n made before now count risen faults.RequestChannelClosed e submits a = absurd a
send_stops read written ask m n made before now count risen faults.InvalidResponse e submits a = absurd a
send_stops read written ask m n made before now count risen (faults.UnexpectedResponse number) e submits a = absurd a
send_stops read written ask m n made before now count risen (faults.Server code text) e submits a = absurd a
send_stops read written ask m n made before now count risen (faults.InvalidProof number) e submits a = absurd a
send_stops read written ask m n made before now count risen faults.TooManyStrays e submits a = absurd a
send_stops read written ask m n made before now count risen (faults.StaleUpdate start end) e submits a = absurd a
send_stops read written ask m n made before now count risen (faults.WrongRoot root) e submits a = absurd a

-- no answer came
pub fetch_stops : {Op : Type 0} (read : List ℕ → Parsed Op) (written : Op → List ℕ) (ask : Ask) (m n last : MachineView) (made : Result Submitted SubmitRefusal) (x : Unit {0}) (before mid now : Option Wire) (count between risen : ℕ) (fault : SyncFault)
    → m.pending ≡ [] → Submits written ask made m n → Sends (Ok x) made before mid count between → ((p : Pending) → n.pending ≡ p ∷ [] → Awaits {Op = Op} (Err fault) read p n last mid now between risen) → FetchStops {Op = Op} fault read written ask m last before now count risen
fetch_stops read written ask m n last made x before mid now count between risen fault e submits sends awaits =
    let s = made_so written ask m n made x before mid count between e submits sends in
    stops_all read written ask m n before mid now count between s last risen fault (awaits (pending_of s.number ask) s.one)

-- the answer came
pub fetch_came : {Op : Type 0} (read : List ℕ → Parsed Op) (written : Op → List ℕ) (ask : Ask) (m n last : MachineView) (made : Result Submitted SubmitRefusal) (x : Unit {0}) (before mid now : Option Wire) (count between risen : ℕ) (message : Message Op)
    → m.pending ≡ [] → Submits written ask made m n → Sends (Ok x) made before mid count between → ((p : Pending) → n.pending ≡ p ∷ [] → Awaits {Op = Op} (Ok message) read p n last mid now between risen) → FetchCame read written ask message m last before now
fetch_came read written ask m n last made x before mid now count between risen message e submits sends awaits =
    let s = made_so written ask m n made x before mid count between e submits sends in
    came_all read written ask m n before mid now count between s last message (awaits (pending_of s.number ask) s.one)

-- of the request's response kind
pub is_target : {Op : Type 0} (m : Message Op) → is_response_to asks.SyncTarget m ≡ true → (r : GetSyncTargetResponse) × (m ≡ messages.GetSyncTargetResponse r)
is_target (messages.GetSyncTargetResponse r) e = (r, refl)
is_target (messages.GetOperationsRequest r) e = absurd (cc e)
is_target (messages.GetOperationsResponse r) e = absurd (cc e)
is_target (messages.GetSyncTargetRequest r) e = absurd (cc e)
is_target (messages.GetCompactTargetRequest r) e = absurd (cc e)
is_target (messages.GetCompactTargetResponse r) e = absurd (cc e)
is_target (messages.GetCompactStateRequest r) e = absurd (cc e)
is_target (messages.GetCompactStateResponse r) e = absurd (cc e)
is_target (messages.Error r) e = absurd (cc e)

pub is_compact_target : {Op : Type 0} (m : Message Op) → is_response_to asks.CompactTarget m ≡ true → (r : GetCompactTargetResponse) × (m ≡ messages.GetCompactTargetResponse r)
is_compact_target (messages.GetCompactTargetResponse r) e = (r, refl)
is_compact_target (messages.GetOperationsRequest r) e = absurd (cc e)
is_compact_target (messages.GetOperationsResponse r) e = absurd (cc e)
is_compact_target (messages.GetSyncTargetRequest r) e = absurd (cc e)
is_compact_target (messages.GetSyncTargetResponse r) e = absurd (cc e)
is_compact_target (messages.GetCompactTargetRequest r) e = absurd (cc e)
is_compact_target (messages.GetCompactStateRequest r) e = absurd (cc e)
is_compact_target (messages.GetCompactStateResponse r) e = absurd (cc e)
is_compact_target (messages.Error r) e = absurd (cc e)

-- An answer of the machine, kept by the collector, is what the session does with the frame.
use Rattle.std.proofs.Common.{◌≡◌, ℕ, ◌+◌, ◌<◌, ◌≤◌, Bool, true, false, cond, List, [], ◌∷◌, ◌++◌, length, map, slice_get, if◌then◌else◌, Option, Some, None, Result, Ok, Err, ◌==◌, position, remove, All, refl, sym, ap, subst, ◌∙◌, option_map, option_and_then}
use Rattle.std.specs.declared.ops.Range.{Range}
use Rattle.std.proofs.lemmas.Bool.{lt-ltb, le-ltb}
use Rattle.std.proofs.lemmas.Option.{slice_get-map}
use Rattle.ledger_codec.specs.declared.fault.CodecError.{CodecError}
use Rattle.ledger_codec.specs.Sequences.{all_of}
use Rattle.sync_net.specs.declared.ask.Ask.{Ask as Request}
use Rattle.sync_net.specs.declared.ask.Ask.TheVariants as requests
use Rattle.sync_net.specs.declared.ask.Pending.{Pending}
use Rattle.sync_net.specs.declared.ask.Answer.{Answer}
use Rattle.sync_net.specs.declared.ask.Answer.TheVariants as answers
use Rattle.sync_net.specs.declared.code.ErrorCode.{ErrorCode}
use Rattle.sync_net.specs.declared.fault.MachineFault.{MachineFault}
use Rattle.sync_net.specs.declared.fault.MachineFault.TheVariants as faults
use Rattle.sync_net.specs.declared.message.Message.{Message}
use Rattle.sync_net.specs.declared.message.Message.TheVariants as messages
use Rattle.sync_net.specs.declared.response.ErrorResponse.{ErrorResponse}
use Rattle.sync_net.specs.declared.response.GetOperationsResponse.{GetOperationsResponse}
use Rattle.sync_net.specs.Messages.{message_at}
use Rattle.sync_net.specs.Numbered.{number_of}
use Rattle.sync_net.specs.Asks.{is_operations, is_response_to, refusal_in, fault_in, pending_in, answer_to, without as machine_without, without_at as machine_without_at}
use Rattle.sync_net.specs.View.{MachineView}
use Rattle.ledger_log.specs.declared.target.Target.{Target}
use Rattle.sync_client.specs.declared.asked.Asked.{Asked}
use Rattle.sync_client.specs.declared.fault.SyncFault.TheVariants as sync
use Rattle.sync_client.specs.Asking.{good, without_at, rest_of, nodes_of}
use Rattle.sync_client.specs.Steps.{Heeds}
use Rattle.sync_client.specs.Updates.{heeded}
use Rattle.sync_client.specs.Collected.{Collected, ranges_of, accepted, without, target_of, is_complete, IsOutstanding}
use Rattle.sync_client.specs.Tiles.{Tiles}
use Rattle.sync_client.specs.Session.{Rules, Ask, State, Offence, InvalidResponse, UnexpectedResponse, Server, InvalidProof, TooManyStrays, StaleUpdate, ask_under, place_of, with_answer, is_whole, heeded_by, updated, offence_of, answered, taken_by, take_frame}
use Rattle.sync_client.specs.Seen.{Beside, beside, seen, ask_of, asks_of, range_of, IsForOperations, Paired}
use Rattle.sync_client.proofs.Insides.{All-at, All-remove}
use Rattle.sync_client.proofs.Places.{without_map, without_is, target_is}
use Rattle.sync_client.proofs.Pairs.{Stands, stands, none_stands, asks_place, asks_remove, same_lengths}
use Rattle.sync_client.proofs.Rising.{whole_seen}

pub taken_is : {Op : Type 0} (rules : Rules Op) (v : MachineView) (c : Collected Op) (b : Beside) (body : List ℕ) (m : Message Op) → all_of (message_at rules.read) body ≡ Ok m
    → take_frame rules (seen v c b) body ≡ taken_by rules (seen v c b) m (ask_under (number_of m) (asks_of v.pending c.pending))
unfolding take_frame
taken_is rules v c b body m e = rw e refl

pub unread_is : {Op : Type 0} (rules : Rules Op) (v : MachineView) (c : Collected Op) (b : Beside) (body : List ℕ) (e : CodecError) → all_of (message_at rules.read) body ≡ Err e → take_frame rules (seen v c b) body ≡ Err InvalidResponse
unfolding take_frame
unread_is rules v c b body f e = rw e refl

-- ---- strays

either_no_stray : {Op : Type 0} (b : Bool) (n : ℕ) (ask : Request) (m : Message Op) (e : MachineFault) (k : ℕ) → cond b (Ok (answers.Reply n ask m)) (Err e) ≡ Ok (answers.Stray k) → ⊥
either_no_stray true n ask m e k h = cc h
either_no_stray false n ask m e k h = cc h

no_ask : {Op : Type 0} (m : Message Op) (o : Option Pending) (k : ℕ) → answer_to m o ≡ Ok (answers.Stray k) → o ≡ None
no_ask m None k e = refl
no_ask m (Some p) k e = absurd (either_no_stray (is_response_to p.ask m) (number_of m) p.ask m (fault_in (number_of m) (refusal_in m)) k e)

-- a stray is under the number of no request
stray_is : {Op : Type 0} (rules : Rules Op) (v : MachineView) (c : Collected Op) (b : Beside) (body : List ℕ) (m : Message Op) (k : ℕ) → Paired v c → all_of (message_at rules.read) body ≡ Ok m → answer_to m (pending_in (number_of m) v.pending) ≡ Ok (answers.Stray k)
    → take_frame rules (seen v c b) body ≡ taken_by rules (seen v c b) m None
stray_is rules v c b body m k pair e a = taken_is rules v c b body m e ∙ ap (taken_by rules (seen v c b) m) (none_stands v c (number_of m) pair (no_ask m (pending_in (number_of m) v.pending) k a))

pub stray_kept : {Op : Type 0} (rules : Rules Op) (v : MachineView) (c : Collected Op) (strays : ℕ) (updates : List (Option Target)) (body : List ℕ) (m : Message Op) (k : ℕ) → Paired v c → all_of (message_at rules.read) body ≡ Ok m → answer_to m (pending_in (number_of m) v.pending) ≡ Ok (answers.Stray k) → strays < 1024
    → take_frame rules (seen v c (beside strays updates)) body ≡ Ok (seen v c (beside (strays + 1) updates))
stray_kept rules v c strays updates body m k pair e a lt = stray_is rules v c (beside strays updates) body m k pair e a ∙ rw (lt-ltb strays 1024 lt) refl

pub stray_refused : {Op : Type 0} (rules : Rules Op) (v : MachineView) (c : Collected Op) (strays : ℕ) (updates : List (Option Target)) (body : List ℕ) (m : Message Op) (k : ℕ) → Paired v c → all_of (message_at rules.read) body ≡ Ok m → answer_to m (pending_in (number_of m) v.pending) ≡ Ok (answers.Stray k) → 1024 ≤ strays
    → take_frame rules (seen v c (beside strays updates)) body ≡ Err TooManyStrays
stray_refused rules v c strays updates body m k pair e a le = stray_is rules v c (beside strays updates) body m k pair e a ∙ rw (le-ltb strays 1024 le) refl

-- ---- replies

placed : (ps : List Pending) (p : Pending) (o : Option ℕ) → option_and_then (λ i. slice_get ps i) o ≡ Some p → (i : ℕ) × (o ≡ Some i) × (slice_get ps i ≡ Some p)
placed ps p None e = absurd (cc e)
placed ps p (Some i) e = (i, refl, e)

for_operations : (n : ℕ) (ps : List Pending) (p : Pending) → All IsForOperations ps → pending_in n ps ≡ Some p → is_operations p.ask ≡ true
for_operations n ps p all e =
    let i = placed ps p (position (λ (p : Pending). p.number == n) ps) e in
    All-at IsForOperations ps i.0 p i.2 all

-- the range of a request stands among those that were asked
range_at : {Op : Type 0} (v : MachineView) (c : Collected Op) (n : ℕ) (p : Pending) (s : Stands v c n p) → slice_get (ranges_of c.pending) s.place ≡ Some (range_of p.ask)
range_at v c n p s = slice_get-map (λ (a : Asked). a.range) c.pending s.place ∙ (ap (option_map (λ (a : Asked). a.range)) s.with ∙ ap Some s.range)

pub outstanding : {Op : Type 0} (v : MachineView) (c : Collected Op) (n : ℕ) (p : Pending) → Paired v c → pending_in n v.pending ≡ Some p → IsOutstanding (range_of p.ask) (ranges_of c.pending)
outstanding v c n p pair e =
    let s = stands v c n p pair e in
    (s.place, range_at v c n p s)

-- it was asked for its ask's target
asked_for : {Op : Type 0} (v : MachineView) (c : Collected Op) (n : ℕ) (p : Pending) (s : Stands v c n p) → Tiles c → target_of c (range_of p.ask) ≡ s.asked.target
asked_for v c n p s tiles = ap (target_of c) (sym s.range) ∙ target_is c s.asked s.place tiles s.with

-- a reply is a response to the pending ask of its number
pub record Replied {Op : Type 0} (m : Message Op) (o : Option Pending) (number_given : ℕ) (ask_given : Request) (message_given : Message Op) : Type 0 where
  pub p : Pending
  pub found : o ≡ Some p
  pub kind : is_response_to p.ask m ≡ true
  pub number : number_given ≡ number_of m
  pub ask : ask_given ≡ p.ask
  pub message : message_given ≡ m

either_reply : {Op : Type 0} (b : Bool) (m : Message Op) (p : Pending) (e : MachineFault) (number : ℕ) (ask : Request) (message : Message Op) → is_response_to p.ask m ≡ b → cond b (Ok (answers.Reply (number_of m) p.ask m)) (Err e) ≡ Ok (answers.Reply number ask message) → Replied m (Some p) number ask message
either_reply true m p e number ask message k h = record { p = p; found = refl; kind = k; number = cc; ask = cc; message = cc }
either_reply false m p e number ask message k h = absurd (cc h)

pub replied : {Op : Type 0} (m : Message Op) (o : Option Pending) (number : ℕ) (ask : Request) (message : Message Op) → answer_to m o ≡ Ok (answers.Reply number ask message) → Replied m o number ask message
replied m None number ask message e = absurd (cc e)
replied m (Some p) number ask message e = either_reply (is_response_to p.ask m) m p (fault_in (number_of m) (refusal_in m)) number ask message refl e

-- a response to a request for operations holds operations
pub IsResponse : {Op : Type 0} → Message Op → Type 0
IsResponse {Op} m = (r : GetOperationsResponse Op) × (m ≡ messages.GetOperationsResponse r)

pub holds_operations : {Op : Type 0} (ask : Request) (m : Message Op) → is_operations ask ≡ true → is_response_to ask m ≡ true → IsResponse m
unfolding IsResponse
holds_operations ask (messages.GetOperationsResponse r) o k = (r, refl)
holds_operations ask (messages.GetOperationsRequest r) o k = absurd (cc k)
holds_operations ask (messages.GetSyncTargetRequest r) o k = absurd (cc k)
holds_operations (requests.Operations a b c d) (messages.GetSyncTargetResponse r) o k = absurd (cc k)
holds_operations requests.SyncTarget (messages.GetSyncTargetResponse r) o k = absurd (cc o)
holds_operations requests.CompactTarget (messages.GetSyncTargetResponse r) o k = absurd (cc o)
holds_operations (requests.CompactState t) (messages.GetSyncTargetResponse r) o k = absurd (cc o)
holds_operations ask (messages.GetCompactTargetRequest r) o k = absurd (cc k)
holds_operations (requests.Operations a b c d) (messages.GetCompactTargetResponse r) o k = absurd (cc k)
holds_operations requests.SyncTarget (messages.GetCompactTargetResponse r) o k = absurd (cc o)
holds_operations requests.CompactTarget (messages.GetCompactTargetResponse r) o k = absurd (cc o)
holds_operations (requests.CompactState t) (messages.GetCompactTargetResponse r) o k = absurd (cc o)
holds_operations ask (messages.GetCompactStateRequest r) o k = absurd (cc k)
holds_operations (requests.Operations a b c d) (messages.GetCompactStateResponse r) o k = absurd (cc k)
holds_operations requests.SyncTarget (messages.GetCompactStateResponse r) o k = absurd (cc o)
holds_operations requests.CompactTarget (messages.GetCompactStateResponse r) o k = absurd (cc o)
holds_operations (requests.CompactState t) (messages.GetCompactStateResponse r) o k = absurd (cc o)
holds_operations ask (messages.Error r) o k = absurd (cc k)

pub is_response : {Op : Type 0} (v : MachineView) (c : Collected Op) (m : Message Op) (number : ℕ) (ask : Request) (message : Message Op) → Paired v c → Replied m (pending_in (number_of m) v.pending) number ask message → (r : GetOperationsResponse Op) × (m ≡ messages.GetOperationsResponse r)
unfolding IsResponse
is_response v c m number ask message pair r = holds_operations r.p.ask m (for_operations (number_of m) v.pending r.p pair.operations r.found) r.kind

module _ {Op : Type 0} (rules : Rules Op) (v : MachineView) (c : Collected Op) (b : Beside) (body : List ℕ) (m : Message Op) (p : Pending) (r : GetOperationsResponse Op) (e : all_of (message_at rules.read) body ≡ Ok m) (is : m ≡ messages.GetOperationsResponse r) (f : pending_in (number_of m) v.pending ≡ Some p) (tiles : Tiles c) (pair : Paired v c) where
  there : Stands v c (number_of m) p
  there = stands v c (number_of m) p pair f

  -- how the answer is judged
  abbrev judged : Bool
  judged = good (rules.proved (target_of c (range_of p.ask))) c.plan.target.start (range_of p.ask) r

  judged_so : good (rules.proved there.asked.target) c.plan.target.start there.asked.range r ≡ judged
  judged_so =
      ap (λ (t : Target). good (rules.proved t) c.plan.target.start there.asked.range r) (sym (asked_for v c (number_of m) p there tiles))
      ∙ ap (λ (q : Range ℕ). good (rules.proved (target_of c (range_of p.ask))) c.plan.target.start q r) there.range

  answered_so : take_frame rules (seen v c b) body ≡ answered rules (seen v c b) (ask_of p there.asked) (messages.GetOperationsResponse r)
  answered_so = taken_is rules v c b body m e ∙ (ap (taken_by rules (seen v c b) m) there.is ∙ ap (answered rules (seen v c b) (ask_of p there.asked)) is)

  pub reply_refused : judged ≡ false → take_frame rules (seen v c b) body ≡ Err (InvalidProof (number_of m))
  reply_refused bad =
      let test : good (rules.proved there.asked.target) c.plan.target.start there.asked.range r ≡ false = judged_so ∙ bad in
      let three : answered rules (seen v c b) (ask_of p there.asked) (messages.GetOperationsResponse r) ≡ Err (InvalidProof p.number) = rw test refl in
      answered_so ∙ (three ∙ ap (λ (k : ℕ). let x : Result (State Op) Offence = Err (InvalidProof k) in x) there.number)

  -- the machine after it, which holds these bytes
  abbrev replied_machine : List ℕ → MachineView
  replied_machine rest = record v { held = rest; pending = machine_without (number_of m) v.pending }

  gone : machine_without (number_of m) v.pending ≡ remove v.pending there.place
  gone = ap (λ (o : Option ℕ). machine_without_at o v.pending) there.found

  left : without (range_of p.ask) c.pending ≡ remove c.pending there.place
  left = without_is c (range_of p.ask) there.place tiles (range_at v c (number_of m) p there)

  asks_left : without_at (place_of p.number (asks_of v.pending c.pending)) (asks_of v.pending c.pending) ≡ asks_of (machine_without (number_of m) v.pending) (without (range_of p.ask) c.pending)
  asks_left =
      ap (λ (k : ℕ). without_at (place_of k (asks_of v.pending c.pending)) (asks_of v.pending c.pending)) there.number
      ∙ (ap (λ (o : Option ℕ). without_at o (asks_of v.pending c.pending)) (asks_place (number_of m) v.pending c.pending (same_lengths v c pair) ∙ there.found)
      ∙ (sym (asks_remove v.pending c.pending there.place (same_lengths v c pair))
      ∙ (ap (λ (ps : List Pending). asks_of ps (remove c.pending there.place)) (sym gone)
      ∙ ap (λ (l : List Asked). asks_of (machine_without (number_of m) v.pending) l) (sym left))))

  kept_so : (rest : List ℕ) → with_answer (ask_of p there.asked) r (seen v c b) ≡ seen (replied_machine rest) (accepted (range_of p.ask) r c) b
  kept_so rest =
      ap (λ (l : List Ask). let t : State Op = record (with_answer (ask_of p there.asked) r (seen v c b)) { pending = l } in t) asks_left
      ∙ ap (λ (q : Range ℕ). let t : State Op = record (seen (replied_machine rest) c b) {
        pending = asks_of (machine_without (number_of m) v.pending) (without (range_of p.ask) c.pending);
        rests = c.rests ++ rest_of q (length r.operations);
        pinned = if q.start == c.plan.target.start then nodes_of r.pinned_nodes else c.pinned;
        kept = c.kept ++ record { at = q.start; ops = r.operations } ∷ [];
      } in t) there.range

  pub reply_kept : judged ≡ true → (rest : List ℕ) → take_frame rules (seen v c b) body ≡ updated (seen (replied_machine rest) (accepted (range_of p.ask) r c) b)
  reply_kept ok rest =
      let test : good (rules.proved there.asked.target) c.plan.target.start there.asked.range r ≡ true = judged_so ∙ ok in
      let three : answered rules (seen v c b) (ask_of p there.asked) (messages.GetOperationsResponse r) ≡ updated (with_answer (ask_of p there.asked) r (seen v c b)) = rw test refl in
      answered_so ∙ (three ∙ ap updated (kept_so rest))

  pub reply_paired : (rest : List ℕ) (d : Collected Op) → d.pending ≡ (accepted (range_of p.ask) r c).pending → Paired (replied_machine rest) d
  reply_paired rest d same =
      let request : Pending → Range ℕ = λ (q : Pending). range_of q.ask in
      record {
        ranges = ap ranges_of (same ∙ left)
            ∙ (without_map (λ (a : Asked). a.range) (Some there.place) c.pending
            ∙ (ap (λ (l : List (Range ℕ)). remove l there.place) pair.ranges
            ∙ (sym (without_map request (Some there.place) v.pending)
            ∙ ap (map request) (sym gone))));
        operations = subst (All IsForOperations) (sym gone) (All-remove IsForOperations v.pending there.place pair.operations);
      }

-- ---- later targets

-- a later target, or none, was taken
pub heeded_seen : {Op : Type 0} (w : MachineView) (c d : Collected Op) (strays : ℕ) (before now : List (Option Target)) (x : Unit {0}) → Heeds (Ok x) c d before now → updated (seen w c (beside strays before)) ≡ Ok (seen w d (beside strays now))
heeded_seen {Op} w c d strays before now x h =
    let s : State Op = seen w c (beside strays before) in
    let whole : is_whole s ≡ is_complete c = whole_seen w c (beside strays before) in
    ap (λ (t : Bool). heeded_by s (heeded t c.plan before)) whole
    ∙ (ap (heeded_by s) h.0
    ∙ ap (λ (v : Collected Op). let t : Result (State Op) Offence = Ok (seen w v (beside strays now)) in t) (sym h.1))

-- one was refused
pub stale_seen : {Op : Type 0} (w : MachineView) (c d : Collected Op) (strays start end : ℕ) (before now : List (Option Target)) (h : Heeds (Err (sync.StaleUpdate start end)) c d before now) → updated (seen w c (beside strays before)) ≡ Err (StaleUpdate h.0)
stale_seen {Op} w c d strays start end before now h =
    let s : State Op = seen w c (beside strays before) in
    ap (λ (t : Bool). heeded_by s (heeded t c.plan before)) (whole_seen w c (beside strays before)) ∙ ap (heeded_by s) h.3

-- ---- offences

-- the machine's fault is the session's offence
abbrev IsFault : MachineFault → Offence → Type 0
IsFault (faults.UnexpectedResponse n) offence = offence ≡ UnexpectedResponse n
IsFault (faults.Server code text) offence = offence ≡ Server code text
IsFault faults.InvalidResponse offence = ⊥
IsFault faults.RequestChannelClosed offence = ⊥
IsFault faults.Closed offence = ⊥
IsFault faults.OutOfMemory offence = ⊥

fault_is : (n : ℕ) (o : Option ErrorResponse) → IsFault (fault_in n o) (offence_of n o)
fault_is n None = refl
fault_is n (Some refusal) = refl

refused_with : {Op : Type 0} (b : Bool) (a : Answer Op) (f fault : MachineFault) → cond b (Ok a) (Err f) ≡ Err fault → (b ≡ false) × (f ≡ fault)
refused_with true a f fault h = absurd (cc h)
refused_with false a f fault h = (refl, cc h)

-- what is no response offends
offends_so : {Op : Type 0} (rules : Rules Op) (s : State Op) (a : Ask) (ask : Request) (m : Message Op) → is_operations ask ≡ true → is_response_to ask m ≡ false → answered rules s a m ≡ Err (offence_of a.number (refusal_in m))
offends_so rules s a ask (messages.GetOperationsResponse r) o k = absurd (cc (sym o ∙ k))
offends_so rules s a ask (messages.GetOperationsRequest r) o k = refl
offends_so rules s a ask (messages.GetSyncTargetRequest r) o k = refl
offends_so rules s a ask (messages.GetSyncTargetResponse r) o k = refl
offends_so rules s a ask (messages.GetCompactTargetRequest r) o k = refl
offends_so rules s a ask (messages.GetCompactTargetResponse r) o k = refl
offends_so rules s a ask (messages.GetCompactStateRequest r) o k = refl
offends_so rules s a ask (messages.GetCompactStateResponse r) o k = refl
offends_so rules s a ask (messages.Error r) o k = refl

offends_with : {Op : Type 0} (rules : Rules Op) (v : MachineView) (c : Collected Op) (b : Beside) (m : Message Op) (o : Option Pending) (fault : MachineFault) → Paired v c → pending_in (number_of m) v.pending ≡ o → answer_to {Op = Op} m o ≡ Err fault
    → (offence : Offence) × (taken_by rules (seen v c b) m (ask_under (number_of m) (asks_of v.pending c.pending)) ≡ Err offence) × IsFault fault offence
offends_with rules v c b m None fault pair e a = absurd (cc a)
offends_with {Op} rules v c b m (Some p) fault pair e a =
    let h = refused_with (is_response_to p.ask m) (answers.Reply (number_of m) p.ask m) (fault_in (number_of m) (refusal_in m)) fault a in
    let st = stands v c (number_of m) p pair e in
    let so = offends_so rules (seen v c b) (ask_of p st.asked) p.ask m (for_operations (number_of m) v.pending p pair.operations e) h.0 in (
      offence_of (number_of m) (refusal_in m),
      ap (taken_by rules (seen v c b) m) st.is ∙ (so ∙ ap (λ (k : ℕ). let x : Result (State Op) Offence = Err (offence_of k (refusal_in m)) in x) st.number),
      subst (λ (f : MachineFault). IsFault f (offence_of (number_of m) (refusal_in m))) h.1 (fault_is (number_of m) (refusal_in m)),
    )

pub unexpected : {Op : Type 0} (rules : Rules Op) (v : MachineView) (c : Collected Op) (b : Beside) (body : List ℕ) (m : Message Op) (n : ℕ) → Paired v c → all_of (message_at rules.read) body ≡ Ok m → answer_to {Op = Op} m (pending_in (number_of m) v.pending) ≡ Err (faults.UnexpectedResponse n)
    → take_frame rules (seen v c b) body ≡ Err (UnexpectedResponse n)
unexpected {Op} rules v c b body m n pair e a =
    let h = offends_with rules v c b m (pending_in (number_of m) v.pending) (faults.UnexpectedResponse n) pair refl a in
    taken_is rules v c b body m e ∙ (h.1 ∙ ap (λ (o : Offence). let x : Result (State Op) Offence = Err o in x) h.2)

pub served_error : {Op : Type 0} (rules : Rules Op) (v : MachineView) (c : Collected Op) (b : Beside) (body : List ℕ) (m : Message Op) (code : ErrorCode) (text : List ℕ) → Paired v c → all_of (message_at rules.read) body ≡ Ok m → answer_to {Op = Op} m (pending_in (number_of m) v.pending) ≡ Err (faults.Server code text)
    → take_frame rules (seen v c b) body ≡ Err (Server code text)
served_error {Op} rules v c b body m code text pair e a =
    let h = offends_with rules v c b m (pending_in (number_of m) v.pending) (faults.Server code text) pair refl a in
    taken_is rules v c b body m e ∙ (h.1 ∙ ap (λ (o : Offence). let x : Result (State Op) Offence = Err o in x) h.2)

-- What a complete collector says of the machine, and how many frames may still be taken.
use Rattle.std.proofs.Common.{◌≡◌, ℕ, ◌+◌, ◌<◌, ◌≤◌, Bool, true, false, List, [], ◌∷◌, ◌++◌, length, Option, Some, None, Result, Ok, Err, nat_lt, if◌then◌else◌, refl, sym, ap, subst, ◌∙◌, arith, inl, inr}
use Rattle.std.specs.declared.ops.Range.{Range}
use Rattle.std.proofs.lemmas.Bool.{cases_Bool, eqb-true, and_parts, ltb-true}
use Rattle.std.proofs.lemmas.List.{length-map}
use Rattle.std.proofs.lemmas.List.Sums.{sum_by_push}
use Rattle.ledger_codec.specs.declared.fault.CodecError.{CodecError}
use Rattle.ledger_codec.specs.Sequences.{all_of}
use Rattle.sync_net.specs.declared.message.Message.{Message}
use Rattle.sync_net.specs.declared.message.Message.TheVariants as messages
use Rattle.sync_net.specs.declared.response.GetOperationsResponse.{GetOperationsResponse}
use Rattle.sync_net.specs.Messages.{message_at}
use Rattle.sync_net.specs.Numbered.{number_of}
use Rattle.sync_net.specs.View.{MachineView}
use Rattle.sync_client.specs.declared.collector.Piece.{Piece}
use Rattle.sync_net.specs.Asking.{number_after}
use Rattle.sync_client.specs.Asking.{Plan, Judge, good, range_next}
use Rattle.sync_client.specs.Collected.{Collected, ranges_of, is_complete, nothing_left}
use Rattle.ledger_log.specs.declared.target.Target.{Target}
use Rattle.sync_net.specs.declared.ask.Pending.{Pending}
use Rattle.sync_client.specs.declared.asked.Asked.{Asked}
use Rattle.sync_client.specs.Tiles.{Tiles, size_of_pieces}
use Rattle.sync_client.proofs.Tiling.{complete_is}
use Rattle.sync_client.specs.Session.{Rules, Ask, State, Offence, StaleUpdate, TooManyStrays, offence_of, heeded_by, updated, answered, taken_by, taken, take_frame, ask_under, with_answer, is_whole, Nothing, Send, numbered, sending, ask_next}
use Rattle.sync_client.specs.Seen.{Beside, seen, range_of, Paired}
use Rattle.sync_client.specs.Updates.{is_stale, heeded}
use Rattle.sync_net.specs.Asks.{refusal_in}
use Rattle.sync_net.specs.declared.response.ErrorResponse.{ErrorResponse}
use Rattle.sync_client.proofs.Aiming.{SamePart, Heeded, heeded_so, refused_so, took_keeps}
use Rattle.sync_client.specs.Ending.{handled}

none_of : {X : Type 0} (xs : List X) → length xs ≡ 0 → xs ≡ []
none_of [] e = refl
none_of (x ∷ xs) e = absurd (omega arith)

-- where all is kept, nothing is pending
pub nothing_pending : {Op : Type 0} (m : MachineView) (c : Collected Op) → Tiles c → is_complete c ≡ true → Paired m c → m.pending ≡ []
nothing_pending m c tiles done pair =
    let e : nothing_left (length c.pending) (length c.rests) c.fresh c.plan.target.end ≡ true = complete_is c tiles ∙ done in
    let z : length c.pending ≡ 0 = eqb-true (length c.pending) 0 (and_parts _ _ e).0 in
    let a : length (ranges_of c.pending) ≡ length c.pending = length-map c.pending (λ (a : Asked). a.range) in
    let b : length (ranges_of c.pending) ≡ length m.pending = ap length pair.ranges ∙ length-map m.pending (λ (p : Pending). range_of p.ask) in
    none_of m.pending (omega arith)

some_ops : {Op : Type 0} (proved : Judge Op) (start : ℕ) (r : Range ℕ) (m : GetOperationsResponse Op) → good proved start r m ≡ true → 0 < length m.operations
unfolding good
some_ops proved start r m e = ltb-true 0 (length m.operations) (and_parts (nat_lt 0 (length m.operations)) _ e).0

-- a heeded answer leaves all but the plan and the answers to come
pub record Updated {Op : Type 0} (s t : State Op) : Type 0 where
  pub plan : Plan
  pub answers : List (Option Target)
  pub heeds : heeded (is_whole s) s.plan s.updates ≡ Ok (plan, answers)
  pub is : t ≡ record s { plan = plan; updates = answers }
  pub handled : handled t ≡ handled s
  pub same : SamePart s.plan t.plan
  pub moved : Heeded s.plan s.updates t.plan t.updates

updated_by : {Op : Type 0} (s t : State Op) (r : Result (Plan × List (Option Target)) Target) → heeded (is_whole s) s.plan s.updates ≡ r → heeded_by s r ≡ Ok t → Updated s t
updated_by {Op} s t (Err target) f e = absurd (cc e)
updated_by {Op} s t (Ok x) f e =
    let u : State Op = record s { plan = x.0; updates = x.1 } in
    let is : u ≡ t = cc e in
    let h = heeded_so (is_whole s) s.plan x.0 s.updates x.1 f in
    record {
      plan = x.0;
      answers = x.1;
      heeds = f;
      is = sym is;
      handled = sym (ap handled is);
      same = subst (λ (v : State Op). SamePart s.plan v.plan) is (took_keeps s.plan x.0 h.0 h.2);
      moved = subst (λ (v : State Op). Heeded s.plan s.updates v.plan v.updates) is h;
    }

pub updated_so : {Op : Type 0} (s t : State Op) → updated s ≡ Ok t → Updated s t
updated_so s t e = updated_by s t (heeded (is_whole s) s.plan s.updates) refl e

rises_answered : {Op : Type 0} (rules : Rules Op) (s t : State Op) (a : Ask) (m : Message Op) → answered rules s a m ≡ Ok t → handled s < handled t
rises_answered {Op} rules s t a (messages.GetOperationsResponse m) e =
    elim (cases_Bool (good (rules.proved a.target) s.plan.target.start a.range m)) [
      | inl ok ↦
          let q = rw ok at e in
          let u = updated_so (with_answer a m s) t q in
          let some = some_ops (rules.proved a.target) s.plan.target.start a.range m ok in
          let k : size_of_pieces (with_answer a m s).kept ≡ size_of_pieces s.kept + length m.operations = sum_by_push (λ (p : Piece Op). length p.ops) s.kept (record { at = a.range.start; ops = m.operations }) in
          let h : handled t ≡ handled (with_answer a m s) = u.handled in
          omega arith
      | inr bad ↦ let q = rw bad at e in absurd (cc q)
    ]
rises_answered rules s t a (messages.GetOperationsRequest m) e = absurd (cc e)
rises_answered rules s t a (messages.GetSyncTargetRequest m) e = absurd (cc e)
rises_answered rules s t a (messages.GetSyncTargetResponse m) e = absurd (cc e)
rises_answered rules s t a (messages.GetCompactTargetRequest m) e = absurd (cc e)
rises_answered rules s t a (messages.GetCompactTargetResponse m) e = absurd (cc e)
rises_answered rules s t a (messages.GetCompactStateRequest m) e = absurd (cc e)
rises_answered rules s t a (messages.GetCompactStateResponse m) e = absurd (cc e)
rises_answered rules s t a (messages.Error m) e = absurd (cc e)

rises_by : {Op : Type 0} (rules : Rules Op) (s t : State Op) (m : Message Op) (o : Option Ask) → taken_by rules s m o ≡ Ok t → handled s < handled t
rises_by rules s t m (Some a) e = rises_answered rules s t a m e
rises_by {Op} rules s t m None e =
    elim (cases_Bool (nat_lt s.strays 1024)) [
      | inl lt ↦
          let q = rw lt at e in
          let n : State Op = record s { strays = s.strays + 1 } in
          let p : n ≡ t = cc q in
          let h : handled n ≡ handled t = ap handled p in
          omega arith
      | inr ge ↦ let q = rw ge at e in absurd (cc q)
    ]

rises_read : {Op : Type 0} (rules : Rules Op) (s t : State Op) (read : Result (Message Op) CodecError) → taken rules s read ≡ Ok t → handled s < handled t
rises_read rules s t (Ok m) e = rises_by rules s t m (ask_under (number_of m) s.pending) e
rises_read rules s t (Err f) e = absurd (cc e)

-- each frame that is taken brings an operation or is counted
pub rises : {Op : Type 0} (rules : Rules Op) (s t : State Op) (body : List ℕ) → take_frame rules s body ≡ Ok t → handled s < handled t
unfolding take_frame
rises rules s t body e = rises_read rules s t (all_of (message_at rules.read) body) e

-- a state is whole exactly where its collector is complete
pub whole_seen : {Op : Type 0} (m : MachineView) (c : Collected Op) (b : Beside) → is_whole (seen m c b) ≡ is_complete c
unfolding is_whole is_complete
whole_seen m c b = refl

-- ---- what the session's steps leave

-- an ask changes neither what is kept nor the strays
pub record SendKeeps {Op : Type 0} (s t : State Op) : Type 0 where
  pub plan : t.plan ≡ s.plan
  pub handled : handled t ≡ handled s
  pub strays : t.strays ≡ s.strays
  pub updates : t.updates ≡ s.updates

numbered_keeps : {Op : Type 0} (s t : State Op) (ask : Ask) (r : Range ℕ) (rests : List (Range ℕ)) (fresh : ℕ) (next : Option ℕ) → numbered s r rests fresh next ≡ Send ask t → SendKeeps s t
numbered_keeps s t ask r rests fresh None e = absurd (cc e)
numbered_keeps {Op} s t ask r rests fresh (Some n) e =
    let u : State Op = record s { next = number_after n; pending = s.pending ++ record { number = n; range = r; target = s.plan.target } ∷ []; rests = rests; fresh = fresh } in
    let p : u ≡ t = cc e in
    subst (SendKeeps s) p (record { plan = refl; handled = refl; strays = refl; updates = refl })

sending_from : {Op : Type 0} (b : Bool) (s t : State Op) (ask : Ask) (o : Option (Range ℕ × List (Range ℕ) × ℕ)) → (if b then sending s o else Nothing) ≡ Send ask t → SendKeeps s t
sending_from false s t ask o e = absurd (cc e)
sending_from true s t ask None e = absurd (cc e)
sending_from true s t ask (Some r) e = numbered_keeps s t ask r.0 r.1 r.2 s.next e

pub sending_keeps : {Op : Type 0} (s t : State Op) (ask : Ask) → ask_next s ≡ Send ask t → SendKeeps s t
unfolding ask_next
sending_keeps s t ask e = sending_from (nat_lt (length s.pending) s.plan.limits.outstanding) s t ask (range_next s.plan s.rests s.fresh) e

-- a frame leaves the start and the limits, and no more strays than are let through, and at most one answer is heeded
abbrev pub TakeKeeps : {Op : Type 0} → State Op → State Op → Type 0
TakeKeeps s t = SamePart s.plan t.plan × (s.strays ≤ 1024 → t.strays ≤ 1024) × Heeded s.plan s.updates t.plan t.updates

same_part : (plan : Plan) → SamePart plan plan
same_part plan = record { start = refl; limits = refl; rises = omega arith }

keeps_answered : {Op : Type 0} (rules : Rules Op) (s t : State Op) (a : Ask) (m : Message Op) → answered rules s a m ≡ Ok t → TakeKeeps s t
keeps_answered {Op} rules s t a (messages.GetOperationsResponse m) e =
    elim (cases_Bool (good (rules.proved a.target) s.plan.target.start a.range m)) [
      | inl ok ↦
          let q = rw ok at e in
          let u = updated_so (with_answer a m s) t q in
          let k : t.strays ≡ s.strays = ap (λ (v : State Op). v.strays) u.is in
          (u.same, (λ h. omega arith), u.moved)
      | inr bad ↦ let q = rw bad at e in absurd (cc q)
    ]
keeps_answered rules s t a (messages.GetOperationsRequest m) e = absurd (cc e)
keeps_answered rules s t a (messages.GetSyncTargetRequest m) e = absurd (cc e)
keeps_answered rules s t a (messages.GetSyncTargetResponse m) e = absurd (cc e)
keeps_answered rules s t a (messages.GetCompactTargetRequest m) e = absurd (cc e)
keeps_answered rules s t a (messages.GetCompactTargetResponse m) e = absurd (cc e)
keeps_answered rules s t a (messages.GetCompactStateRequest m) e = absurd (cc e)
keeps_answered rules s t a (messages.GetCompactStateResponse m) e = absurd (cc e)
keeps_answered rules s t a (messages.Error m) e = absurd (cc e)

keeps_by : {Op : Type 0} (rules : Rules Op) (s t : State Op) (m : Message Op) (o : Option Ask) → taken_by rules s m o ≡ Ok t → TakeKeeps s t
keeps_by rules s t m (Some a) e = keeps_answered rules s t a m e
keeps_by {Op} rules s t m None e =
    elim (cases_Bool (nat_lt s.strays 1024)) [
      | inl lt ↦
          let q = rw lt at e in
          let n : State Op = record s { strays = s.strays + 1 } in
          let p : n ≡ t = cc q in
          let below : s.strays < 1024 = ltb-true s.strays 1024 lt in
          subst (TakeKeeps s) p (same_part s.plan, (λ h. omega arith), ([], refl, refl))
      | inr ge ↦ let q = rw ge at e in absurd (cc q)
    ]

keeps_read : {Op : Type 0} (rules : Rules Op) (s t : State Op) (read : Result (Message Op) CodecError) → taken rules s read ≡ Ok t → TakeKeeps s t
keeps_read rules s t (Ok m) e = keeps_by rules s t m (ask_under (number_of m) s.pending) e
keeps_read rules s t (Err f) e = absurd (cc e)

pub taking_keeps : {Op : Type 0} (rules : Rules Op) (s t : State Op) (body : List ℕ) → take_frame rules s body ≡ Ok t → TakeKeeps s t
unfolding take_frame
taking_keeps rules s t body e = keeps_read rules s t (all_of (message_at rules.read) body) e

-- ---- a stale target

stale_by : {Op : Type 0} (s : State Op) (target : Target) (r : Result (Plan × List (Option Target)) Target) → heeded (is_whole s) s.plan s.updates ≡ r → heeded_by s r ≡ Err (StaleUpdate target) → heeded (is_whole s) s.plan s.updates ≡ Err target
stale_by s target (Ok x) f e = absurd (cc e)
stale_by s target (Err t) f e = let same : t ≡ target = cc e in f ∙ ap (λ (x : Target). let r : Result (Plan × List (Option Target)) Target = Err x in r) same

-- a target was refused as stale, while fewer than 8 were taken
abbrev WasStale : {Op : Type 0} → State Op → Target → Type 0
WasStale s target = (s.plan.taken < 8) × (is_stale s.plan target ≡ true)

other_offence : {Op : Type 0} (number : ℕ) (o : Option ErrorResponse) (target : Target) (s : State Op) → offence_of number o ≡ StaleUpdate target → WasStale s target
other_offence number None target s e = absurd (cc e)
other_offence number (Some refusal) target s e = absurd (cc e)

abbrev offence_in : {Op : Type 0} → Offence → Result (State Op) Offence → Offence
offence_in d (Ok s) = d
offence_in d (Err e) = e

stale_answered : {Op : Type 0} (rules : Rules Op) (s : State Op) (a : Ask) (m : Message Op) (target : Target) → answered rules s a m ≡ Err (StaleUpdate target) → WasStale s target
stale_answered rules s a (messages.GetOperationsResponse m) target e =
    elim (cases_Bool (good (rules.proved a.target) s.plan.target.start a.range m)) [
      | inl ok ↦
          let q = rw ok at e in
          let h = stale_by (with_answer a m s) target (heeded (is_whole (with_answer a m s)) s.plan s.updates) refl q in
          let r = refused_so (is_whole (with_answer a m s)) s.plan s.updates target h in
          (r.3, r.2)
      | inr bad ↦ let q = rw bad at e in absurd (cc q)
    ]
stale_answered {Op} rules s a (messages.GetOperationsRequest m) target e = other_offence a.number (refusal_in {Op = Op} (messages.GetOperationsRequest m)) target s (ap (offence_in TooManyStrays) e)
stale_answered {Op} rules s a (messages.GetSyncTargetRequest m) target e = other_offence a.number (refusal_in {Op = Op} (messages.GetSyncTargetRequest m)) target s (ap (offence_in TooManyStrays) e)
stale_answered {Op} rules s a (messages.GetSyncTargetResponse m) target e = other_offence a.number (refusal_in {Op = Op} (messages.GetSyncTargetResponse m)) target s (ap (offence_in TooManyStrays) e)
stale_answered {Op} rules s a (messages.GetCompactTargetRequest m) target e = other_offence a.number (refusal_in {Op = Op} (messages.GetCompactTargetRequest m)) target s (ap (offence_in TooManyStrays) e)
stale_answered {Op} rules s a (messages.GetCompactTargetResponse m) target e = other_offence a.number (refusal_in {Op = Op} (messages.GetCompactTargetResponse m)) target s (ap (offence_in TooManyStrays) e)
stale_answered {Op} rules s a (messages.GetCompactStateRequest m) target e = other_offence a.number (refusal_in {Op = Op} (messages.GetCompactStateRequest m)) target s (ap (offence_in TooManyStrays) e)
stale_answered {Op} rules s a (messages.GetCompactStateResponse m) target e = other_offence a.number (refusal_in {Op = Op} (messages.GetCompactStateResponse m)) target s (ap (offence_in TooManyStrays) e)
stale_answered {Op} rules s a (messages.Error m) target e = other_offence a.number (refusal_in {Op = Op} (messages.Error m)) target s (ap (offence_in TooManyStrays) e)

stale_from : {Op : Type 0} (rules : Rules Op) (s : State Op) (m : Message Op) (target : Target) (o : Option Ask) → taken_by rules s m o ≡ Err (StaleUpdate target) → WasStale s target
stale_from rules s m target (Some a) e = stale_answered rules s a m target e
stale_from rules s m target None e = elim (cases_Bool (nat_lt s.strays 1024)) [ inl lt ↦ let q = rw lt at e in absurd (cc q) | inr ge ↦ let q = rw ge at e in absurd (cc q) ]

stale_read : {Op : Type 0} (rules : Rules Op) (s : State Op) (target : Target) (read : Result (Message Op) CodecError) → taken rules s read ≡ Err (StaleUpdate target) → WasStale s target
stale_read rules s target (Ok m) e = stale_from rules s m target (ask_under (number_of m) s.pending) e
stale_read rules s target (Err f) e = absurd (cc e)

pub stale_so : {Op : Type 0} (rules : Rules Op) (s : State Op) (body : List ℕ) (target : Target) → take_frame rules s body ≡ Err (StaleUpdate target) → (s.plan.taken < 8) × (is_stale s.plan target ≡ true)
unfolding take_frame
stale_so rules s body target e = stale_read rules s target (all_of (message_at rules.read) body) e

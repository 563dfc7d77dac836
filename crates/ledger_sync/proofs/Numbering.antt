-- The numbers of a session whose first number is small don't come to their end.
use Rattle.std.proofs.Common.{◌≡◌, ℕ, suc, ◌+◌, ◌-◌, ◌<◌, ◌≤◌, ◌^◌, Bool, List, [], ◌∷◌, ◌++◌, length, take, drop, Option, Some, None, Result, Ok, Err, nat_lt, if◌then◌else◌, remove, refl, sym, ap, subst, ◌∙◌, arith, inl, inr}
use Rattle.std.specs.declared.ops.Range.{Range}
use Rattle.std.proofs.lemmas.Bool.{cases_Bool, ltb-true, lt-ltb}
use Rattle.std.proofs.lemmas.List.{length-take, length-drop, length-append}
use Rattle.ledger_codec.specs.declared.fault.CodecError.{CodecError}
use Rattle.ledger_codec.specs.Sequences.{all_of}
use Rattle.sync_net.specs.Asking.{number_after}
use Rattle.sync_net.specs.Messages.{message_at}
use Rattle.sync_net.specs.Numbered.{number_of}
use Rattle.sync_net.specs.declared.message.Message.{Message}
use Rattle.sync_net.specs.declared.message.Message.TheVariants as messages
use Rattle.ledger_log.specs.declared.target.Target.{Target}
use Rattle.sync_client.specs.Asking.{LimitsView, Plan, range_next, without_at, good}
use Rattle.sync_client.specs.Session.{Ask, State, Rules, Send, Exhausted, ask_next, numbered, sending, started, with_answer, answered, taken_by, taken, take_frame, ask_under, place_of}
use Rattle.sync_client.specs.Runs.{Sends, Reaches, Exhausts}
use Rattle.sync_client.specs.Ending.{Origin, Over}
use Rattle.sync_net.specs.Wire.{Wire}
use Rattle.sync_client.proofs.Rising.{updated_so}

-- ---- one ask

-- an ask was sent: under the next number, and one more is pending
record Sent {Op : Type 0} (s u : State Op) : Type 0 where
  number : ℕ
  first : s.next ≡ Some number
  follows : u.next ≡ number_after number
  more : length u.pending ≡ length s.pending + 1
  plan : u.plan ≡ s.plan
  room : length s.pending < s.plan.limits.outstanding

-- the same but for the room
abbrev Counted : {Op : Type 0} → State Op → State Op → Type 0
Counted s u = (number : ℕ) × (s.next ≡ Some number) × (u.next ≡ number_after number) × (length u.pending ≡ length s.pending + 1) × (u.plan ≡ s.plan)

counted : {Op : Type 0} (s u : State Op) (a : Ask) (r : Range ℕ) (rests : List (Range ℕ)) (fresh : ℕ) (o : Option ℕ) → s.next ≡ o → numbered s r rests fresh o ≡ Send a u → Counted s u
counted s u a r rests fresh None first e = absurd (cc e)
counted {Op} s u a r rests fresh (Some k) first e =
    let ask : Ask = record { number = k; range = r; target = s.plan.target } in
    let t : State Op = record s { next = number_after k; pending = s.pending ++ ask ∷ []; rests = rests; fresh = fresh } in
    let p : t ≡ u = cc e in
    (k, first, sym (ap (λ (v : State Op). v.next) p), sym (ap (λ (v : State Op). length v.pending) p) ∙ length-append s.pending (ask ∷ []), sym (ap (λ (v : State Op). v.plan) p))

counted_next : {Op : Type 0} (s u : State Op) (a : Ask) (o : Option (Range ℕ × List (Range ℕ) × ℕ)) → sending s o ≡ Send a u → Counted s u
counted_next s u a None e = absurd (cc e)
counted_next s u a (Some x) e = counted s u a x.0 x.1 x.2 s.next refl e

sent : {Op : Type 0} (s u : State Op) (a : Ask) → ask_next s ≡ Send a u → Sent s u
unfolding ask_next
sent s u a e =
    elim (cases_Bool (nat_lt (length s.pending) s.plan.limits.outstanding)) [
      | inl lt ↦
          let q = rw lt at e in
          let c = counted_next s u a (range_next s.plan s.rests s.fresh) q in
          record { number = c.0; first = c.1; follows = c.2; more = c.3; plan = c.4; room = ltb-true (length s.pending) s.plan.limits.outstanding lt }
      | inr ge ↦ let q = rw ge at e in absurd (cc q)
    ]

-- where there is no number for an ask, there is no next number
numberless : {Op : Type 0} (s : State Op) (r : Range ℕ) (rests : List (Range ℕ)) (fresh : ℕ) (o : Option ℕ) → s.next ≡ o → numbered s r rests fresh o ≡ Exhausted → s.next ≡ None
numberless s r rests fresh None first e = first
numberless s r rests fresh (Some k) first e = absurd (cc e)

numberless_next : {Op : Type 0} (s : State Op) (o : Option (Range ℕ × List (Range ℕ) × ℕ)) → sending s o ≡ Exhausted → s.next ≡ None
numberless_next s None e = absurd (cc e)
numberless_next s (Some x) e = numberless s x.0 x.1 x.2 s.next refl e

exhausted : {Op : Type 0} (s : State Op) → ask_next s ≡ Exhausted → s.next ≡ None
unfolding ask_next
exhausted s e =
    elim (cases_Bool (nat_lt (length s.pending) s.plan.limits.outstanding)) [
      | inl lt ↦ let q = rw lt at e in numberless_next s (range_next s.plan s.rests s.fresh) q
      | inr ge ↦ let q = rw ge at e in absurd (cc q)
    ]

-- ---- one frame

-- a frame was taken: at most one ask is pending no more, and the next number stays
record Took {Op : Type 0} (u v : State Op) : Type 0 where
  next : v.next ≡ u.next
  limits : v.plan.limits ≡ u.plan.limits
  most : length u.pending ≤ length v.pending + 1
  least : length v.pending ≤ length u.pending

removed : {X : Type 0} (xs : List X) (i : ℕ) → (length xs ≤ length (remove xs i) + 1) × (length (remove xs i) ≤ length xs)
removed xs i = let a = length-take i xs in let b = length-drop (suc i) xs in let c = length-append (take i xs) (drop (suc i) xs) in (omega arith, omega arith)

without : {X : Type 0} (o : Option ℕ) (xs : List X) → (length xs ≤ length (without_at o xs) + 1) × (length (without_at o xs) ≤ length xs)
without None xs = (omega arith, omega arith)
without (Some i) xs = removed xs i

took_answer : {Op : Type 0} (rules : Rules Op) (u v : State Op) (a : Ask) (m : Message Op) → answered rules u a m ≡ Ok v → Took u v
took_answer {Op} rules u v a (messages.GetOperationsResponse m) e =
    elim (cases_Bool (good (rules.proved a.target) u.plan.target.start a.range m)) [
      | inl ok ↦
          let q = rw ok at e in
          let p = updated_so (with_answer a m u) v q in
          let w = without (place_of a.number u.pending) u.pending in
          let n : length v.pending ≡ length (with_answer a m u).pending = ap (λ (s : State Op). length s.pending) p.is in
          record { next = ap (λ (s : State Op). s.next) p.is; limits = p.same.limits; most = (let z = w.0 in omega arith); least = (let z = w.1 in omega arith) }
      | inr bad ↦ let q = rw bad at e in absurd (cc q)
    ]
took_answer rules u v a (messages.GetOperationsRequest m) e = absurd (cc e)
took_answer rules u v a (messages.GetSyncTargetRequest m) e = absurd (cc e)
took_answer rules u v a (messages.GetSyncTargetResponse m) e = absurd (cc e)
took_answer rules u v a (messages.GetCompactTargetRequest m) e = absurd (cc e)
took_answer rules u v a (messages.GetCompactTargetResponse m) e = absurd (cc e)
took_answer rules u v a (messages.GetCompactStateRequest m) e = absurd (cc e)
took_answer rules u v a (messages.GetCompactStateResponse m) e = absurd (cc e)
took_answer rules u v a (messages.Error m) e = absurd (cc e)

took_by : {Op : Type 0} (rules : Rules Op) (u v : State Op) (m : Message Op) (o : Option Ask) → taken_by rules u m o ≡ Ok v → Took u v
took_by rules u v m (Some a) e = took_answer rules u v a m e
took_by {Op} rules u v m None e =
    elim (cases_Bool (nat_lt u.strays 1024)) [
      | inl lt ↦
          let q = rw lt at e in
          let n : State Op = record u { strays = u.strays + 1 } in
          let p : n ≡ v = cc q in
          let k : length n.pending ≡ length v.pending = ap (λ (s : State Op). length s.pending) p in
          record { next = sym (ap (λ (s : State Op). s.next) p); limits = sym (ap (λ (s : State Op). s.plan.limits) p); most = omega arith; least = omega arith }
      | inr ge ↦ let q = rw ge at e in absurd (cc q)
    ]

took_read : {Op : Type 0} (rules : Rules Op) (u v : State Op) (read : Result (Message Op) CodecError) → taken rules u read ≡ Ok v → Took u v
took_read rules u v (Ok m) e = took_by rules u v m (ask_under (number_of m) u.pending) e
took_read rules u v (Err f) e = absurd (cc e)

took : {Op : Type 0} (rules : Rules Op) (u v : State Op) (body : List ℕ) → take_frame rules u body ≡ Ok v → Took u v
unfolding take_frame
took rules u v body e = took_read rules u v (all_of (message_at rules.read) body) e

-- ---- a run

-- what a run from s to t with so many frames and asks leaves
record Run {Op : Type 0} (s t : State Op) (frames asks : ℕ) : Type 0 where
  limits : t.plan.limits ≡ s.plan.limits
  few : length s.pending + asks ≤ length t.pending + frames
  bound : length s.pending ≤ s.plan.limits.outstanding → length t.pending ≤ s.plan.limits.outstanding
  next : (n : ℕ) → s.next ≡ Some n → n + asks < 2 ^ 64 → t.next ≡ Some (n + asks)

stays : {Op : Type 0} (s : State Op) → Run s s 0 0
stays s = record { limits = refl; few = omega arith; bound = λ h. h; next = λ n e lt. e ∙ ap Some (omega arith) }

number_on : (n : ℕ) → n < 2 ^ 64 - 1 → number_after n ≡ Some (n + 1)
number_on n lt = ap (λ (b : Bool). if b then Some (n + 1) else None) (lt-ltb n (2 ^ 64 - 1) lt)

-- an ask and then a run
sent_then : {Op : Type 0} (s u t : State Op) (frames asks : ℕ) → Sent s u → Run u t frames asks → Run s t frames (suc asks)
sent_then {Op} s u t frames asks a r =
    let limit : u.plan.limits.outstanding ≡ s.plan.limits.outstanding = ap (λ (p : Plan). p.limits.outstanding) a.plan in
    record {
      limits = r.limits ∙ ap (λ (p : Plan). p.limits) a.plan;
      few = (let x = r.few in let y = a.more in omega arith);
      bound = λ (h : length s.pending ≤ s.plan.limits.outstanding).
          (let y = a.more in let z = a.room in let w : length t.pending ≤ u.plan.limits.outstanding = r.bound (omega arith) in omega arith);
      next = λ (n : ℕ) (e : s.next ≡ Some n) (lt : n + suc asks < 2 ^ 64).
          (let k : a.number ≡ n = cc (sym a.first ∙ e) in
          let one : u.next ≡ Some (n + 1) = a.follows ∙ (ap number_after k ∙ number_on n (omega arith)) in
          r.next (n + 1) one (omega arith) ∙ ap Some (omega arith));
    }

sends : {Op : Type 0} (s t : State Op) (asks : List Ask) → Sends s asks t → Run s t 0 (length asks)
sends {Op} s t [] e = subst (λ (v : State Op). Run s v 0 0) e (stays s)
sends s t (ask ∷ asks) h = sent_then s h.0 t 0 (length asks) (sent s h.0 ask h.1) (sends h.0 t asks h.2)

-- a run, a frame, and a run
took_then : {Op : Type 0} (s u v t : State Op) (frames now later : ℕ) → Run s u 0 now → Took u v → Run v t frames later → Run s t (suc frames) (now + later)
took_then {Op} s u v t frames now later a k r =
    let same : v.plan.limits ≡ s.plan.limits = k.limits ∙ a.limits in
    let limit : v.plan.limits.outstanding ≡ s.plan.limits.outstanding = ap (λ (l : LimitsView). l.outstanding) same in
    record {
      limits = r.limits ∙ same;
      few = (let x = a.few in let y = r.few in let z = k.most in omega arith);
      bound = λ (h : length s.pending ≤ s.plan.limits.outstanding).
          (let x = a.bound h in let y = k.least in let w : length t.pending ≤ v.plan.limits.outstanding = r.bound (omega arith) in omega arith);
      next = λ (n : ℕ) (e : s.next ≡ Some n) (lt : n + (now + later) < 2 ^ 64).
          (let one : v.next ≡ Some (n + now) = k.next ∙ a.next n e (omega arith) in
          r.next (n + now) one (omega arith) ∙ ap Some (omega arith));
    }

reaches : {Op : Type 0} (rules : Rules Op) (s t : State Op) (bodies : List (List ℕ)) (asks : List Ask) → Reaches rules s bodies asks t → Run s t (length bodies) (length asks)
reaches rules s t [] asks h = sends s t asks h
reaches rules s t (body ∷ bodies) asks h =
    let u = h.0 in
    let v = h.1 in
    let now = h.2 in
    let later = h.3 in
    let r = took_then s u v t (length bodies) (length now) (length later) (sends s u now h.4) (took rules u v body h.7) (reaches rules v t bodies later h.9) in
    subst (λ n. Run s t (suc (length bodies)) n) (sym (ap length h.8 ∙ length-append now later)) r

-- a session whose first number is small has a number for each ask
pub numbers_last_from : {Op : Type 0} (first : ℕ) (o : Origin Op) (updates before : List (Option Target)) (wire : Option Wire) (plan : Plan) → first ≤ 2 ^ 62 → o.start ≡ started plan (Some first) before → plan.limits.outstanding ≤ 64 → Over o updates wire Exhausts → ⊥
numbers_last_from {Op} first o updates before wire plan small begun few over =
    let e = over.session in
    let r = reaches o.rules o.start e.last e.bodies over.asks e.reached in
    let from : o.start.next ≡ Some first = ap (λ (s : State Op). s.next) begun in
    let none : length o.start.pending ≡ 0 = ap (λ (s : State Op). length s.pending) begun in
    let limit : o.start.plan.limits.outstanding ≡ plan.limits.outstanding = ap (λ (s : State Op). s.plan.limits.outstanding) begun in
    let frames = over.few in
    let near = over.near in
    let counted = r.few in
    let bound = r.bound (omega arith) in
    let next : e.last.next ≡ Some (first + length over.asks) = r.next first from (omega arith) in
    let gone : e.last.next ≡ None = exhausted e.last e.ends in
    absurd (cc (sym next ∙ gone))

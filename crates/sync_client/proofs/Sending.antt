-- The collector's next range under the machine's next number is the session's next ask.
use Rattle.std.proofs.Common.{◌≡◌, ℕ, ◌+◌, ◌-◌, ◌<◌, Bool, true, false, List, [], ◌∷◌, ◌++◌, length, Option, Some, None, nat_lt, zero, suc, ◌==◌, if◌then◌else◌, refl, sym, ap, subst, ◌∙◌, arith, length-append}
use Rattle.std.specs.declared.ops.Range.{Range}
use Rattle.std.proofs.lemmas.Bool.{ltb-true}
use Rattle.std.proofs.lemmas.List.{map-append}
use Rattle.std.proofs.lemmas.List.Elements.{All-push}
use Rattle.std.specs.declared.num.NonZeroU64.{NonZeroU64}
use denote.Struct.Props.{props}
use Rattle.sync_net.specs.declared.ask.Ask.{Ask as Request}
use Rattle.sync_net.specs.declared.ask.Ask.TheVariants as requests
use Rattle.sync_net.specs.declared.ask.Pending.{Pending}
use Rattle.sync_net.specs.Fields.{above_zero}
use Rattle.sync_net.specs.Asks.{is_operations}
use Rattle.sync_net.specs.Asking.{number_after, ask_frame}
use Rattle.sync_net.specs.View.{MachineView}
use Rattle.ledger_log.specs.declared.target.Target.{Target}
use Rattle.sync_client.specs.Asking.{range_next}
use Rattle.sync_client.specs.Collected.{Collected, ranges_of, ask_next as range_asked, asked}
use Rattle.sync_client.specs.Session.{Ask, State, Next, Nothing, Send, Exhausted, ask_next, numbered, sending, at_least_one, request_for, frame_of}
use Rattle.sync_client.specs.Seen.{Beside, beside, seen, ask_of, asks_of, range_of, IsForOperations, Paired}
use Rattle.sync_client.specs.declared.asked.Asked.{Asked}
use Rattle.sync_client.proofs.Pairs.{asks_length, asks_push, same_lengths}
use Rattle.sync_client.specs.Steps.{OneMore, Made}

none_from : {Op : Type 0} (b : Bool) (o : Option (Range ℕ × List (Range ℕ) × ℕ)) (c : Collected Op) (s : State Op) → (if b then asked c o else None) ≡ None → (if b then sending s o else Nothing) ≡ Nothing
none_from false o c s e = refl
none_from true None c s e = refl
none_from true (Some x) c s e = absurd (cc e)

pub record Chosen {Op : Type 0} (b : Bool) (o : Option (Range ℕ × List (Range ℕ) × ℕ)) (c : Collected Op) (range : Range ℕ) (after : Collected Op) : Type 0 where
  pub x : Range ℕ × List (Range ℕ) × ℕ
  pub room : b ≡ true
  pub is : o ≡ Some x
  pub first : x.0 ≡ range
  pub left : record c { fresh = x.2; rests = x.1; pending = c.pending ++ record { range = x.0; target = c.plan.target } ∷ [] } ≡ after

chosen : {Op : Type 0} (b : Bool) (o : Option (Range ℕ × List (Range ℕ) × ℕ)) (c : Collected Op) (r : Range ℕ) (d : Collected Op) → (if b then asked c o else None) ≡ Some (r, d) → Chosen b o c r d
chosen false o c r d e = absurd (cc e)
chosen true None c r d e = absurd (cc e)
chosen {Op} true (Some x) c r d e =
    let w : Collected Op = record c { fresh = x.2; rests = x.1; pending = c.pending ++ record { range = x.0; target = c.plan.target } ∷ [] } in
    let t : (Range ℕ × Collected Op) = (x.0, w) in
    let u : (Range ℕ × Collected Op) = (r, d) in
    let p : t ≡ u = cc e in
    record { x = x; room = refl; is = refl; first = ap (λ (z : Range ℕ × Collected Op). z.0) p; left = ap (λ (z : Range ℕ × Collected Op). z.1) p }

same_length : {Op : Type 0} (m : MachineView) (c : Collected Op) → Paired m c → length (asks_of m.pending c.pending) ≡ length c.pending
same_length m c pair = asks_length m.pending c.pending (same_lengths m c pair)

pub nothing_asked : {Op : Type 0} (m : MachineView) (c : Collected Op) (b : Beside) → Paired m c → range_asked c ≡ None → ask_next (seen m c b) ≡ Nothing
unfolding ask_next range_asked
nothing_asked m c b pair e =
    ap (λ (n : ℕ). if nat_lt n c.plan.limits.outstanding then sending (seen m c b) (range_next c.plan c.rests c.fresh) else Nothing) (same_length m c pair)
    ∙ none_from (nat_lt (length c.pending) c.plan.limits.outstanding) (range_next c.plan c.rests c.fresh) c (seen m c b) e

sent_from : {Op : Type 0} (m : MachineView) (c : Collected Op) (b : Beside) (r : Range ℕ) (d : Collected Op) → Paired m c → range_asked c ≡ Some (r, d) → Chosen (nat_lt (length c.pending) c.plan.limits.outstanding) (range_next c.plan c.rests c.fresh) c r d
unfolding range_asked
sent_from m c b r d pair e = chosen (nat_lt (length c.pending) c.plan.limits.outstanding) (range_next c.plan c.rests c.fresh) c r d e

sending_is : {Op : Type 0} (m : MachineView) (c : Collected Op) (b : Beside) (r : Range ℕ) (d : Collected Op) (h : Chosen (nat_lt (length c.pending) c.plan.limits.outstanding) (range_next c.plan c.rests c.fresh) c r d) → Paired m c → ask_next (seen m c b) ≡ sending (seen m c b) (Some h.x)
unfolding ask_next
sending_is m c b r d h pair =
    ap (λ (n : ℕ). if nat_lt n c.plan.limits.outstanding then sending (seen m c b) (range_next c.plan c.rests c.fresh) else Nothing) (same_length m c pair)
    ∙ (ap (λ (t : Bool). if t then sending (seen m c b) (range_next c.plan c.rests c.fresh) else Nothing) h.room
    ∙ ap (sending (seen m c b)) h.is)

pub no_number : {Op : Type 0} (m : MachineView) (c : Collected Op) (b : Beside) (r : Range ℕ) (d : Collected Op) → Paired m c → range_asked c ≡ Some (r, d) → m.next ≡ None → ask_next (seen m c b) ≡ Exhausted
no_number m c b r d pair e none =
    let h = sent_from m c b r d pair e in
    sending_is m c b r d h pair ∙ ap (numbered (seen m c b) h.x.0 h.x.1 h.x.2) none

pub sent : {Op : Type 0} (m : MachineView) (c : Collected Op) (b : Beside) (n : ℕ) (r : Range ℕ) (d : Collected Op) (a : Request) → Paired m c → range_asked c ≡ Some (r, d) → m.next ≡ Some n → range_of a ≡ r → is_operations a ≡ true
    → (ask_next (seen m c b) ≡ Send (record { number = n; range = r; target = c.plan.target }) (seen (record m { next = number_after n; pending = m.pending ++ record { number = n; ask = a } ∷ [] }) d b))
    × Paired (record m { next = number_after n; pending = m.pending ++ record { number = n; ask = a } ∷ [] }) d
sent {Op} m c b n r d a pair e some same kind =
    let h = sent_from m c b r d pair e in
    let p : Pending = record { number = n; ask = a } in
    let x = h.x in
    let s : State Op = seen m c b in
    let target : Target = c.plan.target in
    let more : Asked = record { range = x.0; target = c.plan.target } in
    let one : ask_next s ≡ Send (record { number = n; range = x.0; target = target }) (record s { next = number_after n; pending = s.pending ++ record { number = n; range = x.0; target = target } ∷ []; rests = x.1; fresh = x.2 }) = sending_is m c b r d h pair ∙ ap (numbered s x.0 x.1 x.2) some in
    let here : x.0 ≡ range_of a = h.first ∙ sym same in
    let asks : asks_of (m.pending ++ p ∷ []) (c.pending ++ more ∷ []) ≡ asks_of m.pending c.pending ++ ask_of p more ∷ [] = asks_push m.pending c.pending p more (same_lengths m c pair) in
    let after : MachineView = record m { next = number_after n; pending = m.pending ++ p ∷ [] } in
    let w : Collected Op = record c { fresh = x.2; rests = x.1; pending = c.pending ++ more ∷ [] } in
    let two = ap (λ (left : List Ask). let z : Next Op = Send (record { number = n; range = x.0; target = target }) (record s { next = number_after n; pending = left; rests = x.1; fresh = x.2 }) in z) (sym asks) in
    let three = ap (λ (v : Collected Op). let z : Next Op = Send (record { number = n; range = x.0; target = target }) (seen after v b) in z) h.left in
    let four = ap (λ (q : Range ℕ). let z : Next Op = Send (record { number = n; range = q; target = target }) (seen after d b) in z) h.first in (
      one ∙ (two ∙ (three ∙ four)),
      record {
        ranges = sym (ap (λ (v : Collected Op). ranges_of v.pending) h.left)
            ∙ (map-append (λ (z : Asked). z.range) c.pending (more ∷ [])
            ∙ (ap (λ (q : Range ℕ). ranges_of c.pending ++ q ∷ []) here
            ∙ (ap (λ (l : List (Range ℕ)). l ++ range_of a ∷ []) pair.ranges
            ∙ sym (map-append (λ (z : Pending). range_of z.ask) m.pending (p ∷ [])))));
        operations = All-push IsForOperations m.pending p pair.operations kind;
      },
    )

-- ---- requests

counted : (n v : ℕ) (ok : 0 < v) → v ≡ n → 0 < n → at_least_one n ≡ record { value = v; ok = ok }
counted n zero ok e some = absurd (omega arith)
counted n (suc v) ok e some =
    let p : IsProp (0 < suc v) = hlevel props in
    ap at_least_one (sym e) ∙ ap (λ (k : 0 < suc v). let x : NonZeroU64 = record { value = suc v; ok = k } in x) (p (above_zero v) ok)

-- the request that is made for a range
pub request_is : (target : Target) (r : Range ℕ) (count : NonZeroU64) → r.start < r.end → count.value ≡ r.end - r.start → requests.Operations target.end r.start count (r.start == target.start) ≡ request_for target r
request_is target r count some e =
    ap (λ (n : NonZeroU64). requests.Operations target.end r.start n (r.start == target.start)) (sym (counted (r.end - r.start) count.value count.ok e (omega arith)))

-- and its range
pub range_is : (end : ℕ) (r : Range ℕ) (count : NonZeroU64) (pinned : Bool) → r.start < r.end → count.value ≡ r.end - r.start → range_of (requests.Operations end r.start count pinned) ≡ r
range_is end r count pinned some e =
    let n : r.start + count.value ≡ r.end = omega arith in
    ap (λ (k : ℕ). let q : Range ℕ = record { start = r.start; end = k } in q) n

-- the bytes of the frame that is sent
pub frame_is : {Op : Type 0} (written : Op → List ℕ) (target : Target) (n : ℕ) (r : Range ℕ) (count : NonZeroU64) → r.start < r.end → count.value ≡ r.end - r.start
    → ask_frame written n (requests.Operations target.end r.start count (r.start == target.start)) ≡ frame_of written (record { number = n; range = r; target = target })
frame_is written target n r count some e = ap (ask_frame written n) (request_is target r count some e)

-- ---- what the next range leaves

-- the plan and what is kept stay
pub asking_keeps : {Op : Type 0} (c d : Collected Op) (r : Range ℕ) → range_asked c ≡ Some (r, d) → (d.plan ≡ c.plan) × (d.kept ≡ c.kept)
unfolding range_asked
asking_keeps c d r e =
    let h = chosen (nat_lt (length c.pending) c.plan.limits.outstanding) (range_next c.plan c.rests c.fresh) c r d e in
    (sym (ap (λ (v : Collected _). v.plan) h.left), sym (ap (λ (v : Collected _). v.kept) h.left))

-- there was room, and one range more is pending
pub one_more : {Op : Type 0} (c d : Collected Op) (r : Range ℕ) → range_asked c ≡ Some (r, d) → OneMore c d
unfolding range_asked
one_more c d r e =
    let h = chosen (nat_lt (length c.pending) c.plan.limits.outstanding) (range_next c.plan c.rests c.fresh) c r d e in
    let more : length d.pending ≡ length c.pending + 1 = sym (ap (λ (v : Collected _). length v.pending) h.left) ∙ length-append c.pending (record { range = h.x.0; target = c.plan.target } ∷ []) in
    record { room = ltb-true (length c.pending) c.plan.limits.outstanding h.room; more = more }

-- the ask that was made
pub made : {Op : Type 0} (written : Op → List ℕ) (target : Target) (m n : MachineView) (c d : Collected Op) (r : Range ℕ) (count : NonZeroU64) (a b number : ℕ) (frame : List ℕ)
    → a ≡ r.start → b ≡ target.start → target ≡ c.plan.target → Paired m c → range_asked c ≡ Some (r, d) → r.start < r.end → count.value ≡ r.end - r.start → m.closed ≡ false → m.next ≡ Some number
    → frame ≡ ask_frame written number (requests.Operations target.end r.start count (a == b))
    → n ≡ record m { next = number_after number; pending = m.pending ++ record { number = number; ask = requests.Operations target.end r.start count (a == b) } ∷ [] }
    → Made frame written m n c d
made {Op} written target m n c d r count a b number frame ea eb same pair e some size live next f now =
    let test : (a == b) ≡ (r.start == target.start) = ap (λ (x : ℕ). x == b) ea ∙ ap (λ (x : ℕ). r.start == x) eb in
    let request : Request = requests.Operations target.end r.start count (a == b) in
    let w : MachineView = record m { next = number_after number; pending = m.pending ++ record { number = number; ask = request } ∷ [] } in
    let k = λ (v : Beside). sent m c v number r d request pair e next (range_is target.end r count (a == b) some size) refl in
    let ask : Ask = record { number = number; range = r; target = c.plan.target } in
    let bytes : frame ≡ frame_of written ask =
    f ∙ (ap (λ (x : Bool). ask_frame written number (requests.Operations target.end r.start count x)) test
    ∙ (frame_is written target number r count some size ∙ ap (λ (t : Target). let z : Ask = record { number = number; range = r; target = t } in frame_of written z) same)) in
    let whole : Made frame written m w c d = (ask, bytes, (λ v. (k v).0), (k (beside 0 [])).1, live, live, refl, one_more c d r e) in
    subst (λ (x : MachineView). Made frame written m x c d) (sym now) whole

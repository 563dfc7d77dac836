-- Over a link that serves, an ask is owed its reply, and the reply is taken as a good answer.
use Rattle.std.proofs.Common.{◌≡◌, ℕ, zero, suc, ◌+◌, ◌-◌, ◌^◌, ◌<◌, ◌≤◌, Bool, true, false, if◌then◌else◌, nat_lt, eqb, List, [], ◌∷◌, ◌++◌, length, take, drop, All, Option, Some, None, Ok, refl, sym, ap, subst, ◌∙◌, arith}
use Rattle.std.specs.Prelude.{◌==◌, map, slice_get, remove, option_map}
use Rattle.std.specs.List.{position_or_len}
use Rattle.std.specs.declared.ops.Range.{Range}
use Rattle.std.proofs.lemmas.Bool.{eq-eqb, ltb-true, lt-ltb}
use Rattle.std.proofs.lemmas.Bool.Decides.{nat_tests}
use Rattle.std.proofs.lemmas.List.{map-append, take-map, drop-map}
use Rattle.std.proofs.lemmas.List.Elements.{All-head, All-tail, All-nil, All-append, All-take, All-drop, All-push, All-weaker}
use Rattle.ledger_codec.specs.Parsing.{Parsed}
use Rattle.ledger_log.specs.View.{LogView}
use Rattle.ledger_log.specs.declared.target.Target.{Target}
use Rattle.sync_net.specs.Asking.{number_after}
use Rattle.sync_net.specs.Core.{LogData, Request, asked, reply_frame, reply_to}
use Rattle.sync_net.specs.Service.{Service, service_sent, owes}
use Rattle.sync_client.specs.Asking.{batch_end, range_next}
use Rattle.sync_client.specs.Session.{Ask, State, Nothing, Send, numbered, sending, ask_next, request_for, frame_of, place_of}
use Rattle.sync_client.specs.Serving.{Serves, HasTarget}
use Rattle.sync_client.specs.Owing.{AreSent, IsWithin, Rises, AreDrawn, IsOwnAsk, Follows, owed_to, awaited, IsOwed}
use Rattle.sync_client.proofs.ServedAnswers.{ask_is_read}

-- ---- lists

pub map-remove : {X Y : Type 0} (f : X → Y) (xs : List X) (i : ℕ) → map f (remove xs i) ≡ remove (map f xs) i
map-remove {X} {Y} f xs i =
    map-append f (take i xs) (drop (suc i) xs)
    ∙ (ap (λ (l : List Y). l ++ map f (drop (suc i) xs)) (sym (take-map f i xs))
    ∙ ap (λ (l : List Y). take i (map f xs) ++ l) (sym (drop-map f (suc i) xs)))

pub All-at : {X : Type 0} (P : X → Type 0) (xs : List X) (i : ℕ) (x : X) → All P xs → slice_get xs i ≡ Some x → P x
All-at P [] i x h e = absurd (cc e)
All-at P (y ∷ ys) zero x h e = let same : y ≡ x = cc e in subst P same (All-head P y ys h)
All-at P (y ∷ ys) (suc i) x h e = All-at P ys i x (All-tail P y ys h) e

pub All-without : {X : Type 0} (P : X → Type 0) (xs : List X) (i : ℕ) → All P xs → All P (remove xs i)
All-without P xs i h = All-append P (take i xs) (drop (suc i) xs) (All-take P i xs h) (All-drop P (suc i) xs h)

-- ---- rising numbers

Rises-from : (low less : ℕ) (others : List Ask) → less ≤ low → Rises low others → Rises less others
Rises-from low less [] le h = tt
Rises-from low less (a ∷ others) le h = (let k = h.0 in omega arith, h.1)

pub Rises-remove : (low : ℕ) (others : List Ask) (i : ℕ) → Rises low others → Rises low (remove others i)
Rises-remove low [] zero h = tt
Rises-remove low [] (suc i) h = tt
Rises-remove low (a ∷ others) zero h = Rises-from (a.number + 1) low others (let k = h.0 in omega arith) h.1
Rises-remove low (a ∷ others) (suc i) h = (h.0, Rises-remove (a.number + 1) others i h.1)

Rises-push : (low : ℕ) (others : List Ask) (a : Ask) → Rises low others → All (λ (b : Ask). b.number < a.number) others → low ≤ a.number → Rises low (others ++ a ∷ [])
Rises-push low [] a h all le = (le, tt)
Rises-push low (b ∷ bs) a h all le = (h.0, Rises-push (b.number + 1) bs a h.1 (All-tail (λ (c : Ask). c.number < a.number) b bs all) (let k = All-head (λ (c : Ask). c.number < a.number) b bs all in omega arith))

-- the ask at a place is the first of its number
rises_to : (low : ℕ) (others : List Ask) (i : ℕ) (a : Ask) → Rises low others → slice_get others i ≡ Some a → (low ≤ a.number) × (i < length others) × (position_or_len (λ (b : Ask). b.number == a.number) others ≡ i)
rises_to low [] i a h e = absurd (cc e)
rises_to low (b ∷ bs) zero a h e =
    let same : b ≡ a = cc e in
    let number : b.number ≡ a.number = ap (λ (c : Ask). c.number) same in
    let t : eqb b.number a.number ≡ true = eq-eqb b.number a.number number in
    (let k = h.0 in omega arith, omega arith, rw t refl)
rises_to low (b ∷ bs) (suc i) a h e =
    let r = rises_to (b.number + 1) bs i a h.1 e in
    let above : b.number + 1 ≤ a.number = r.0 in
    let f : eqb b.number a.number ≡ false = grind (arith, nat_tests) in
    (let k = h.0 in omega arith, (let k = r.1 in omega arith), rw f (let k = r.2 in omega arith))

pub place_is : (others : List Ask) (i : ℕ) (a : Ask) → Rises 0 others → slice_get others i ≡ Some a → place_of a.number others ≡ Some i
place_is others i a h e =
    let r = rises_to 0 others i a h e in
    let at : position_or_len (λ (b : Ask). b.number == a.number) others ≡ i = r.2 in
    let t : nat_lt i (length others) ≡ true = lt-ltb i (length others) r.1 in
    rw at (rw t refl)

-- ---- sends

-- a log that serves one target serves each that it has
abbrev pub serves_for : {Op : Type 0} (written : Op → List ℕ) (sound : Op → Type 0) (held : LogData) (first target : Target) (h : Serves written sound held first) → HasTarget written h.log target → Serves written sound held target
serves_for written sound held first target h k = record {
  log = h.log;
  is = h.is;
  ops = h.ops;
  nodes = h.nodes;
  count = h.count;
  front = k.front;
  size = k.size;
  most = h.most;
  root = k.root;
}

-- the state after an ask
abbrev sent_state : {Op : Type 0} → State Op → Ask → List (Range ℕ) → ℕ → State Op
sent_state s a rests fresh = record s { next = number_after a.number; pending = s.pending ++ a ∷ []; rests = rests; fresh = fresh }

-- an ask for the current target is one for a target that the log has
own_ask : {Op : Type 0} (written : Op → List ℕ) (log : LogView Op) (target : Target) (a : Ask) → a.target ≡ target → HasTarget written log target → IsWithin target a.range → IsOwnAsk written log target a
own_ask written log target a same has within = record {
  has = subst (λ (t : Target). HasTarget written log t) (sym same) has;
  start = ap (λ (t : Target). t.start) same;
  end = (let e : a.target.end ≡ target.end = ap (λ (t : Target). t.end) same in omega arith);
  within = subst (λ (t : Target). IsWithin t a.range) (sym same) within;
}

after_less : (n m : ℕ) (b : Bool) → nat_lt n (2 ^ 64 - 1) ≡ b → (if b then Some (n + 1) else None) ≡ Some m → (m ≡ n + 1) × (m < 2 ^ 64)
after_less n m true t e = let k : n < 2 ^ 64 - 1 = ltb-true n (2 ^ 64 - 1) t in let same : n + 1 ≡ m = cc e in (sym same, omega arith)
after_less n m false t e = absurd (cc e)

drawn_after : (next : Option ℕ) (asks : List Ask) (n : ℕ) (a : Ask) → a.number ≡ n → next ≡ Some n → AreDrawn next asks → AreDrawn (number_after n) (asks ++ a ∷ [])
drawn_after next asks n a same first d =
    let lt : n < 2 ^ 64 = d.next_small n first in
    record {
      small = All-push (λ (b : Ask). b.number < 2 ^ 64) asks a d.small (omega arith);
      next_small = λ m e. (after_less n m (nat_lt n (2 ^ 64 - 1)) refl e).1;
      before = λ m e.
          let k = after_less n m (nat_lt n (2 ^ 64 - 1)) refl e in
          All-push (λ (b : Ask). b.number < m) asks a (All-weaker (λ (b : Ask). b.number < n) (λ (b : Ask). b.number < m) (λ b lt. let q = k.0 in omega arith) asks (d.before n first)) (let q = k.0 in omega arith);
    }

follows_send : {Op : Type 0} (written : Op → List ℕ) (log : LogView Op) (s : State Op) (a : Ask) (rests : List (Range ℕ)) (fresh : ℕ) → Follows written log s → s.next ≡ Some a.number → IsOwnAsk written log s.plan.target a → All (IsWithin s.plan.target) rests → s.plan.target.start ≤ fresh
    → Follows written log (sent_state s a rests fresh)
follows_send written log s a rests fresh f first own all least = record {
  batch = f.batch;
  many = f.many;
  has = f.has;
  fresh = least;
  pending = All-push (IsOwnAsk written log s.plan.target) s.pending a f.pending own;
  rests = all;
  rises = Rises-push 0 s.pending a f.rises (f.drawn.before a.number first) (omega arith);
  drawn = drawn_after s.next s.pending a.number a refl first f.drawn;
  kept = f.kept;
  nodes = f.nodes;
}

-- the range that is asked next is one of the target's
next_within : {Op : Type 0} (written : Op → List ℕ) (log : LogView Op) (s : State Op) (rests : List (Range ℕ)) (x : Range ℕ × List (Range ℕ) × ℕ) → Follows written log s → All (IsWithin s.plan.target) rests → range_next s.plan rests s.fresh ≡ Some x
    → IsWithin s.plan.target x.0 × All (IsWithin s.plan.target) x.1 × (s.plan.target.start ≤ x.2)
next_within written log s (r ∷ rests) x f all e =
    let same : (r, rests, s.fresh) ≡ x = cc e in
    subst (λ (y : Range ℕ × List (Range ℕ) × ℕ). IsWithin s.plan.target y.0 × All (IsWithin s.plan.target) y.1 × (s.plan.target.start ≤ y.2)) same
    (All-head (IsWithin s.plan.target) r rests all, All-tail (IsWithin s.plan.target) r rests all, f.fresh)
next_within written log s [] x f all e = new_within (nat_lt s.fresh s.plan.target.end) refl (e)
  where
    new_within : (b : Bool) → nat_lt s.fresh s.plan.target.end ≡ b → (if b then Some (record { start = s.fresh; end = batch_end s.plan s.fresh }, [], batch_end s.plan s.fresh) else None) ≡ Some x
        → IsWithin s.plan.target x.0 × All (IsWithin s.plan.target) x.1 × (s.plan.target.start ≤ x.2)
    new_within true t e =
        let lt : s.fresh < s.plan.target.end = ltb-true s.fresh s.plan.target.end t in
        let same : (record { start = s.fresh; end = batch_end s.plan s.fresh }, [], batch_end s.plan s.fresh) ≡ x = cc e in
        let batch = f.batch in
        let least = f.fresh in
        subst (λ (y : Range ℕ × List (Range ℕ) × ℕ). IsWithin s.plan.target y.0 × All (IsWithin s.plan.target) y.1 × (s.plan.target.start ≤ y.2)) same
        (record { least = least; some = omega arith; most = omega arith }, All-nil (IsWithin s.plan.target), omega arith)
    new_within false t e = absurd (cc e)

-- what is sent next, where something is
record Sent {Op : Type 0} (s u : State Op) (a : Ask) : Type 0 where
  rests : List (Range ℕ)
  fresh : ℕ
  first : s.next ≡ Some a.number
  is : u ≡ sent_state s a rests fresh
  aimed : a.target ≡ s.plan.target
  from : range_next s.plan s.rests s.fresh ≡ Some (a.range, rests, fresh)

sent_numbered : {Op : Type 0} (s u : State Op) (a : Ask) (x : Range ℕ × List (Range ℕ) × ℕ) (o : Option ℕ) → range_next s.plan s.rests s.fresh ≡ Some x → s.next ≡ o → numbered s x.0 x.1 x.2 o ≡ Send a u → Sent s u a
sent_numbered s u a x None from first e = absurd (cc e)
sent_numbered {Op} s u a x (Some n) from first e =
    let ask : Ask = record { number = n; range = x.0; target = s.plan.target } in
    let t : State Op = sent_state s ask x.1 x.2 in
    let p : ask ≡ a = cc e in
    let q : t ≡ u = cc e in
    subst (λ (b : Ask). Sent s u b) p (record { rests = x.1; fresh = x.2; first = first; is = sym q; aimed = refl; from = from })

sent_sending : {Op : Type 0} (s u : State Op) (a : Ask) (o : Option (Range ℕ × List (Range ℕ) × ℕ)) → range_next s.plan s.rests s.fresh ≡ o → sending s o ≡ Send a u → Sent s u a
sent_sending s u a None from e = absurd (cc e)
sent_sending s u a (Some x) from e = sent_numbered s u a x s.next from refl e

sent_if : {Op : Type 0} (s u : State Op) (a : Ask) (b : Bool) → (if b then sending s (range_next s.plan s.rests s.fresh) else Nothing) ≡ Send a u → Sent s u a
sent_if s u a true e = sent_sending s u a (range_next s.plan s.rests s.fresh) refl e
sent_if s u a false e = absurd (cc e)

sent_is : {Op : Type 0} (s u : State Op) (a : Ask) → ask_next s ≡ Send a u → Sent s u a
unfolding ask_next
sent_is s u a e = sent_if s u a (nat_lt (length s.pending) s.plan.limits.outstanding) e

-- an ask that is sent changes neither what is fetched nor the answers that are to come
pub asks_keep : {Op : Type 0} (s u : State Op) (a : Ask) → ask_next s ≡ Send a u → (u.plan ≡ s.plan) × (u.updates ≡ s.updates)
asks_keep {Op} s u a e =
    let q = sent_is s u a e in
    (ap (λ (v : State Op). v.plan) q.is, ap (λ (v : State Op). v.updates) q.is)

module _ {Op : Type 0} (read : List ℕ → Parsed Op) (written spelling : Op → List ℕ) (sound : Op → Type 0) (sent : AreSent read written spelling sound) (held : LogData) (first : Target) (h : Serves written sound held first) where
  -- an ask that is sent is owed its reply
  pub asks_on : (s u : State Op) (a : Ask) (now : Option Service) (x : Unit {0}) → Follows written h.log s → IsOwed held s now → ask_next s ≡ Send a u
      → Follows written h.log u × IsOwed held u (service_sent (Ok x) (frame_of written a) now)
  asks_on s u a now x f owed e =
      let q = sent_is s u a e in
      let w = next_within written h.log s s.rests (a.range, q.rests, q.fresh) f f.rests q.from in
      let own : IsOwnAsk written h.log s.plan.target a = own_ask written h.log s.plan.target a q.aimed f.has w.0 in
      let g : Follows written h.log (sent_state s a q.rests q.fresh) = follows_send written h.log s a q.rests q.fresh f q.first own w.1 w.2 in
      let request : asked (frame_of written a) ≡ Some (record { number = a.number; ask = request_for a.target a.range }) =
      ask_is_read read written sound sent.laws a.number a.target a.range (f.drawn.next_small a.number q.first) (let m = h.most in let z = own.has.size in omega arith) own.within.some own.within.most in
      let reply : reply_to held (frame_of written a) ≡ Some (owed_to held a) = ap (λ (o : Option Request). option_map (reply_frame held) o) request in
      let more : service_sent (Ok x) (frame_of written a) now ≡ Some (awaited held (s.pending ++ a ∷ [])) =
      ap (λ (o : Option Service). service_sent (Ok x) (frame_of written a) o) owed
      ∙ (ap (λ (o : Option (List ℕ)). owes (awaited held s.pending) o) reply
      ∙ ap (λ (l : List (List ℕ)). Some (record { log = held; delivering = []; waiting = l })) (sym (map-append (owed_to held) s.pending (a ∷ [])))) in
      subst (λ (v : State Op). Follows written h.log v × IsOwed held v (service_sent (Ok x) (frame_of written a) now)) (sym q.is) (g, more)

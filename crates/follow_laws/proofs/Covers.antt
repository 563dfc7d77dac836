-- What a session keeps, has asked and has left to ask covers its range, and once all is kept there is one part of it.
use Rattle.std.proofs.Common.{◌≡◌, ℕ, zero, suc, ◌+◌, ◌-◌, ◌<◌, ◌≤◌, Bool, true, false, List, [], ◌∷◌, ◌++◌, length, take, drop, min, All, Option, Some, None, Result, Ok, Err, nat_lt, nat_le, ◌==◌, ◌&&◌, if◌then◌else◌, get_or, slice_get, refl, sym, ap, subst, ◌∙◌, arith, inl, inr}
use Rattle.std.specs.Prelude.{position, remove, sum_by, option_and_then, unwrap_or}
use Rattle.std.specs.List.{AllByRecursion}
use Rattle.std.specs.declared.ops.Range.{Range}
use Rattle.std.proofs.lemmas.Bool.{cases_Bool, cases_lt, and_parts, ltb-true, leb-true, eqb-true, lt-ltb, le-ltb}
use Rattle.std.proofs.lemmas.List.{get_or-drop, get_or-take}
use Rattle.std.proofs.lemmas.List.Elements.{All-nil, All-push, All-get_or}
use Rattle.std.proofs.lemmas.List.Quantifiers.{position-Some}
use Rattle.std.proofs.lemmas.List.Sums.{sum_by_push, sum_by-cons, sum_by-append, sum_by-remove}
use Rattle.std.proofs.lemmas.Option.{slice_get_within, get_or_from_slice_get}
use Rattle.ledger_codec.specs.declared.fault.CodecError.{CodecError}
use Rattle.ledger_codec.specs.Sequences.{all_of}
use Rattle.ledger_log.specs.declared.target.Target.{Target}
use Rattle.sync_net.specs.Asking.{number_after}
use Rattle.sync_net.specs.Messages.{message_at}
use Rattle.sync_net.specs.Numbered.{number_of}
use Rattle.sync_net.specs.declared.message.Message.{Message}
use Rattle.sync_net.specs.declared.message.Message.TheVariants as messages
use Rattle.sync_net.specs.declared.response.GetOperationsResponse.{GetOperationsResponse}
use Rattle.sync_client.specs.declared.collector.Piece.{Piece}
use Rattle.sync_client.specs.Asking.{LimitsView, Plan, Judge, first_plan, range_next, batch_end, without_at, rest_of, good}
use Rattle.sync_client.specs.Parts.{Stands, Assembles}
use Rattle.sync_client.specs.Runs.{Sends, Reaches}
use Rattle.sync_client.specs.Session.{Ask, State, Rules, Next, Nothing, Send, Exhausted, ask_next, sending, numbered, started, with_answer, answered, taken_by, taken, take_frame, ask_under, place_of, is_whole}
use Rattle.sync_client.specs.Tiles.{inside, in_ranges, in_pieces, size_of_ranges, size_of_pieces}
use Rattle.sync_client.proofs.Aiming.{SamePart}
use Rattle.sync_client.proofs.Insides.{inside_in, inside_before, inside_behind, inside_split}
use Rattle.sync_client.proofs.Rising.{Updated, updated_so}
use Rattle.sync_client.proofs.Unique.{one_part}
use Rattle.follow_laws.proofs.Bytes.{Hold}

-- how many of the asks the place stands in
abbrev in_asks : ℕ → List Ask → ℕ
in_asks x = sum_by (λ (a : Ask). inside x a.range.start a.range.end)

-- how many places the asks have
abbrev size_of_asks : List Ask → ℕ
size_of_asks = sum_by (λ (a : Ask). a.range.end - a.range.start)

zeros : (n : ℕ) → 0 + (0 + (0 + n)) ≡ n
zeros n = omega arith

some_is : {X : Type 0} (x y : X) → Some x ≡ Some y → x ≡ y
some_is x y h = ap (λ o. unwrap_or o x) h

-- ---- empty ranges

inside_empty : (x a b : ℕ) → b - a ≡ 0 → inside x a b ≡ 0
inside_empty x a b e = elim (cases_lt x a) [ inl lt ↦ inside_before x a b lt | inr ge ↦ inside_behind x a b (omega arith) ]

no_asks : (x : ℕ) (asks : List Ask) → size_of_asks asks ≡ 0 → in_asks x asks ≡ 0
no_asks x [] e = refl
no_asks x (a ∷ asks) e =
    let s : size_of_asks (a ∷ asks) ≡ (a.range.end - a.range.start) + size_of_asks asks = sum_by-cons (λ (a : Ask). a.range.end - a.range.start) a asks in
    let n : in_asks x (a ∷ asks) ≡ inside x a.range.start a.range.end + in_asks x asks = sum_by-cons (λ (a : Ask). inside x a.range.start a.range.end) a asks in
    let one = inside_empty x a.range.start a.range.end (omega arith) in
    let more = no_asks x asks (omega arith) in
    omega arith

no_rests : (x : ℕ) (rests : List (Range ℕ)) → size_of_ranges rests ≡ 0 → in_ranges x rests ≡ 0
no_rests x [] e = refl
no_rests x (r ∷ rests) e =
    let s : size_of_ranges (r ∷ rests) ≡ (r.end - r.start) + size_of_ranges rests = sum_by-cons (λ (r : Range ℕ). r.end - r.start) r rests in
    let n : in_ranges x (r ∷ rests) ≡ inside x r.start r.end + in_ranges x rests = sum_by-cons (λ (r : Range ℕ). inside x r.start r.end) r rests in
    let one = inside_empty x r.start r.end (omega arith) in
    let more = no_rests x rests (omega arith) in
    omega arith

rest_in : (x : ℕ) (r : Range ℕ) (n : ℕ) → r.start + n ≤ r.end → inside x r.start (r.start + n) + in_ranges x (rest_of r n) ≡ inside x r.start r.end
rest_in x r n le = elim (cases_lt (r.start + n) r.end) [
  | inl lt ↦
      let s = inside_split x r.start (r.start + n) r.end (omega arith) le in
      rw (lt-ltb (r.start + n) r.end lt) (omega arith)
  | inr ge ↦
      let e : r.start + n ≡ r.end = omega arith in
      rw (le-ltb (r.start + n) r.end ge, e) (omega arith)
]

rest_size : (r : Range ℕ) (n : ℕ) → r.start + n ≤ r.end → n + size_of_ranges (rest_of r n) ≡ r.end - r.start
rest_size r n le = elim (cases_lt (r.start + n) r.end) [
  | inl lt ↦ rw (lt-ltb (r.start + n) r.end lt) (omega arith)
  | inr ge ↦ rw (le-ltb (r.start + n) r.end ge) (omega arith)
]

-- ---- the ask of a number

under_from : (number : ℕ) (asks : List Ask) (a : Ask) (o : Option ℕ) → position (λ (b : Ask). b.number == number) asks ≡ o → option_and_then (λ (i : ℕ). slice_get asks i) o ≡ Some a → (i : ℕ) × (place_of a.number asks ≡ Some i) × (slice_get asks i ≡ Some a)
under_from number asks a None p e = absurd (cc e)
under_from number asks a (Some i) p e =
    let found = position-Some (λ (b : Ask). b.number == number) asks i a p in
    let here : get_or asks i a ≡ a = get_or_from_slice_get asks i a a e in
    let same : a.number ≡ number = ap (λ (b : Ask). b.number) (sym here) ∙ eqb-true (get_or asks i a).number number found.1 in
    (i, ap (λ (n : ℕ). place_of n asks) same ∙ p, e)

under : (number : ℕ) (asks : List Ask) (a : Ask) → ask_under number asks ≡ Some a → (i : ℕ) × (place_of a.number asks ≡ Some i) × (slice_get asks i ≡ Some a)
under number asks a e = under_from number asks a (place_of number asks) refl e

module _ {Op : Type 0} (P : Op → Type 0) where
  -- each place of the range is kept, pending, left over or not yet asked, and it is so once; each operation that is kept is so
  pub record Covers (s : State Op) : Type 0 where
    pub low : s.plan.target.start ≤ s.fresh
    pub high : s.fresh ≤ s.plan.target.end
    pub each : (x : ℕ) → in_pieces x s.kept + (in_asks x s.pending + (in_ranges x s.rests + inside x s.fresh s.plan.target.end)) ≡ inside x s.plan.target.start s.plan.target.end
    pub total : size_of_pieces s.kept + (size_of_asks s.pending + (size_of_ranges s.rests + (s.plan.target.end - s.fresh))) ≡ s.plan.target.end - s.plan.target.start
    pub sound : All (λ (p : Piece Op). AllByRecursion P p.ops) s.kept

  pub first_covers : (target : Target) (limits : LimitsView) (next : Option ℕ) (updates : List (Option Target)) → Covers (started (first_plan target limits) next updates)
  first_covers target limits next updates =
      let less : target.start < target.end = target.ordered in
      record { low = omega arith; high = omega arith; each = λ x. zeros (inside x target.start target.end); total = zeros (target.end - target.start); sound = All-nil (λ (p : Piece Op). AllByRecursion P p.ops) }

  -- ---- asks

  -- what was to be asked is this range and what is then left
  record Splits (s : State Op) (r : Range ℕ) (rests : List (Range ℕ)) (fresh : ℕ) : Type 0 where
    low : s.plan.target.start ≤ fresh
    high : fresh ≤ s.plan.target.end
    each : (x : ℕ) → in_ranges x s.rests + inside x s.fresh s.plan.target.end ≡ inside x r.start r.end + (in_ranges x rests + inside x fresh s.plan.target.end)
    total : size_of_ranges s.rests + (s.plan.target.end - s.fresh) ≡ (r.end - r.start) + (size_of_ranges rests + (s.plan.target.end - fresh))

  splits_fresh : (s : State Op) (x : Range ℕ × List (Range ℕ) × ℕ) (lt : Bool) → nat_lt s.fresh s.plan.target.end ≡ lt → s.rests ≡ [] → (if lt then Some (record { start = s.fresh; end = batch_end s.plan s.fresh }, [], batch_end s.plan s.fresh) else None) ≡ Some x → Covers s → Splits s x.0 x.1 x.2
  splits_fresh s x false t none e h = absurd (cc e)
  splits_fresh s x true t none e h =
      let r : Range ℕ = record { start = s.fresh; end = batch_end s.plan s.fresh } in
      let lt : s.fresh < s.plan.target.end = ltb-true s.fresh s.plan.target.end t in
      let low = h.low in
      let from : s.fresh ≤ batch_end s.plan s.fresh = omega arith in
      let to : batch_end s.plan s.fresh ≤ s.plan.target.end = omega arith in
      subst (λ (y : Range ℕ × List (Range ℕ) × ℕ). Splits s y.0 y.1 y.2) (some_is (r, [], batch_end s.plan s.fresh) x e) (record {
        low = omega arith;
        high = to;
        each = λ y.
            let a : in_ranges y s.rests ≡ 0 = ap (in_ranges y) none in
            let b = inside_split y s.fresh (batch_end s.plan s.fresh) s.plan.target.end from to in
            let c : in_ranges y [] ≡ 0 = refl in
            omega arith;
        total = let a : size_of_ranges s.rests ≡ 0 = ap size_of_ranges none in let c : size_of_ranges [] ≡ 0 = refl in omega arith;
      })

  splits_from : (s : State Op) (rests : List (Range ℕ)) (x : Range ℕ × List (Range ℕ) × ℕ) → s.rests ≡ rests → range_next s.plan rests s.fresh ≡ Some x → Covers s → Splits s x.0 x.1 x.2
  splits_from s [] x f e h = splits_fresh s x (nat_lt s.fresh s.plan.target.end) refl f e h
  splits_from s (r ∷ rs) x f e h =
      subst (λ (y : Range ℕ × List (Range ℕ) × ℕ). Splits s y.0 y.1 y.2) (some_is (r, rs, s.fresh) x e) (record {
        low = h.low;
        high = h.high;
        each = λ y. let a : in_ranges y s.rests ≡ inside y r.start r.end + in_ranges y rs = rw f (sum_by-cons (λ (r : Range ℕ). inside y r.start r.end) r rs) in omega arith;
        total = let a : size_of_ranges s.rests ≡ (r.end - r.start) + size_of_ranges rs = rw f (sum_by-cons (λ (r : Range ℕ). r.end - r.start) r rs) in omega arith;
      })

  numbered_covers : (s t : State Op) (ask : Ask) (r : Range ℕ) (rests : List (Range ℕ)) (fresh : ℕ) (next : Option ℕ) → numbered s r rests fresh next ≡ Send ask t → Splits s r rests fresh → Covers s → Covers t
  numbered_covers s t ask r rests fresh None e k h = absurd (cc e)
  numbered_covers s t ask r rests fresh (Some n) e k h =
      let a : Ask = record { number = n; range = r; target = s.plan.target } in
      let u : State Op = record s { next = number_after n; pending = s.pending ++ a ∷ []; rests = rests; fresh = fresh } in
      let p : u ≡ t = cc e in
      subst Covers p (record {
        low = k.low;
        high = k.high;
        each = λ x.
            let y : in_asks x (s.pending ++ a ∷ []) ≡ in_asks x s.pending + inside x r.start r.end = sum_by_push (λ (a : Ask). inside x a.range.start a.range.end) s.pending a in
            let z = h.each x in
            let w = k.each x in
            omega arith;
        total =
            let y : size_of_asks (s.pending ++ a ∷ []) ≡ size_of_asks s.pending + (r.end - r.start) = sum_by_push (λ (a : Ask). a.range.end - a.range.start) s.pending a in
            let z = h.total in
            let w = k.total in
            omega arith;
        sound = h.sound;
      })

  sending_covers : (b : Bool) (s t : State Op) (ask : Ask) (o : Option (Range ℕ × List (Range ℕ) × ℕ)) → range_next s.plan s.rests s.fresh ≡ o → (if b then sending s o else Nothing) ≡ Send ask t → Covers s → Covers t
  sending_covers false s t ask o f e h = absurd (cc e)
  sending_covers true s t ask None f e h = absurd (cc e)
  sending_covers true s t ask (Some x) f e h = numbered_covers s t ask x.0 x.1 x.2 s.next e (splits_from s s.rests x refl f h) h

  send_covers : (s t : State Op) (ask : Ask) → ask_next s ≡ Send ask t → Covers s → Covers t
  unfolding ask_next
  send_covers s t ask e h = sending_covers (nat_lt (length s.pending) s.plan.limits.outstanding) s t ask (range_next s.plan s.rests s.fresh) refl e h

  sends_covers : (s t : State Op) (asks : List Ask) → Sends s asks t → Covers s → Covers t
  sends_covers s t [] e h = subst Covers e h
  sends_covers s t (ask ∷ asks) e h = sends_covers e.0 t asks e.2 (send_covers s e.0 ask e.1 h)

  -- ---- answers

  -- an answer is as long as its range at most, and isn't empty
  good_length : (proved : Judge Op) (start : ℕ) (r : Range ℕ) (m : GetOperationsResponse Op) → good proved start r m ≡ true → r.start + length m.operations ≤ r.end
  unfolding good
  good_length proved start r m e =
      let a = and_parts (nat_lt 0 (length m.operations)) _ e in
      let b = and_parts (nat_le (length m.operations) (r.end - r.start)) _ a.1 in
      let x : 0 < length m.operations = ltb-true _ _ a.0 in
      let y : length m.operations ≤ r.end - r.start = leb-true _ _ b.0 in
      omega arith

  answer_covers : (s : State Op) (a : Ask) (m : GetOperationsResponse Op) (i : ℕ) → place_of a.number s.pending ≡ Some i → slice_get s.pending i ≡ Some a → a.range.start + length m.operations ≤ a.range.end → AllByRecursion P m.operations → Covers s → Covers (with_answer a m s)
  answer_covers s a m i p at le q h =
      let r : Range ℕ = a.range in
      let piece : Piece Op = record { at = r.start; ops = m.operations } in
      let left : without_at (place_of a.number s.pending) s.pending ≡ remove s.pending i = ap (λ (o : Option ℕ). without_at o s.pending) p in
      let here : get_or s.pending i a ≡ a = get_or_from_slice_get s.pending i a a at in
      let lt = slice_get_within s.pending i a at in
      record {
        low = h.low;
        high = h.high;
        each = λ x.
            let y : in_asks x (remove s.pending i) + inside x r.start r.end ≡ in_asks x s.pending =
            ap (λ (b : Ask). in_asks x (remove s.pending i) + inside x b.range.start b.range.end) (sym here) ∙ sum_by-remove (λ (a : Ask). inside x a.range.start a.range.end) s.pending i a lt in
            let z : in_asks x (without_at (place_of a.number s.pending) s.pending) ≡ in_asks x (remove s.pending i) = ap (in_asks x) left in
            let b : in_ranges x (s.rests ++ rest_of r (length m.operations)) ≡ in_ranges x s.rests + in_ranges x (rest_of r (length m.operations)) = sum_by-append (λ (r : Range ℕ). inside x r.start r.end) s.rests (rest_of r (length m.operations)) in
            let d : in_pieces x (s.kept ++ piece ∷ []) ≡ in_pieces x s.kept + inside x r.start (r.start + length m.operations) = sum_by_push (λ (p : Piece Op). inside x p.at (p.at + length p.ops)) s.kept piece in
            let t = rest_in x r (length m.operations) le in
            let c = h.each x in
            omega arith;
        total =
            let y : size_of_asks (remove s.pending i) + (r.end - r.start) ≡ size_of_asks s.pending =
            ap (λ (b : Ask). size_of_asks (remove s.pending i) + (b.range.end - b.range.start)) (sym here) ∙ sum_by-remove (λ (a : Ask). a.range.end - a.range.start) s.pending i a lt in
            let z : size_of_asks (without_at (place_of a.number s.pending) s.pending) ≡ size_of_asks (remove s.pending i) = ap size_of_asks left in
            let b : size_of_ranges (s.rests ++ rest_of r (length m.operations)) ≡ size_of_ranges s.rests + size_of_ranges (rest_of r (length m.operations)) = sum_by-append (λ (r : Range ℕ). r.end - r.start) s.rests (rest_of r (length m.operations)) in
            let d : size_of_pieces (s.kept ++ piece ∷ []) ≡ size_of_pieces s.kept + length m.operations = sum_by_push (λ (p : Piece Op). length p.ops) s.kept piece in
            let t = rest_size r (length m.operations) le in
            let c = h.total in
            omega arith;
        sound = All-push (λ (p : Piece Op). AllByRecursion P p.ops) s.kept piece h.sound q;
      }

  -- a later target leaves more to ask
  plan_covers : (s : State Op) (plan : Plan) (updates : List (Option Target)) → SamePart s.plan plan → Covers s → Covers (record s { plan = plan; updates = updates })
  plan_covers s plan updates k h =
      let rises = k.rises in
      let start = k.start in
      let low = h.low in
      let high = h.high in
      record {
        low = omega arith;
        high = omega arith;
        each = λ x.
            let a : inside x s.fresh s.plan.target.end + inside x s.plan.target.end plan.target.end ≡ inside x s.fresh plan.target.end = inside_split x s.fresh s.plan.target.end plan.target.end high rises in
            let b : inside x s.plan.target.start s.plan.target.end + inside x s.plan.target.end plan.target.end ≡ inside x s.plan.target.start plan.target.end = inside_split x s.plan.target.start s.plan.target.end plan.target.end (omega arith) rises in
            let e : inside x plan.target.start plan.target.end ≡ inside x s.plan.target.start plan.target.end = ap (λ (n : ℕ). inside x n plan.target.end) start in
            let c = h.each x in
            omega arith;
        total = let t = h.total in omega arith;
        sound = h.sound;
      }

  updated_covers : (s t : State Op) → Updated s t → Covers s → Covers t
  updated_covers s t u h =
      let same : SamePart s.plan u.plan = subst (λ (v : State Op). SamePart s.plan v.plan) u.is u.same in
      subst Covers (sym u.is) (plan_covers s u.plan u.answers same h)

  answered_covers : (rules : Rules Op) (s t : State Op) (a : Ask) (m : Message Op) → answered rules s a m ≡ Ok t → ask_under (number_of m) s.pending ≡ Some a → Hold P m → Covers s → Covers t
  answered_covers rules s t a (messages.GetOperationsResponse m) e f q h =
      elim (cases_Bool (good (rules.proved a.target) s.plan.target.start a.range m)) [
        | inl ok ↦
            let r = rw ok at e in
            let place = under (number_of {Op = Op} (messages.GetOperationsResponse m)) s.pending a f in
            let le = good_length (rules.proved a.target) s.plan.target.start a.range m ok in
            updated_covers (with_answer a m s) t (updated_so (with_answer a m s) t r) (answer_covers s a m place.0 place.1 place.2 le q h)
        | inr no_good ↦ let r = rw no_good at e in absurd (cc r)
      ]
  answered_covers rules s t a (messages.GetOperationsRequest m) e f q h = absurd (cc e)
  answered_covers rules s t a (messages.GetSyncTargetRequest m) e f q h = absurd (cc e)
  answered_covers rules s t a (messages.GetSyncTargetResponse m) e f q h = absurd (cc e)
  answered_covers rules s t a (messages.GetCompactTargetRequest m) e f q h = absurd (cc e)
  answered_covers rules s t a (messages.GetCompactTargetResponse m) e f q h = absurd (cc e)
  answered_covers rules s t a (messages.GetCompactStateRequest m) e f q h = absurd (cc e)
  answered_covers rules s t a (messages.GetCompactStateResponse m) e f q h = absurd (cc e)
  answered_covers rules s t a (messages.Error m) e f q h = absurd (cc e)

  taken_covers : (rules : Rules Op) (s t : State Op) (m : Message Op) (o : Option Ask) → ask_under (number_of m) s.pending ≡ o → taken_by rules s m o ≡ Ok t → Hold P m → Covers s → Covers t
  taken_covers rules s t m (Some a) f e q h = answered_covers rules s t a m e f q h
  taken_covers rules s t m None f e q h =
      elim (cases_Bool (nat_lt s.strays 1024)) [
        | inl lt ↦
            let r = rw lt at e in
            let n : State Op = record s { strays = s.strays + 1 } in
            let p : n ≡ t = cc r in
            subst Covers p (record { low = h.low; high = h.high; each = h.each; total = h.total; sound = h.sound })
        | inr ge ↦ let r = rw ge at e in absurd (cc r)
      ]

  module _ (rules : Rules Op) (IsBody : List ℕ → Type 0) (held : (body : List ℕ) (m : Message Op) → IsBody body → all_of (message_at rules.read) body ≡ Ok m → Hold P m) where
    read_covers : (s t : State Op) (body : List ℕ) (read : Result (Message Op) CodecError) → all_of (message_at rules.read) body ≡ read → taken rules s read ≡ Ok t → IsBody body → Covers s → Covers t
    read_covers s t body (Ok m) f e b h = taken_covers rules s t m (ask_under (number_of m) s.pending) refl e (held body m b f) h
    read_covers s t body (Err fault) f e b h = absurd (cc e)

    take_covers : (s t : State Op) (body : List ℕ) → take_frame rules s body ≡ Ok t → IsBody body → Covers s → Covers t
    unfolding take_frame
    take_covers s t body e b h = read_covers s t body (all_of (message_at rules.read) body) refl e b h

    pub reaches_covers : (s t : State Op) (bodies : List (List ℕ)) (asks : List Ask) → Reaches rules s bodies asks t → AllByRecursion IsBody bodies → Covers s → Covers t
    reaches_covers s t [] asks e b h = sends_covers s t asks e h
    reaches_covers s t (body ∷ bodies) asks e b h =
        reaches_covers e.1 t bodies e.3 e.9 b.1 (take_covers e.0 e.1 body e.7 b.0 (sends_covers s e.0 e.2 e.4 h))

  -- ---- the whole range

  cover : (t : State Op) → is_whole t ≡ true → Covers t → (x : ℕ) → in_pieces x t.kept ≡ inside x t.plan.target.start t.plan.target.end
  unfolding is_whole
  cover t done h x =
      let all : size_of_pieces t.kept ≡ t.plan.target.end - t.plan.target.start = eqb-true _ _ done in
      let total = h.total in
      let asks = no_asks x t.pending (omega arith) in
      let rests = no_rests x t.rests (omega arith) in
      let more = inside_empty x t.fresh t.plan.target.end (omega arith) in
      let each = h.each x in
      omega arith

  whole_size : (t : State Op) → is_whole t ≡ true → size_of_pieces t.kept ≡ t.plan.target.end - t.plan.target.start
  unfolding is_whole
  whole_size t done = eqb-true _ _ done

  -- the kept pieces make one list of operations
  pub one_list : (t : State Op) → is_whole t ≡ true → Covers t → (ops other : List Op) → Assembles t.plan.target.start t.kept ops → Assembles t.plan.target.start t.kept other → other ≡ ops
  one_list t done h ops other a b = one_part t.plan.target.start t.plan.target.end t.kept other ops (cover t done h) (b.0 ∙ whole_size t done) b a

  -- ---- each operation

  piece_of : (x : ℕ) (ks : List (Piece Op)) → 0 < in_pieces x ks → (p : Piece Op) × (i : ℕ) × (i < length ks) × (get_or ks i p ≡ p) × (p.at ≤ x) × (x < p.at + length p.ops)
  piece_of x [] h = absurd (omega arith)
  piece_of x (p ∷ ks) h =
      let c : in_pieces x (p ∷ ks) ≡ inside x p.at (p.at + length p.ops) + in_pieces x ks = sum_by-cons (λ (p : Piece Op). inside x p.at (p.at + length p.ops)) p ks in
      elim (cases_lt x p.at) [
        | inl lt ↦
            let none = inside_before x p.at (p.at + length p.ops) lt in
            let r = piece_of x ks (omega arith) in
            (r.0, suc r.1, (let q = r.2 in omega arith), r.3, r.4, r.5)
        | inr ge ↦ elim (cases_lt x (p.at + length p.ops)) [
          | inl lt ↦ (p, 0, omega arith, refl, ge, lt)
          | inr past ↦
              let none = inside_behind x p.at (p.at + length p.ops) past in
              let r = piece_of x ks (omega arith) in
              (r.0, suc r.1, (let q = r.2 in omega arith), r.3, r.4, r.5)
        ]
      ]

  holds_at : (xs : List Op) (i : ℕ) (d : Op) → AllByRecursion P xs → i < length xs → P (get_or xs i d)
  holds_at [] i d h lt = absurd (omega arith)
  holds_at (x ∷ xs) zero d h lt = h.0
  holds_at (x ∷ xs) (suc i) d h lt = holds_at xs i d h.1 (omega arith)

  holds_by : (xs : List Op) → ((i : ℕ) (d : Op) → i < length xs → P (get_or xs i d)) → AllByRecursion P xs
  holds_by [] h = tt
  holds_by (x ∷ xs) h = (h 0 x (omega arith), holds_by xs (λ i d lt. h (suc i) d (omega arith)))

  reads_piece : (start : ℕ) (ops : List Op) (p : Piece Op) (x : ℕ) (d : Op) → Stands start ops p → p.at ≤ x → x < p.at + length p.ops → get_or ops (x - start) d ≡ get_or p.ops (x - p.at) d
  reads_piece start ops p x d h le lt =
      let s : start ≤ p.at = h.0 in
      let a : get_or (take (length p.ops) (drop (p.at - start) ops)) (x - p.at) d ≡ get_or (drop (p.at - start) ops) (x - p.at) d = get_or-take (length p.ops) (drop (p.at - start) ops) (x - p.at) d (omega arith) in
      let b : get_or (drop (p.at - start) ops) (x - p.at) d ≡ get_or ops (p.at - start + (x - p.at)) d = get_or-drop (p.at - start) ops (x - p.at) d in
      let e : p.at - start + (x - p.at) ≡ x - start = omega arith in
      sym (sym (ap (λ (zs : List Op). get_or zs (x - p.at) d) h.1) ∙ (a ∙ (b ∙ ap (λ (i : ℕ). get_or ops i d) e)))

  -- each operation of the part is one of a kept piece
  pub ops_hold : (t : State Op) → is_whole t ≡ true → Covers t → (ops : List Op) → Assembles t.plan.target.start t.kept ops → AllByRecursion P ops
  ops_hold t done h ops a = holds_by ops (λ i d lt.
      let start : ℕ = t.plan.target.start in
      let size = whole_size t done in
      let long = a.0 in
      let one : inside (start + i) start t.plan.target.end ≡ 1 = inside_in (start + i) start t.plan.target.end (omega arith) (omega arith) in
      let c = cover t done h (start + i) in
      let r = piece_of (start + i) t.kept (omega arith) in
      let stands : Stands start ops r.0 = subst (Stands start ops) r.3 (All-get_or (Stands start ops) t.kept r.1 r.0 r.2 a.1) in
      let sound : AllByRecursion P r.0.ops = subst (λ (p : Piece Op). AllByRecursion P p.ops) r.3 (All-get_or (λ (p : Piece Op). AllByRecursion P p.ops) t.kept r.1 r.0 r.2 h.sound) in
      let e : start + i - start ≡ i = omega arith in
      let same : get_or ops i d ≡ get_or r.0.ops (start + i - r.0.at) d = ap (λ (k : ℕ). get_or ops k d) (sym e) ∙ reads_piece start ops r.0 (start + i) d stands r.4 r.5 in
      let x = r.4 in
      let y = r.5 in
      subst P (sym same) (holds_at r.0.ops (start + i - r.0.at) d sound (omega arith)))

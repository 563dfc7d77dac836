-- Over a link that serves, a whole reply is taken as a good answer to its ask, a later target that was foreseen is taken after it, and at the end the part is the log's own.
use Rattle.std.proofs.Common.{◌≡◌, ℕ, zero, suc, ◌+◌, ◌-◌, ◌^◌, ◌<◌, ◌≤◌, Bool, true, false, if◌then◌else◌, nat_lt, List, [], ◌∷◌, ◌++◌, length, take, drop, All, Option, Some, None, Result, Ok, Err, inl, inr, refl, sym, ap, subst, ◌∙◌, arith, lit≤, append_assoc, length-drop}
use Rattle.std.specs.Prelude.{◌==◌, map, slice_get, remove, option_and_then}
use Rattle.std.specs.declared.ops.Range.{Range}
use Rattle.std.proofs.lemmas.Bool.{eqb-true, eq-eqb, cases_lt, ltb-true}
use Rattle.std.proofs.lemmas.List.{append-nil, take-append-drop, drop-drop, drop-take, take-take, length-take-le, length-map}
use Rattle.std.proofs.lemmas.List.Elements.{All-head, All-tail, All-cons, All-nil, All-append, All-push, All-weaker}
use Rattle.std.proofs.lemmas.List.Sums.{sum_by-cons}
use Rattle.sha2.specs.Sha256.{sha256}
use Rattle.ledger_codec.specs.declared.framing.FrameError.{FrameError}
use Rattle.ledger_codec.specs.Parsing.{Parsed}
use Rattle.ledger_codec.specs.Numbers.{varint_from}
use Rattle.ledger_codec.specs.Sequences.{all_of, string_written}
use Rattle.ledger_codec.specs.Frames.{Whole, Short, Bad, front}
use Rattle.ledger_codec.proofs.Stable.{framed, front_more, front_still}
use Rattle.ledger_log.specs.View.{LogView, log_size, log_range, log_peaks_at, log_root_at}
use Rattle.ledger_log.specs.declared.target.Target.{Target}
use Rattle.sync_net.specs.declared.message.Message.{Message}
use Rattle.sync_net.specs.declared.message.Message.TheVariants as messages
use Rattle.sync_net.specs.declared.response.GetOperationsResponse.{GetOperationsResponse}
use Rattle.sync_net.specs.Messages.{message_at, message_written}
use Rattle.sync_net.specs.Core.{LogData, pinned_for}
use Rattle.sync_net.specs.Service.{Service, Receives, Goes, ServiceReceived}
use Rattle.sync_client.specs.declared.collector.Piece.{Piece}
use Rattle.sync_client.specs.Asking.{LimitsView, Plan, without_at, rest_of, nodes_of, good, range_ok}
use Rattle.sync_client.specs.Session.{Ask, State, Rules, rules_for, Offence, StaleUpdate, refused_in, is_whole, heeded_by, updated, place_of, ask_under, with_answer, taken_by, taken, take_frame}
use Rattle.sync_client.specs.Updates.{is_stale, with_target, heeded, targets_in}
use Rattle.sync_client.specs.Serving.{Serves, HasTarget, HasLater}
use Rattle.sync_client.specs.Tiles.{inside, in_pieces, size_of_pieces}
use Rattle.sync_client.specs.Parts.{Stands, Assembles}
use Rattle.sync_client.specs.Owing.{AreSent, IsWithin, Rises, AreDrawn, IsOwn, HasNodes, IsOwnAsk, Follows, Foresees, owed_to, awaited, Begun, Midway}
use Rattle.sync_client.proofs.Insides.{inside_before}
use Rattle.sync_client.proofs.Aiming.{SamePart, TookOne, aimed_parts, fresh_not, heeded_so, refused_so, took_keeps}
use Rattle.sync_client.proofs.ServedAnswers.{answer_of, answer_count, frame_is, answer_is_good, answer_is_read, answer_is_short, served_some, served_length}
use Rattle.sync_client.proofs.ServingSteps.{serves_for, map-remove, All-at, All-without, Rises-remove, place_is}

-- no bytes are the beginning of a frame
front_none : front 10485760 [] ≡ Short
unfolding varint_from
front_none = refl

-- ---- the answer that is taken

-- what is left of a range is one of the target's
rest_within : (target : Target) (r : Range ℕ) (n : ℕ) (more : Bool) → nat_lt (r.start + n) r.end ≡ more → IsWithin target r → All (IsWithin target) (if more then record { start = r.start + n; end = r.end } ∷ [] else [])
rest_within target r n true t w =
    let lt : r.start + n < r.end = ltb-true (r.start + n) r.end t in
    let least = w.least in
    All-cons (IsWithin target) (record { start = r.start + n; end = r.end }) [] (record { least = omega arith; some = lt; most = w.most }) (All-nil (IsWithin target))
rest_within target r n false t w = All-nil (IsWithin target)

drawn_less : (next : Option ℕ) (asks : List Ask) (i : ℕ) → AreDrawn next asks → AreDrawn next (remove asks i)
drawn_less next asks i d = record {
  small = All-without (λ (a : Ask). a.number < 2 ^ 64) asks i d.small;
  next_small = d.next_small;
  before = λ n e. All-without (λ (a : Ask). a.number < n) asks i (d.before n e);
}

-- the range of an ask is one of the current target's
ask_within : {Op : Type 0} (written : Op → List ℕ) (log : LogView Op) (target : Target) (a : Ask) → IsOwnAsk written log target a → IsWithin target a.range
ask_within written log target a own =
    let start = own.start in
    let end = own.end in
    let least = own.within.least in
    let most = own.within.most in
    record { least = omega arith; some = own.within.some; most = omega arith }

-- ---- a later target

-- the next answer is one of those that are to be taken, where as many are left as are to be left in the end
first_taken : (answer : Option Target) (rest took left : List (Option Target)) → answer ∷ rest ≡ took ++ left → length left ≤ length rest → (more : List (Option Target)) × (took ≡ answer ∷ more) × (rest ≡ more ++ left)
first_taken answer rest [] left e few = (let k : length (answer ∷ rest) ≡ length left = ap length e in absurd (omega arith))
first_taken answer rest (x ∷ more) left e few =
    let head : answer ≡ x = cc e in
    let tail : rest ≡ more ++ left = cc e in
    (more, ap (λ (y : Option Target). y ∷ more) (sym head), tail)

-- a target that is taken first is fresh
foreseen_fresh : {Op : Type 0} (written : Op → List ℕ) (log : LogView Op) (left : List (Option Target)) (plan : Plan) (updates rest : List (Option Target)) (later : Target) → Foresees written log left plan updates → updates ≡ Some later ∷ rest → length left ≤ length rest → is_stale plan later ≡ false
foreseen_fresh {Op} written log left plan updates rest later f e few =
    let t = first_taken (Some later) rest f.took left (sym e ∙ f.all) few in
    let has : HasLater written log f.current (later ∷ targets_in t.0) = subst (λ (l : List (Option Target)). HasLater written log f.current (targets_in l)) t.1 f.later in
    let low = f.low in
    let end = f.end in
    let start = has.0.start in
    let behind = has.0.end in
    fresh_not plan later (omega arith) (omega arith)

-- what is foreseen behind one answer
record Onward {Op : Type 0} (written : Op → List ℕ) (log : LogView Op) (left : List (Option Target)) (now : Plan) (rest : List (Option Target)) : Type 0 where
  has : HasTarget written log now.target
  foresees : Foresees written log left now rest

onward_none : {Op : Type 0} (written : Op → List ℕ) (log : LogView Op) (left : List (Option Target)) (plan : Plan) (updates rest : List (Option Target)) → HasTarget written log plan.target → Foresees written log left plan updates → updates ≡ None ∷ rest → length left ≤ length rest → Onward written log left plan rest
onward_none {Op} written log left plan updates rest has f e few =
    let t = first_taken None rest f.took left (sym e ∙ f.all) few in
    let later : HasLater written log f.current (targets_in t.0) = subst (λ (l : List (Option Target)). HasLater written log f.current (targets_in l)) t.1 f.later in
    record { has = has; foresees = record { current = f.current; took = t.0; low = f.low; end = f.end; all = t.2; later = later } }

onward_some : {Op : Type 0} (written : Op → List ℕ) (log : LogView Op) (left : List (Option Target)) (plan : Plan) (updates rest : List (Option Target)) (later : Target) → HasTarget written log plan.target → Foresees written log left plan updates → updates ≡ Some later ∷ rest → length left ≤ length rest
    → Onward written log left (with_target plan later) rest
onward_some {Op} written log left plan updates rest later has f e few =
    let t = first_taken (Some later) rest f.took left (sym e ∙ f.all) few in
    let all : HasLater written log f.current (later ∷ targets_in t.0) = subst (λ (l : List (Option Target)). HasLater written log f.current (targets_in l)) t.1 f.later in
    let order : plan.target.start < plan.target.end = plan.target.ordered in
    let end = f.end in
    let behind = all.0.end in
    let j = aimed_parts plan.target later (omega arith) in
    let start = j.start in
    let front = has.front in
    let size = all.1 in
    let to = j.end in
    record {
      has = record {
        front = omega arith;
        size = omega arith;
        root = ap (λ (n : ℕ). log_root_at sha256 written log n) j.end ∙ (all.2 ∙ sym j.root);
      };
      foresees = record { current = later; took = t.0; low = refl; end = j.end; all = t.2; later = all.3 };
    }

onward_took : {Op : Type 0} (written : Op → List ℕ) (log : LogView Op) (left : List (Option Target)) (plan now : Plan) (took updates rest : List (Option Target)) → HasTarget written log plan.target → Foresees written log left plan updates → updates ≡ took ++ rest → TookOne plan took now → length left ≤ length rest
    → Onward written log left now rest
onward_took written log left plan now [] updates rest has f e t few =
    subst (λ (p : Plan). Onward written log left p rest) (sym t) (record { has = has; foresees = subst (λ (l : List (Option Target)). Foresees written log left plan l) e f })
onward_took written log left plan now (None ∷ []) updates rest has f e t few =
    subst (λ (p : Plan). Onward written log left p rest) (sym t) (onward_none written log left plan updates rest has f e few)
onward_took written log left plan now (Some later ∷ []) updates rest has f e t few =
    subst (λ (p : Plan). Onward written log left p rest) (sym t.2) (onward_some written log left plan updates rest later has f e few)
onward_took written log left plan now (None ∷ answer ∷ answers) updates rest has f e t few = absurd t
onward_took written log left plan now (Some later ∷ answer ∷ answers) updates rest has f e t few = absurd t

-- what was asked and kept stands for a later target too
follows_later : {Op : Type 0} (written : Op → List ℕ) (log : LogView Op) (s : State Op) (plan : Plan) (updates : List (Option Target)) → Follows written log s → SamePart s.plan plan → HasTarget written log plan.target → Follows written log (record s { plan = plan; updates = updates })
follows_later {Op} written log s plan updates f same has =
    let start : plan.target.start ≡ s.plan.target.start = same.start in
    let rises : s.plan.target.end ≤ plan.target.end = same.rises in
    record {
      batch = subst (λ (l : LimitsView). 0 < l.batch) (sym same.limits) f.batch;
      many = subst (λ (l : LimitsView). 0 < l.outstanding) (sym same.limits) f.many;
      has = has;
      fresh = (let k = f.fresh in omega arith);
      pending = All-weaker (IsOwnAsk written log s.plan.target) (IsOwnAsk written log plan.target) (λ a own. record { has = own.has; start = own.start ∙ sym start; end = (let k = own.end in omega arith); within = own.within }) s.pending f.pending;
      rests = All-weaker (IsWithin s.plan.target) (IsWithin plan.target) (λ r w. record { least = (let k = w.least in omega arith); some = w.some; most = (let k = w.most in omega arith) }) s.rests f.rests;
      rises = f.rises;
      drawn = f.drawn;
      kept = All-weaker (IsOwn log s.plan.target) (IsOwn log plan.target) (λ p o. record { least = (let k = o.least in omega arith); most = (let k = o.most in omega arith); own = o.own }) s.kept f.kept;
      nodes = All-weaker (HasNodes written log s.plan.target s.pinned) (HasNodes written log plan.target s.pinned) (λ p n q. n (q ∙ start) ∙ ap (λ (k : ℕ). log_peaks_at sha256 written log k) (sym start)) s.kept f.nodes;
    }

-- what was heeded
record Heard {Op : Type 0} (s v : State Op) : Type 0 where
  plan : Plan
  rest : List (Option Target)
  heard : heeded (is_whole s) s.plan s.updates ≡ Ok (plan, rest)
  is : v ≡ record s { plan = plan; updates = rest }

heard_ok : {Op : Type 0} (s v : State Op) (r : Result (Plan × List (Option Target)) Target) → heeded (is_whole s) s.plan s.updates ≡ r → heeded_by s r ≡ Ok v → Heard s v
heard_ok s v (Ok x) h e = record { plan = x.0; rest = x.1; heard = h; is = cc e }
heard_ok s v (Err target) h e = absurd (cc e)

heard_err : {Op : Type 0} (s : State Op) (offence : Offence) (r : Result (Plan × List (Option Target)) Target) → heeded (is_whole s) s.plan s.updates ≡ r → heeded_by s r ≡ Err offence → (target : Target) × (heeded (is_whole s) s.plan s.updates ≡ Err target) × (offence ≡ StaleUpdate target)
heard_err s offence (Ok x) h e = absurd (cc e)
heard_err s offence (Err target) h e = (target, h, cc e)

-- a session that heeds the next answer goes on, and its pending asks stay
pub heeds_on : {Op : Type 0} (written : Op → List ℕ) (log : LogView Op) (left : List (Option Target)) (s v : State Op) → Follows written log s → Foresees written log left s.plan s.updates → length left ≤ length v.updates → updated s ≡ Ok v → Follows written log v × Foresees written log left v.plan v.updates × (v.pending ≡ s.pending)
heeds_on {Op} written log left s v f g few e =
    let k = heard_ok s v (heeded (is_whole s) s.plan s.updates) refl e in
    let t = heeded_so (is_whole s) s.plan k.plan s.updates k.rest k.heard in
    let less : length left ≤ length k.rest = subst (λ (u : State Op). length left ≤ length u.updates) k.is few in
    let on : Onward written log left k.plan k.rest = onward_took written log left s.plan k.plan t.0 s.updates k.rest f.has g t.1 t.2 less in
    let next : State Op = record s { plan = k.plan; updates = k.rest } in
    let follows : Follows written log next = follows_later written log s k.plan k.rest f (took_keeps s.plan k.plan t.0 t.2) on.has in
    subst (λ (u : State Op). Follows written log u × Foresees written log left u.plan u.updates × (u.pending ≡ s.pending)) (sym k.is) (follows, on.foresees, refl)

-- and refuses none
pub heeds_well : {Op : Type 0} (written : Op → List ℕ) (log : LogView Op) (left : List (Option Target)) (s : State Op) (offence : Offence) (rest : List (Option Target)) → Foresees written log left s.plan s.updates → length left ≤ length rest → s.updates ≡ refused_in offence ++ rest → updated s ≡ Err offence → ⊥
heeds_well {Op} written log left s offence rest g few is e =
    let k = heard_err s offence (heeded (is_whole s) s.plan s.updates) refl e in
    let t = refused_so (is_whole s) s.plan s.updates k.0 k.1 in
    let all : s.updates ≡ Some k.0 ∷ rest = is ∙ ap (λ (o : Offence). refused_in o ++ rest) k.2 in
    let fresh : is_stale s.plan k.0 ≡ false = foreseen_fresh written log left s.plan s.updates rest k.0 g all few in
    (let stale : is_stale s.plan k.0 ≡ true = t.2 in let q : true ≡ false = sym stale ∙ fresh in cc)

module _ {Op : Type 0} (read : List ℕ → Parsed Op) (written spelling : Op → List ℕ) (sound : Op → Type 0) (sent : AreSent read written spelling sound) (held : LogData) (first : Target) (h : Serves written sound held first) where
  -- the answer to an ask
  abbrev pub answer_to : Ask → GetOperationsResponse Op
  answer_to a = answer_of written h.log a.target a.number a.range (answer_count h.log a.target a.range)

  abbrev pub answer_body : Ask → List ℕ
  answer_body a = message_written written (messages.GetOperationsResponse (answer_to a))

  -- a reply that is owed is one frame, of the answer
  owed_whole : (target : Target) (a : Ask) → IsOwnAsk written h.log target a → a.number < 2 ^ 64 → front 10485760 (owed_to held a) ≡ Whole (answer_body a) []
  owed_whole target a own small =
      let w = own.within in
      let k : Serves written sound held a.target = serves_for written sound held first a.target h own.has in
      let frame : owed_to held a ≡ string_written (answer_body a) = frame_is written sound held a.target a.number a.range k w.least w.some w.most in
      let short = answer_is_short read written sound sent.laws sent.short held a.target a.number a.range k w.least w.some w.most small in
      ap (front 10485760) (frame ∙ sym (append-nil (string_written (answer_body a)))) ∙ framed 10485760 (answer_body a) [] short (lit≤ tt)

  good_here : (target : Target) (a : Ask) → IsOwnAsk written h.log target a → good (range_ok sha256 spelling a.target.root a.target.end) target.start a.range (answer_to a) ≡ true
  good_here target a own =
      let w = own.within in
      let k : Serves written sound held a.target = serves_for written sound held first a.target h own.has in
      let one : good (range_ok sha256 written a.target.root a.target.end) a.target.start a.range (answer_to a) ≡ true = answer_is_good written sound held a.target a.number a.range k w.least w.some w.most in
      subst (λ (f : Op → List ℕ). good (range_ok sha256 f a.target.root a.target.end) target.start a.range (answer_to a) ≡ true) sent.same
      (subst (λ (n : ℕ). good (range_ok sha256 written a.target.root a.target.end) n a.range (answer_to a) ≡ true) own.start one)

  -- the session takes it, and then heeds the next answer on a later target
  pub taken_is : (s : State Op) (i : ℕ) (a : Ask) → Follows written h.log s → slice_get s.pending i ≡ Some a → take_frame (rules_for read written spelling) s (answer_body a) ≡ updated (with_answer a (answer_to a) s)
  unfolding take_frame
  taken_is s i a f e =
      let own : IsOwnAsk written h.log s.plan.target a = All-at (IsOwnAsk written h.log s.plan.target) s.pending i a f.pending e in
      let w = own.within in
      let k : Serves written sound held a.target = serves_for written sound held first a.target h own.has in
      let small : a.number < 2 ^ 64 = All-at (λ (b : Ask). b.number < 2 ^ 64) s.pending i a f.drawn.small e in
      let rules : Rules Op = rules_for read written spelling in
      let m : Message Op = messages.GetOperationsResponse (answer_to a) in
      let one : all_of (message_at read) (answer_body a) ≡ Ok m = answer_is_read read written sound sent.laws sent.short held a.target a.number a.range k w.least w.some w.most small in
      let two : ask_under a.number s.pending ≡ Some a = ap (λ (o : Option ℕ). option_and_then (λ j. slice_get s.pending j) o) (place_is s.pending i a f.rises e) ∙ e in
      let three : good (rules.proved a.target) s.plan.target.start a.range (answer_to a) ≡ true = good_here s.plan.target a own in
      ap (taken rules s) one ∙ (ap (taken_by rules s m) two ∙ rw three refl)

  nodes_either : (begins : Bool) (a : Ask) (s : State Op) → (a.range.start == s.plan.target.start) ≡ begins → Follows written h.log s
      → All (HasNodes written h.log s.plan.target (if begins then nodes_of (pinned_for begins (log_peaks_at sha256 written h.log a.range.start)) else s.pinned)) s.kept
      × HasNodes written h.log s.plan.target (if begins then nodes_of (pinned_for begins (log_peaks_at sha256 written h.log a.range.start)) else s.pinned) (record { at = a.range.start; ops = (answer_to a).operations })
  nodes_either true a s t f =
      let e : a.range.start ≡ s.plan.target.start = eqb-true a.range.start s.plan.target.start t in
      let is : log_peaks_at sha256 written h.log a.range.start ≡ log_peaks_at sha256 written h.log s.plan.target.start = ap (λ k. log_peaks_at sha256 written h.log k) e in
      (All-weaker (IsOwn h.log s.plan.target) (HasNodes written h.log s.plan.target (log_peaks_at sha256 written h.log a.range.start)) (λ p o q. is) s.kept f.kept, λ q. is)
  nodes_either false a s t f =
      (f.nodes, λ q. absurd (let k : (a.range.start == s.plan.target.start) ≡ true = eq-eqb a.range.start s.plan.target.start q in cc))

  -- and what it has asked and kept then is the log's
  pub follows_on : (s : State Op) (i : ℕ) (a : Ask) → Follows written h.log s → slice_get s.pending i ≡ Some a
      → Follows written h.log (with_answer a (answer_to a) s) × ((with_answer a (answer_to a) s).pending ≡ remove s.pending i)
  follows_on s i a f e =
      let own : IsOwnAsk written h.log s.plan.target a = All-at (IsOwnAsk written h.log s.plan.target) s.pending i a f.pending e in
      let w = own.within in
      let w0 : IsWithin s.plan.target a.range = ask_within written h.log s.plan.target a own in
      let k : Serves written sound held a.target = serves_for written sound held first a.target h own.has in
      let some = served_some written sound held a.target a.number a.range k w.least w.some w.most in
      let many : length (answer_to a).operations ≡ answer_count h.log a.target a.range = served_length written sound held a.target a.number a.range k w.least w.some w.most in
      let left : without_at (place_of a.number s.pending) s.pending ≡ remove s.pending i = ap (λ (o : Option ℕ). without_at o s.pending) (place_is s.pending i a f.rises e) in
      let piece : Piece Op = record { at = a.range.start; ops = (answer_to a).operations } in
      let kept : IsOwn h.log s.plan.target piece = record {
        least = w0.least;
        most = (let l = w0.most in let n = some.1 in let z = w0.some in omega arith);
        own = ap (λ n. log_range h.log a.range.start n) (sym many);
      } in
      let nodes = subst (λ (n : ℕ).
      All (HasNodes written h.log s.plan.target (if a.range.start == s.plan.target.start then nodes_of (pinned_for (a.range.start == n) (log_peaks_at sha256 written h.log a.range.start)) else s.pinned)) s.kept
      × HasNodes written h.log s.plan.target (if a.range.start == s.plan.target.start then nodes_of (pinned_for (a.range.start == n) (log_peaks_at sha256 written h.log a.range.start)) else s.pinned) piece)
      (sym own.start) (nodes_either (a.range.start == s.plan.target.start) a s refl f) in
      let pinned = if a.range.start == s.plan.target.start then nodes_of (answer_to a).pinned_nodes else s.pinned in (
        record {
          batch = f.batch;
          many = f.many;
          has = f.has;
          fresh = f.fresh;
          pending = subst (λ (l : List Ask). All (IsOwnAsk written h.log s.plan.target) l) (sym left) (All-without (IsOwnAsk written h.log s.plan.target) s.pending i f.pending);
          rests = All-append (IsWithin s.plan.target) s.rests (rest_of a.range (length (answer_to a).operations)) f.rests (rest_within s.plan.target a.range (length (answer_to a).operations) (nat_lt (a.range.start + length (answer_to a).operations) a.range.end) refl w0);
          rises = subst (λ (l : List Ask). Rises 0 l) (sym left) (Rises-remove 0 s.pending i f.rises);
          drawn = subst (λ (l : List Ask). AreDrawn s.next l) (sym left) (drawn_less s.next s.pending i f.drawn);
          kept = All-push (IsOwn h.log s.plan.target) s.kept piece f.kept kept;
          nodes = All-push (HasNodes written h.log s.plan.target pinned) s.kept piece nodes.0 nodes.1;
        },
        left,
      )

  -- ---- bytes of the one reply in delivery

  begun_whole : (target : Target) (asks : List Ask) (now : Option Service) (bytes : List ℕ) (b : Begun held asks now bytes) → All (IsOwnAsk written h.log target) asks → All (λ (a : Ask). a.number < 2 ^ 64) asks → front 10485760 (bytes ++ b.left) ≡ Whole (answer_body b.ask) []
  begun_whole target asks now bytes b within small =
      ap (front 10485760) b.parts ∙ owed_whole target b.ask (All-at (IsOwnAsk written h.log target) asks b.place b.ask within b.at) (All-at (λ (a : Ask). a.number < 2 ^ 64) asks b.place b.ask small b.at)

  nil_parts : (a b : List ℕ) → [] ≡ a ++ b → (a ≡ []) × (b ≡ [])
  nil_parts [] b e = (refl, sym e)
  nil_parts (x ∷ a) b e = absurd (cc e)

  some_left : (left : List ℕ) → (left ≡ [] → ⊥) → 0 < length left
  some_left [] h = absurd (h refl)
  some_left (x ∷ xs) h = omega arith

  -- a whole frame that is held is a whole reply, and nothing of another is held
  pub whole_is : (target : Target) (asks : List Ask) (now : Option Service) (bytes body rest : List ℕ) → All (IsOwnAsk written h.log target) asks → All (λ (a : Ask). a.number < 2 ^ 64) asks → Midway held asks now bytes → front 10485760 bytes ≡ Whole body rest
      → (i : ℕ) × (a : Ask) × (slice_get asks i ≡ Some a) × (body ≡ answer_body a) × (rest ≡ []) × (now ≡ Some (awaited held (remove asks i)))
  whole_is target asks now bytes body rest within small (inl n) e = absurd (let x : Short ≡ Whole body rest = sym (ap (front 10485760) n.0 ∙ front_none) ∙ e in cc)
  whole_is target asks now bytes body rest within small (inr b) e =
      let m : Whole (answer_body b.ask) [] ≡ Whole body (rest ++ b.left) = sym (begun_whole target asks now bytes b within small) ∙ front_more 10485760 bytes b.left body rest e in
      let same : answer_body b.ask ≡ body = cc in
      let none : [] ≡ rest ++ b.left = cc in
      let both = nil_parts rest b.left none in
      (b.place, b.ask, b.at, sym same, both.0, b.told ∙ ap (λ (l : List ℕ). Some (record { log = held; delivering = l; waiting = map (owed_to held) (remove asks b.place) })) both.1)

  -- no bad length comes
  pub none_bad : (target : Target) (asks : List Ask) (now : Option Service) (bytes : List ℕ) (fault : FrameError) → All (IsOwnAsk written h.log target) asks → All (λ (a : Ask). a.number < 2 ^ 64) asks → Midway held asks now bytes → front 10485760 bytes ≡ Bad fault → ⊥
  none_bad target asks now bytes fault within small (inl n) e = let x : Short ≡ Bad fault = sym (ap (front 10485760) n.0 ∙ front_none) ∙ e in cc
  none_bad target asks now bytes fault within small (inr b) e = let x : Whole (answer_body b.ask) [] ≡ Bad fault = sym (begun_whole target asks now bytes b within small) ∙ front_still 10485760 fault bytes b.left e in cc

  ask_at : (asks : List Ask) (i : ℕ) (reply : List ℕ) → slice_get (map (owed_to held) asks) i ≡ Some reply → (a : Ask) × (slice_get asks i ≡ Some a) × (owed_to held a ≡ reply)
  ask_at [] i reply e = absurd (cc e)
  ask_at (a ∷ others) zero reply e = (a, refl, cc e)
  ask_at (a ∷ others) (suc i) reply e = ask_at others i reply e

  -- a recv gives at least one byte of the reply in delivery
  pub goes_midway : (target : Target) (asks : List Ask) (mid now : Option Service) (bytes buffer : List ℕ) (n : ℕ) → All (IsOwnAsk written h.log target) asks → All (λ (a : Ask). a.number < 2 ^ 64) asks → 0 < length asks → Midway held asks mid bytes → front 10485760 bytes ≡ Short → 0 < length buffer → ServiceReceived mid now (Ok n) buffer
      → (0 < n) × Midway held asks now (bytes ++ take n buffer)
  goes_midway target asks mid now bytes buffer n within small some (inl h0) e room r =
      let r' : Receives (awaited held asks) now n buffer = subst (λ (m : Option Service). ServiceReceived m now (Ok n) buffer) h0.1 r in
      let waits : 0 < length (map (owed_to held) asks) = rw (length-map asks (owed_to held)) some in
      let b = r'.begins room refl waits in
      let k = ask_at asks b.1.place b.1.reply b.1.owed in
      let g : Goes (record { log = held; delivering = b.1.reply; waiting = remove (map (owed_to held) asks) b.1.place }) now n buffer = subst (λ (t : Service). Goes t now n buffer) b.1.begun b.2 in
      let parts : (bytes ++ take n buffer) ++ drop n b.1.reply ≡ b.1.reply =
      ap (λ (x : List ℕ). (x ++ take n buffer) ++ drop n b.1.reply) h0.0 ∙ (ap (λ (x : List ℕ). x ++ drop n b.1.reply) g.bytes ∙ take-append-drop n b.1.reply) in (
        g.some,
        inr (record {
          place = b.1.place;
          ask = k.0;
          left = drop n b.1.reply;
          at = k.1;
          parts = parts ∙ sym k.2;
          told = g.left ∙ ap (λ (l : List (List ℕ)). Some (record { log = held; delivering = drop n b.1.reply; waiting = l })) (sym (map-remove (owed_to held) asks b.1.place));
        }),
      )
  goes_midway target asks mid now bytes buffer n within small some (inr b) e room r =
      let r' : Receives (record { log = held; delivering = b.left; waiting = map (owed_to held) (remove asks b.place) }) now n buffer = subst (λ (m : Option Service). ServiceReceived m now (Ok n) buffer) b.told r in
      let more : 0 < length b.left = some_left b.left (λ q. let x : Whole (answer_body b.ask) [] ≡ Short = sym (begun_whole target asks mid bytes b within small) ∙ (ap (front 10485760) (ap (λ (l : List ℕ). bytes ++ l) q ∙ append-nil bytes) ∙ e) in cc) in
      let g = r'.goes_on room more in
      let parts : (bytes ++ take n buffer) ++ drop n b.left ≡ owed_to held b.ask =
      append_assoc bytes (take n buffer) (drop n b.left) ∙ (ap (λ (x : List ℕ). bytes ++ x) (ap (λ (x : List ℕ). x ++ drop n b.left) g.bytes ∙ take-append-drop n b.left) ∙ b.parts) in
      (g.some, inr (record { place = b.place; ask = b.ask; left = drop n b.left; at = b.at; parts = parts; told = g.left }))

-- ---- the end

-- a kept piece stands in the log's own range
own_stands : {Op : Type 0} (log : LogView Op) (target : Target) (p : Piece Op) → log.front ≤ target.start → IsOwn log target p → Stands target.start (log_range log target.start (target.end - target.start)) p
own_stands {Op} log target p from o =
    let least = o.least in
    let most = o.most in
    let k = p.at - target.start in
    let n = length p.ops in
    let ops = drop (target.start - log.front) log.ops in
    let place : target.start - log.front + k ≡ p.at - log.front = omega arith in
    let all : target.end - target.start ≡ k + (target.end - p.at) = omega arith in
    let cut : drop k (take (target.end - target.start) ops) ≡ take (target.end - p.at) (drop k ops) = ap (λ m. drop k (take m ops)) all ∙ drop-take k (target.end - p.at) ops in
    let short : take n (take (target.end - p.at) (drop k ops)) ≡ take n (drop k ops) = take-within n (target.end - p.at) (drop k ops) (omega arith) in
    let moved : drop k ops ≡ drop (p.at - log.front) log.ops = drop-drop k (target.start - log.front) log.ops ∙ ap (λ m. drop m log.ops) place in
    (least, ap (take n) cut ∙ (short ∙ (ap (take n) moved ∙ sym o.own)))
  where
    take-within : {X : Type 0} (n m : ℕ) (xs : List X) → n ≤ m → take n (take m xs) ≡ take n xs
    take-within n m xs le = take-take n m xs le

pub own_part : {Op : Type 0} (written : Op → List ℕ) (log : LogView Op) (target : Target) (kept : List (Piece Op)) → log.front ≤ target.start → target.end ≤ log_size log → target.start ≤ target.end → All (IsOwn log target) kept → size_of_pieces kept ≡ target.end - target.start
    → Assembles target.start kept (log_range log target.start (target.end - target.start))
own_part {Op} written log target kept from to order all size =
    let room : target.end - target.start ≤ length (drop (target.start - log.front) log.ops) = omega (arith, length-drop (target.start - log.front) log.ops) in (
      length-take-le (target.end - target.start) (drop (target.start - log.front) log.ops) room ∙ sym size,
      All-weaker (IsOwn log target) (Stands target.start (log_range log target.start (target.end - target.start))) (λ p o. own_stands log target p from o) kept all,
    )

-- the pinned nodes are the log's own
pub own_nodes : {Op : Type 0} (written : Op → List ℕ) (log : LogView Op) (target : Target) (nodes : List (List ℕ)) (kept : List (Piece Op)) → All (IsOwn log target) kept → All (HasNodes written log target nodes) kept → 0 < in_pieces target.start kept → nodes ≡ log_peaks_at sha256 written log target.start
own_nodes written log target nodes [] all has some = absurd (omega arith)
own_nodes {Op} written log target nodes (p ∷ ps) all has some = elim (cases_lt target.start p.at) [
  | inl behind ↦
      let a : inside target.start p.at (p.at + length p.ops) ≡ 0 = inside_before target.start p.at (p.at + length p.ops) behind in
      let b : in_pieces target.start (p ∷ ps) ≡ inside target.start p.at (p.at + length p.ops) + in_pieces target.start ps = sum_by-cons (λ (q : Piece Op). inside target.start q.at (q.at + length q.ops)) p ps in
      own_nodes written log target nodes ps (All-tail (IsOwn log target) p ps all) (All-tail (HasNodes written log target nodes) p ps has) (omega arith)
  | inr here ↦ (All-head (HasNodes written log target nodes) p ps has) (let o = All-head (IsOwn log target) p ps all in let l = o.least in omega arith)
]

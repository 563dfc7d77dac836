-- Turns of a session over a link that serves: what an ask, bytes, a frame and the end do.
use Rattle.std.proofs.Common.{◌≡◌, ℕ, zero, suc, ◌-◌, ◌<◌, ◌≤◌, ◌⊎◌, Bool, true, false, nat_lt, List, [], ◌∷◌, ◌++◌, length, Option, Some, None, Ok, Err, inl, inr, refl, sym, ap, subst, ◌∙◌, arith}
use Rattle.std.specs.Prelude.{◌==◌, remove}
use Rattle.std.specs.declared.ops.Range.{Range}
use Rattle.std.proofs.lemmas.Bool.{cases_Bool, eq-eqb}
use Rattle.std.proofs.lemmas.Bool.Decides.{nat_tests}
use Rattle.std.proofs.lemmas.List.{length-map}
use Rattle.ledger_codec.specs.Parsing.{Parsed}
use Rattle.ledger_codec.specs.Frames.{Whole, Short, front}
use Rattle.ledger_log.specs.View.{LogView}
use Rattle.ledger_log.specs.declared.target.Target.{Target}
use Rattle.sync_net.specs.Core.{LogData}
use Rattle.sync_net.specs.Service.{Service, service_sent}
use Rattle.sync_net.specs.View.{MachineView}
use Rattle.sync_net.specs.Wire.{Wire}
use Rattle.sync_client.specs.declared.asked.Asked.{Asked}
use Rattle.sync_client.specs.Turns.{Receives}
use Rattle.sync_client.specs.declared.fault.SyncFault.{SyncFault}
use Rattle.sync_client.specs.declared.fault.SyncFault.TheVariants as faults
use Rattle.sync_client.specs.Asking.{Plan, range_next}
use Rattle.sync_client.specs.Collected.{Collected, ranges_of}
use Rattle.sync_client.specs.Session.{Ask, State, rules_for, Offence, InvalidResponse, UnexpectedResponse, Server, InvalidProof, TooManyStrays, StaleUpdate, refused_in, Nothing, numbered, sending, ask_next, frame_of, take_frame, with_answer, updated, is_whole}
use Rattle.sync_client.specs.Seen.{Beside, seen, asks_of, Paired}
use Rattle.sync_client.specs.Serving.{Serves}
use Rattle.sync_client.specs.Steps.{Made, AsksNext, OffendsIn, TakesNext}
use Rattle.sync_client.specs.Tiles.{Tiles, size_of_pieces, size_of_ranges}
use Rattle.sync_client.specs.Owing.{AreSent, Follows, Foresees, IsOwed, IsServed, MayStop, Gives, awaited, Midway}
use Rattle.sync_client.proofs.Tiling.{no_ranges}
use Rattle.sync_client.proofs.Pairs.{asks_length, same_lengths}
use Rattle.sync_client.proofs.ServingSteps.{asks_on, asks_keep}
use Rattle.sync_client.proofs.ServingTakes.{answer_to, taken_is, follows_on, heeds_on, heeds_well, whole_is, none_bad, goes_midway}

-- ---- an ask is pending while the range isn't whole

none_sent : {Op : Type 0} (s : State Op) (r : Range ℕ) (rests : List (Range ℕ)) (fresh : ℕ) (o : Option ℕ) → numbered s r rests fresh o ≡ Nothing → ⊥
none_sent s r rests fresh None e = cc e
none_sent s r rests fresh (Some n) e = cc e

none_to_send : {Op : Type 0} (s : State Op) (o : Option (Range ℕ × List (Range ℕ) × ℕ)) → sending s o ≡ Nothing → o ≡ None
none_to_send s None e = refl
none_to_send s (Some x) e = absurd (none_sent s x.0 x.1 x.2 s.next e)

nothing_left : {Op : Type 0} (s : State Op) (rests : List (Range ℕ)) → range_next s.plan rests s.fresh ≡ None → (length rests ≡ 0) × (s.plan.target.end ≤ s.fresh)
nothing_left s (r ∷ rests) e = absurd (cc e)
nothing_left s [] e = elim (cases_Bool (nat_lt s.fresh s.plan.target.end)) [
  | inl lt ↦ let q = rw lt at e in absurd (cc q)
  | inr ge ↦ let k : s.plan.target.end ≤ s.fresh = grind (arith, nat_tests) in (refl, k)
]

all_sent : {Op : Type 0} (s : State Op) → length s.pending ≡ 0 → 0 < s.plan.limits.outstanding → ask_next s ≡ Nothing → (length s.rests ≡ 0) × (s.plan.target.end ≤ s.fresh)
unfolding ask_next
all_sent s none many e =
    let t : nat_lt (length s.pending) s.plan.limits.outstanding ≡ true = grind (arith, nat_tests) in
    let q = rw t at e in
    nothing_left s s.rests (none_to_send s (range_next s.plan s.rests s.fresh) q)

pub some_pending : {Op : Type 0} (m : MachineView) (c : Collected Op) (b : Beside) → Tiles c → Paired m c → 0 < c.plan.limits.outstanding → ask_next (seen m c b) ≡ Nothing → is_whole (seen m c b) ≡ false → 0 < length (asks_of m.pending c.pending)
unfolding is_whole
some_pending {Op} m c b tiles paired many nothing more = pick (length (asks_of m.pending c.pending)) refl
  where
    pick : (n : ℕ) → length (asks_of m.pending c.pending) ≡ n → 0 < length (asks_of m.pending c.pending)
    pick (suc n) e = omega arith
    pick zero e =
        let left = all_sent (seen m c b) e many nothing in
        let asked : length (asks_of m.pending c.pending) ≡ length c.pending = asks_length m.pending c.pending (same_lengths m c paired) in
        let pend : length (ranges_of c.pending) ≡ 0 = length-map c.pending (λ (a : Asked). a.range) ∙ (sym asked ∙ e) in
        let x : size_of_ranges (ranges_of c.pending) ≡ 0 = no_ranges (ranges_of c.pending) pend in
        let y : size_of_ranges c.rests ≡ 0 = no_ranges c.rests left.0 in
        let total = tiles.total in
        let to_end = tiles.to_end in
        let behind : c.plan.target.end ≤ c.fresh = left.1 in
        let whole : size_of_pieces c.kept ≡ c.plan.target.end - c.plan.target.start = omega arith in
        let t : (size_of_pieces c.kept == c.plan.target.end - c.plan.target.start) ≡ true = eq-eqb _ _ whole in
        absurd (let n : false ≡ true = sym more ∙ t in cc)

-- nothing may be sent, and nothing changed
pub none_next : {Op : Type 0} (written : Op → List ℕ) (m n : MachineView) (c d : Collected Op) (b : Beside) → AsksNext (Ok None) written m n c d → ask_next (seen n d b) ≡ Nothing
none_next written m n c d b e = ap (λ (v : MachineView). ask_next (seen v d b)) e.1 ∙ (ap (λ (v : Collected _). ask_next (seen m v b)) e.2 ∙ e.0 b)

pub none_served : {Op : Type 0} (written : Op → List ℕ) (held : LogData) (log : LogView Op) (left : List (Option Target)) (m n : MachineView) (c d : Collected Op) (b : Beside) (now : Option Service) → AsksNext (Ok None) written m n c d
    → IsServed written held log left (seen m c b) m.held m.closed now → IsServed written held log left (seen n d b) n.held n.closed now
none_served written held log left m n c d b now e i =
    subst (λ (v : MachineView). IsServed written held log left (seen v d b) v.held v.closed now) (sym e.1) (subst (λ (v : Collected _). IsServed written held log left (seen m v b) m.held m.closed now) (sym e.2) i)

-- nothing of a reply is held at first
pub first_midway : {Op : Type 0} (written : Op → List ℕ) (held : LogData) (log : LogView Op) (left : List (Option Target)) (m : MachineView) (c : Collected Op) (b : Beside) (now : Option Service) → IsServed written held log left (seen m c b) m.held m.closed now
    → Midway held (asks_of m.pending c.pending) now m.held
first_midway written held log left m c b now i = inl (i.empty, i.owed)

-- what a receive may answer
pub recv_faults : (m n : MachineView) (fault : SyncFault) (wire now : Option Wire) (count risen : ℕ) → Receives (Err fault) m n wire now count risen → MayStop fault ⊎ (fault ≡ faults.RequestChannelClosed)
recv_faults m n faults.Network wire now count risen r = inl tt
recv_faults m n faults.RequestChannelClosed wire now count risen r = inr refl
recv_faults m n faults.OutOfMemory wire now count risen r = inl tt
recv_faults m n faults.Closed wire now count risen r = absurd r
recv_faults m n faults.Exhausted wire now count risen r = absurd r
recv_faults m n faults.InvalidResponse wire now count risen r = absurd r
recv_faults m n (faults.UnexpectedResponse number) wire now count risen r = absurd r
recv_faults m n (faults.Server code text) wire now count risen r = absurd r
recv_faults m n (faults.InvalidProof number) wire now count risen r = absurd r
recv_faults m n faults.TooManyStrays wire now count risen r = absurd r
recv_faults m n (faults.StaleUpdate start end) wire now count risen r = absurd r
recv_faults m n (faults.WrongRoot found) wire now count risen r = absurd r

-- a call of ask over an open machine may stop
pub ask_may_stop : {Op : Type 0} (written : Op → List ℕ) (m n : MachineView) (c d : Collected Op) (fault : SyncFault) → AsksNext (Err fault) written m n c d → m.closed ≡ false → MayStop fault
ask_may_stop written m n c d faults.Closed e live = absurd (let k = e.0 in let t : false ≡ true = sym live ∙ k in cc)
ask_may_stop written m n c d faults.Exhausted e live = tt
ask_may_stop written m n c d faults.OutOfMemory e live = tt
ask_may_stop written m n c d faults.Network e live = absurd e
ask_may_stop written m n c d faults.RequestChannelClosed e live = absurd e
ask_may_stop written m n c d faults.InvalidResponse e live = absurd e
ask_may_stop written m n c d (faults.UnexpectedResponse number) e live = absurd e
ask_may_stop written m n c d (faults.Server code text) e live = absurd e
ask_may_stop written m n c d (faults.InvalidProof number) e live = absurd e
ask_may_stop written m n c d faults.TooManyStrays e live = absurd e
ask_may_stop written m n c d (faults.StaleUpdate start end) e live = absurd e
ask_may_stop written m n c d (faults.WrongRoot found) e live = absurd e

module _ {Op : Type 0} (read : List ℕ → Parsed Op) (written spelling : Op → List ℕ) (sound : Op → Type 0) (sent : AreSent read written spelling sound) (held : LogData) (first : Target) (h : Serves written sound held first) where
  -- ---- asks

  -- an ask was made and sent
  pub made_served : (left : List (Option Target)) (m n : MachineView) (c d : Collected Op) (b : Beside) (frame bytes : List ℕ) (now after : Option Service) (x : Unit {0}) → Made frame written m n c d → bytes ≡ frame
      → IsServed written held h.log left (seen m c b) m.held m.closed now → after ≡ service_sent (Ok x) bytes now → IsServed written held h.log left (seen n d b) n.held n.closed after
  made_served left m n c d b frame bytes now after x made e i told =
      let is : bytes ≡ frame_of written made.0 = e ∙ made.1 in
      let r = asks_on read written spelling sound sent held first h (seen m c b) (seen n d b) made.0 now x i.follows i.owed (made.2 b) in
      let k = asks_keep (seen m c b) (seen n d b) made.0 (made.2 b) in
      let moved : after ≡ service_sent (Ok x) (frame_of written made.0) now = told ∙ ap (λ (l : List ℕ). service_sent (Ok x) l now) is in
      let ahead : Foresees written h.log left d.plan b.updates = subst (λ (p : Plan). Foresees written h.log left p b.updates) (sym k.0) i.foresees in
      record { follows = r.0; foresees = ahead; owed = moved ∙ r.1; empty = made.6 ∙ i.empty; live = made.5 }

  -- ---- bytes

  -- bytes of a reply came
  pub bytes_came : (s : State Op) (m n : MachineView) (now after : Option Service) (x : Unit {0}) → Follows written h.log s → 0 < length s.pending → Midway held s.pending now m.held → front 10485760 m.held ≡ Short → Gives (Ok x) m n now after
      → Midway held s.pending after n.held
  bytes_came s m n now after x f some mid short g =
      let r = goes_midway read written spelling sound sent held first h s.plan.target s.pending now after m.held g.1 g.0 f.pending f.drawn.small some mid short g.2 g.4 in
      subst (λ (l : List ℕ). Midway held s.pending after l) (sym (ap (λ (v : MachineView). v.held) g.3)) r.1

  -- none came
  pub bytes_may_stop : (s : State Op) (m n : MachineView) (now after : Option Service) (fault : SyncFault) → Follows written h.log s → 0 < length s.pending → Midway held s.pending now m.held → front 10485760 m.held ≡ Short → Gives (Err fault) m n now after → (MayStop fault ⊎ (fault ≡ faults.RequestChannelClosed))
      → MayStop fault
  bytes_may_stop s m n now after fault f some mid short g (inl k) = k
  bytes_may_stop s m n now after fault f some mid short g (inr e) =
      let q : Gives (Err faults.RequestChannelClosed) m n now after = subst (λ (x : SyncFault). Gives (Err x) m n now after) e g in
      let r = goes_midway read written spelling sound sent held first h s.plan.target s.pending now after m.held q.0 0 f.pending f.drawn.small some mid short q.1 q.2 in
      absurd (let z = r.0 in omega arith)

  -- ---- frames

  -- a whole frame is the answer to a pending ask
  took_whole : (left : List (Option Target)) (s v : State Op) (now : Option Service) (bytes body rest : List ℕ) → Follows written h.log s → Foresees written h.log left s.plan s.updates → length left ≤ length v.updates → Midway held s.pending now bytes → front 10485760 bytes ≡ Whole body rest
      → take_frame (rules_for read written spelling) s body ≡ Ok v → Follows written h.log v × Foresees written h.log left v.plan v.updates × IsOwed held v now × (rest ≡ [])
  took_whole left s v now bytes body rest f ahead few mid e took =
      let w = whole_is read written spelling sound sent held first h s.plan.target s.pending now bytes body rest f.pending f.drawn.small mid e in
      let one = taken_is read written spelling sound sent held first h s w.0 w.1 f w.2 in
      let two = follows_on read written spelling sound sent held first h s w.0 w.1 f w.2 in
      let next : State Op = with_answer w.1 (answer_to read written spelling sound sent held first h w.1) s in
      let is : updated next ≡ Ok v = sym one ∙ (ap (take_frame (rules_for read written spelling) s) (sym w.3) ∙ took) in
      let on = heeds_on written h.log left next v two.0 ahead few is in
      let pending : remove s.pending w.0 ≡ v.pending = sym two.1 ∙ sym on.2 in
      (on.0, on.1, w.5 ∙ ap (λ (l : List Ask). Some (awaited held l)) pending, w.4)

  -- the next frame was taken: `s` is what the machine and the collector were before
  pub took_served : (left : List (Option Target)) (s : State Op) (m n : MachineView) (c d : Collected Op) (b e : Beside) (now : Option Service) → seen m c b ≡ s → Follows written h.log s → Foresees written h.log left s.plan s.updates → length left ≤ length e.updates → Midway held s.pending now m.held
      → TakesNext (Ok true) (rules_for read written spelling) m n c d b e → IsServed written held h.log left (seen n d e) n.held n.closed now
  took_served left s m n c d b e now is f ahead few mid t =
      let took : take_frame (rules_for read written spelling) s t.0 ≡ Ok (seen n d e) = ap (λ (u : State Op). take_frame (rules_for read written spelling) u t.0) (sym is) ∙ t.2 in
      let r = took_whole left s (seen n d e) now m.held t.0 n.held f ahead few mid t.1 took in
      record { follows = r.0; foresees = r.1; owed = r.2; empty = r.3; live = t.5 }

  never_offends : (left : List (Option Target)) (s : State Op) (offence : Offence) (m n : MachineView) (c : Collected Op) (b e : Beside) (closed : Bool) (now : Option Service) → seen m c b ≡ s → Follows written h.log s → Foresees written h.log left s.plan s.updates → length left ≤ length e.updates → Midway held s.pending now m.held
      → OffendsIn (rules_for read written spelling) offence m n c b e closed → ⊥
  never_offends left s offence m n c b e closed now is f ahead few mid o =
      let w = whole_is read written spelling sound sent held first h s.plan.target s.pending now m.held o.0 o.1 f.pending f.drawn.small mid o.2 in
      let one = taken_is read written spelling sound sent held first h s w.0 w.1 f w.2 in
      let two : take_frame (rules_for read written spelling) s o.0 ≡ Err offence = ap (λ (u : State Op). take_frame (rules_for read written spelling) u o.0) (sym is) ∙ o.3 in
      let next : State Op = with_answer w.1 (answer_to read written spelling sound sent held first h w.1) s in
      let three : updated next ≡ Err offence = sym one ∙ (ap (take_frame (rules_for read written spelling) s) (sym w.3) ∙ two) in
      let all : next.updates ≡ refused_in offence ++ e.updates = ap (λ (u : State Op). u.updates) (sym is) ∙ o.6 in
      heeds_well written h.log left next offence e.updates ahead few all three

  -- a fault while taking is want of memory
  pub take_may_stop : (left : List (Option Target)) (s : State Op) (m n : MachineView) (c d : Collected Op) (b e : Beside) (now : Option Service) (fault : SyncFault) → seen m c b ≡ s → Follows written h.log s → Foresees written h.log left s.plan s.updates → length left ≤ length e.updates → Midway held s.pending now m.held → m.closed ≡ false
      → TakesNext (Err fault) (rules_for read written spelling) m n c d b e → MayStop fault
  take_may_stop left s m n c d b e now faults.InvalidResponse is f ahead few mid live t = absurd (never_offends left s InvalidResponse m n c b e true now is f ahead few mid t)
  take_may_stop left s m n c d b e now (faults.UnexpectedResponse number) is f ahead few mid live t = absurd (never_offends left s (UnexpectedResponse number) m n c b e true now is f ahead few mid t)
  take_may_stop left s m n c d b e now (faults.Server code text) is f ahead few mid live t = absurd (never_offends left s (Server code text) m n c b e true now is f ahead few mid t)
  take_may_stop left s m n c d b e now (faults.InvalidProof number) is f ahead few mid live t = absurd (never_offends left s (InvalidProof number) m n c b e false now is f ahead few mid t)
  take_may_stop left s m n c d b e now faults.TooManyStrays is f ahead few mid live t = absurd (never_offends left s TooManyStrays m n c b e false now is f ahead few mid t)
  take_may_stop left s m n c d b e now (faults.StaleUpdate start end) is f ahead few mid live t = absurd (never_offends left s (StaleUpdate t.0) m n c b e false now is f ahead few mid t.3)
  take_may_stop left s m n c d b e now faults.RequestChannelClosed is f ahead few mid live t = absurd (none_bad read written spelling sound sent held first h s.plan.target s.pending now m.held t.0 f.pending f.drawn.small mid t.1)
  take_may_stop left s m n c d b e now faults.Closed is f ahead few mid live t = absurd (let k = t.0 in let z : false ≡ true = sym live ∙ k in cc)
  take_may_stop left s m n c d b e now faults.OutOfMemory is f ahead few mid live t = tt
  take_may_stop left s m n c d b e now faults.Network is f ahead few mid live t = absurd t
  take_may_stop left s m n c d b e now (faults.WrongRoot found) is f ahead few mid live t = absurd t
  take_may_stop left s m n c d b e now faults.Exhausted is f ahead few mid live t = absurd t

-- What a call took off the answers on later targets.
use Rattle.std.proofs.Common.{◌≡◌, ℕ, ◌+◌, ◌<◌, ◌≤◌, true, false, List, [], ◌∷◌, ◌++◌, length, Option, Some, None, Ok, Err, refl, sym, ap, subst, ◌∙◌, arith, append_assoc, length-append, inl, inr}
use Rattle.ledger_log.specs.declared.target.Target.{Target}
use Rattle.ledger_merkle.specs.declared.proof.Part.{Part as Fetched}
use Rattle.sync_net.specs.View.{MachineView}
use Rattle.sync_net.specs.Wire.{Wire}
use Rattle.sync_client.specs.declared.fault.SyncFault.{SyncFault}
use Rattle.sync_client.specs.declared.fault.SyncFault.TheVariants as faults
use Rattle.sync_client.specs.Asking.{LimitsView, Plan, first_plan}
use Rattle.sync_client.specs.Updates.{is_stale, with_target, targets_in, last_of, IsFresh, AreFresh, AreTaken, TakesUpdates}
use Rattle.sync_client.specs.Session.{Ask, State, Rules, started, StaleUpdate}
use Rattle.sync_client.specs.Runs.{Sends, Reaches, Outcome, Complete, Offends}
use Rattle.sync_client.specs.Ending.{Origin, Over, Stopped, Finished, refused_at}
use Rattle.sync_client.proofs.Aiming.{aimed_parts, not_stale, fresh_not, TookOne, Heeded}
use Rattle.sync_client.proofs.Rising.{sending_keeps, taking_keeps, stale_so}

-- ---- lists of answers

targets_push : (took : List (Option Target)) (t : Target) → targets_in (took ++ Some t ∷ []) ≡ targets_in took ++ t ∷ []
targets_push [] t = refl
targets_push (None ∷ took) t = targets_push took t
targets_push (Some u ∷ took) t = ap (λ (l : List Target). u ∷ l) (targets_push took t)

targets_none : (took : List (Option Target)) → targets_in (took ++ None ∷ []) ≡ targets_in took
targets_none [] = refl
targets_none (None ∷ took) = targets_none took
targets_none (Some u ∷ took) = ap (λ (l : List Target). u ∷ l) (targets_none took)

last_push : (first : Target) (targets : List Target) (t : Target) → last_of first (targets ++ t ∷ []) ≡ t
last_push first [] t = refl
last_push first (u ∷ targets) t = last_push u targets t

fresh_push : (first : Target) (targets : List Target) (t : Target) → AreFresh first targets → IsFresh (last_of first targets) t → AreFresh first (targets ++ t ∷ [])
fresh_push first [] t h f = (f, tt)
fresh_push first (u ∷ targets) t h f = (h.0, fresh_push u targets t h.1 f)

-- ---- what was taken so far

-- these answers were taken: what is fetched is what they say
pub record Course (first : Target) (before : List (Option Target)) (plan : Plan) (updates : List (Option Target)) : Type 0 where
  pub took : List (Option Target)
  pub all : before ≡ took ++ updates
  pub count : length (targets_in took) ≡ plan.taken
  pub few : plan.taken ≤ 8
  pub fresh : AreFresh first (targets_in took)
  pub low : plan.low ≡ (last_of first (targets_in took)).start
  pub start : plan.target.start ≡ first.start
  pub root : plan.target.root ≡ (last_of first (targets_in took)).root
  pub end : plan.target.end ≡ (last_of first (targets_in took)).end

course_first : (first : Target) (limits : LimitsView) (before : List (Option Target)) → Course first before (first_plan first limits) before
course_first first limits before = record { took = []; all = refl; count = refl; few = omega arith; fresh = tt; low = refl; start = refl; root = refl; end = refl }

course_none : (first : Target) (before : List (Option Target)) (plan : Plan) (left : List (Option Target)) → Course first before plan (None ∷ left) → Course first before plan left
course_none first before plan left c =
    let same : targets_in (c.took ++ None ∷ []) ≡ targets_in c.took = targets_none c.took in
    record {
      took = c.took ++ None ∷ [];
      all = c.all ∙ sym (append_assoc c.took (None ∷ []) left);
      count = ap length same ∙ c.count;
      few = c.few;
      fresh = subst (λ (l : List Target). AreFresh first l) (sym same) c.fresh;
      low = c.low ∙ ap (λ (l : List Target). (last_of first l).start) (sym same);
      start = c.start;
      root = c.root ∙ ap (λ (l : List Target). (last_of first l).root) (sym same);
      end = c.end ∙ ap (λ (l : List Target). (last_of first l).end) (sym same);
    }

course_some : (first : Target) (before : List (Option Target)) (plan : Plan) (t : Target) (left : List (Option Target)) → is_stale plan t ≡ false → plan.taken < 8 → Course first before plan (Some t ∷ left) → Course first before (with_target plan t) left
course_some first before plan t left fresh few c =
    let n = not_stale plan t fresh in
    let low : plan.low ≤ t.start = n.0 in
    let behind : plan.target.end < t.end = n.1 in
    let order : plan.target.start < plan.target.end = plan.target.ordered in
    let j = aimed_parts plan.target t (omega arith) in
    let same : targets_in (c.took ++ Some t ∷ []) ≡ targets_in c.took ++ t ∷ [] = targets_push c.took t in
    let last : last_of first (targets_in (c.took ++ Some t ∷ [])) ≡ t = ap (last_of first) same ∙ last_push first (targets_in c.took) t in
    let at = c.low in
    let to = c.end in
    let f : IsFresh (last_of first (targets_in c.took)) t = record { start = omega arith; end = omega arith } in
    record {
      took = c.took ++ Some t ∷ [];
      all = c.all ∙ sym (append_assoc c.took (Some t ∷ []) left);
      count = (let a : length (targets_in (c.took ++ Some t ∷ [])) ≡ length (targets_in c.took) + 1 = ap length same ∙ length-append (targets_in c.took) (t ∷ []) in let b = c.count in omega arith);
      few = omega arith;
      fresh = subst (λ (l : List Target). AreFresh first l) (sym same) (fresh_push first (targets_in c.took) t c.fresh f);
      low = ap (λ (x : Target). x.start) (sym last);
      start = j.start ∙ c.start;
      root = j.root ∙ ap (λ (x : Target). x.root) (sym last);
      end = j.end ∙ ap (λ (x : Target). x.end) (sym last);
    }

course_one : (first : Target) (before : List (Option Target)) (plan now : Plan) (took left : List (Option Target)) → TookOne plan took now → Course first before plan (took ++ left) → Course first before now left
course_one first before plan now [] left h c = subst (λ (p : Plan). Course first before p left) (sym h) c
course_one first before plan now (None ∷ []) left h c = subst (λ (p : Plan). Course first before p left) (sym h) (course_none first before plan left c)
course_one first before plan now (Some t ∷ []) left h c = subst (λ (p : Plan). Course first before p left) (sym h.2) (course_some first before plan t left h.0 h.1 c)
course_one first before plan now (None ∷ a ∷ answers) left h c = absurd h
course_one first before plan now (Some t ∷ a ∷ answers) left h c = absurd h

course_on : (first : Target) (before : List (Option Target)) (plan now : Plan) (updates left : List (Option Target)) → Heeded plan updates now left → Course first before plan updates → Course first before now left
course_on first before plan now updates left h c = course_one first before plan now h.0 left h.2 (subst (λ (l : List (Option Target)). Course first before plan l) h.1 c)

course_sends : {Op : Type 0} (first : Target) (before : List (Option Target)) (s t : State Op) (asks : List Ask) → Sends s asks t → Course first before s.plan s.updates → Course first before t.plan t.updates
course_sends first before s t [] h c = subst (λ (v : State _). Course first before v.plan v.updates) h c
course_sends {Op} first before s t (ask ∷ asks) h c =
    let k = sending_keeps s h.0 ask h.1 in
    let one : Course first before h.0.plan h.0.updates = subst (λ (p : Plan). Course first before p h.0.updates) (sym k.plan) (subst (λ (l : List (Option Target)). Course first before s.plan l) (sym k.updates) c) in
    course_sends first before h.0 t asks h.2 one

course_reaches : {Op : Type 0} (first : Target) (before : List (Option Target)) (rules : Rules Op) (s t : State Op) (bodies : List (List ℕ)) (asks : List Ask) → Reaches rules s bodies asks t → Course first before s.plan s.updates → Course first before t.plan t.updates
course_reaches first before rules s t [] asks h c = course_sends first before s t asks h c
course_reaches first before rules s t (body ∷ bodies) asks h c =
    let k = taking_keeps rules h.0 h.1 body h.7 in
    course_reaches first before rules h.1 t bodies h.3 h.9 (course_on first before h.0.plan h.1.plan h.0.updates h.1.updates k.2 (course_sends first before s h.0 h.2 h.4 c))

abbrev taken_of : (first : Target) (before : List (Option Target)) (plan : Plan) (updates now : List (Option Target)) → Course first before plan updates → updates ≡ now → (took : List (Option Target)) × AreTaken first took before now
taken_of first before plan updates now c e = (c.took, record { all = c.all ∙ ap (λ (l : List (Option Target)). c.took ++ l) e; few = (let a = c.count in let b = c.few in omega arith); fresh = c.fresh })

-- ---- calls

module _ {Op : Type 0} (o : Origin Op) (first : Target) (limits : LimitsView) (next : Option ℕ) (before : List (Option Target)) (begins : o.start ≡ started (first_plan first limits) next before) where
  from : Course first before o.start.plan o.start.updates
  from = subst (λ (s : State Op). Course first before s.plan s.updates) (sym begins) (course_first first limits before)

  over_course : (updates : List (Option Target)) (wire : Option Wire) (outcome : Outcome Op) (h : Over o updates wire outcome) → Course first before h.session.last.plan h.session.last.updates
  over_course updates wire outcome h = course_reaches first before o.rules o.start h.session.last h.session.bodies h.asks h.session.reached from

  over_taken : (updates : List (Option Target)) (wire : Option Wire) (outcome : Outcome Op) → refused_at outcome ≡ [] → Over o updates wire outcome → (took : List (Option Target)) × AreTaken first took before updates
  over_taken updates wire outcome none h =
      taken_of first before h.session.last.plan h.session.last.updates updates (over_course updates wire outcome h) (h.left ∙ ap (λ (l : List (Option Target)). l ++ updates) none)

  pub took_so : {X : Type 0} (synced : Target) (part : Fetched Op) (x : X) (m : MachineView) (updates : List (Option Target)) (wire : Option Wire) → Finished o synced part m updates wire → TakesUpdates (Ok (synced, x)) first before updates
  took_so {X} synced part x m updates wire f =
      let c = over_course updates wire (Complete f.last) f.over in
      let t = taken_of first before f.over.session.last.plan f.over.session.last.updates updates c f.over.left in
      let same : synced ≡ f.over.session.last.plan.target = f.target ∙ ap (λ (s : State Op). s.plan.target) f.over.session.ends.0 in (
        t.0,
        t.1,
        record {
          start = ap (λ (x : Target). x.start) same ∙ c.start;
          root = ap (λ (x : Target). x.root) same ∙ c.root;
          end = ap (λ (x : Target). x.end) same ∙ c.end;
        },
      )

  stale_taken : (X : Type 0) (start end : ℕ) (stale : Target) (updates : List (Option Target)) (wire : Option Wire) → start ≡ stale.start → end ≡ stale.end → Over o updates wire (Offends (StaleUpdate stale)) → TakesUpdates {X = X} (Err (faults.StaleUpdate start end)) first before updates
  stale_taken X start end stale updates wire p q h =
      let c = over_course updates wire (Offends (StaleUpdate stale)) h in
      let t = taken_of first before h.session.last.plan h.session.last.updates (Some stale ∷ updates) c h.left in
      let e = h.session.ends in
      let w = stale_so o.rules h.session.last e.2 stale e.5 in
      let few : h.session.last.plan.taken < 8 = w.0 in
      let count = c.count in (
        t.0,
        stale,
        t.1,
        omega arith,
        λ (f : IsFresh (last_of first (targets_in c.took)) stale).
            let a = f.start in
            let b = f.end in
            let low = c.low in
            let to = c.end in
            let no : is_stale h.session.last.plan stale ≡ false = fresh_not h.session.last.plan stale (omega arith) (omega arith) in
            let yes : is_stale h.session.last.plan stale ≡ true = w.1 in
            cc,
        p,
        q,
      )

  pub stopped_took : (X : Type 0) (fault : SyncFault) (m : MachineView) (updates : List (Option Target)) (wire : Option Wire) (count : ℕ) → Stopped o fault m updates wire count → TakesUpdates {X = X} (Err fault) first before updates
  stopped_took X faults.Network m updates wire count h = elim h.2 [
    | inl w ↦ over_taken updates wire _ refl w.0
    | inr s ↦ taken_of first before s.last.plan s.last.updates updates (course_reaches first before o.rules o.start s.last s.bodies s.sent s.reached from) s.left
  ]
  stopped_took X faults.RequestChannelClosed m updates wire count h = over_taken updates wire _ refl h.1
  stopped_took X faults.InvalidResponse m updates wire count h = over_taken updates wire _ refl h.1
  stopped_took X (faults.UnexpectedResponse number) m updates wire count h = over_taken updates wire _ refl h.1
  stopped_took X (faults.Server code text) m updates wire count h = over_taken updates wire _ refl h.1
  stopped_took X (faults.InvalidProof number) m updates wire count h = over_taken updates wire _ refl h.1
  stopped_took X faults.TooManyStrays m updates wire count h = over_taken updates wire _ refl h.1
  stopped_took X (faults.StaleUpdate start end) m updates wire count h = stale_taken X start end h.1 updates wire h.2 h.3 h.4
  stopped_took X (faults.WrongRoot found) m updates wire count h = over_taken updates wire _ refl h.2
  stopped_took X faults.Closed m updates wire count h = taken_of first before o.start.plan o.start.updates updates from (sym h.2)
  stopped_took X faults.Exhausted m updates wire count h = over_taken updates wire _ refl h.2
  stopped_took X faults.OutOfMemory m updates wire count h = taken_of first before h.last.plan h.last.updates updates (course_reaches first before o.rules o.start h.last h.bodies h.sent h.reached from) h.left

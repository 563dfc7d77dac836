-- What a later target, or an answer on one, makes of what is fetched.
use Rattle.std.proofs.Common.{◌≡◌, ℕ, ◌<◌, ◌≤◌, Bool, true, false, ◌||◌, nat_lt, nat_le, List, [], ◌∷◌, ◌++◌, Option, Some, None, Result, Ok, Err, refl, sym, ap, subst, ◌∙◌, arith, inl, inr, if◌then◌else◌}
use Rattle.std.proofs.lemmas.Bool.{cases_Bool, or_parts, lt-ltb, ltb-false, or_from, le-ltb}
use Rattle.std.proofs.lemmas.Bool.Decides.{nat_tests}
use denote.Struct.Props.{props}
use Rattle.ledger_log.specs.declared.target.Target.{Target}
use Rattle.sync_client.specs.Asking.{Plan}
use Rattle.sync_client.specs.Updates.{joined, aimed, is_stale, with_target, heed, heeded, answer_next, answers_left}

-- ---- one target

-- the parts of a target that was joined from two
pub record IsJoinedOf (first later target : Target) : Type 0 where
  pub root : target.root ≡ later.root
  pub start : target.start ≡ first.start
  pub end : target.end ≡ later.end

joined_parts : (first later : Target) (b : Bool) (e : nat_lt first.start later.end ≡ b) → first.start < later.end → IsJoinedOf first later (joined first later b e)
joined_parts first later true e lt = record { root = refl; start = refl; end = refl }
joined_parts first later false e lt = absurd (let t : nat_lt first.start later.end ≡ true = lt-ltb first.start later.end lt in cc)

pub aimed_parts : (first later : Target) → first.start < later.end → IsJoinedOf first later (aimed first later)
aimed_parts first later lt = joined_parts first later (nat_lt first.start later.end) refl lt

-- a target of the same parts is that one
pub same_target : (a b : Target) → a.root ≡ b.root → a.start ≡ b.start → a.end ≡ b.end → a ≡ b
same_target a b p q r = same_parts b.root b.start b.end b.ordered p q r
  where
    same_parts : (root : List ℕ) (start end : ℕ) (ordered : start < end) → a.root ≡ root → a.start ≡ start → a.end ≡ end → a ≡ record { root = root; start = start; end = end; ordered = ordered }
    same_parts root start end ordered p q r =
        subst (λ (k : List ℕ). (s e : ℕ) (o : s < e) → a.start ≡ s → a.end ≡ e → a ≡ record { root = k; start = s; end = e; ordered = o }) p
        (λ s e o q r. subst (λ (k : ℕ). (e : ℕ) (o : k < e) → a.end ≡ e → a ≡ record { root = a.root; start = k; end = e; ordered = o }) q
        (λ e o r. subst (λ (k : ℕ). (o : a.start < k) → a ≡ record { root = a.root; start = a.start; end = k; ordered = o }) r
        (λ o. let u : IsProp (a.start < a.end) = hlevel props in ap (λ (z : a.start < a.end). let w : Target = record { root = a.root; start = a.start; end = a.end; ordered = z } in w) (u a.ordered o)) o) e o r)
        start end ordered q r

-- a target of these parts is the joined one
pub joined_is : (first later target : Target) → first.start < later.end → target.root ≡ later.root → target.start ≡ first.start → target.end ≡ later.end → target ≡ aimed first later
joined_is first later target lt p q r =
    let j = aimed_parts first later lt in
    same_target target (aimed first later) (p ∙ sym j.root) (q ∙ sym j.start) (r ∙ sym j.end)

-- ---- staleness

pub not_stale : (plan : Plan) (later : Target) → is_stale plan later ≡ false → (plan.low ≤ later.start) × (plan.target.end < later.end)
not_stale plan later e =
    let p = or_parts (nat_lt later.start plan.low) (nat_le later.end plan.target.end) e in
    let a = p.0 in
    let b = p.1 in
    ((let k : plan.low ≤ later.start = ltb-false later.start plan.low a in k), (let k : plan.target.end < later.end = grind (arith, nat_tests) in k))

pub fresh_not : (plan : Plan) (later : Target) → plan.low ≤ later.start → plan.target.end < later.end → is_stale plan later ≡ false
fresh_not plan later a b = or_from (nat_lt later.start plan.low) (nat_le later.end plan.target.end) (le-ltb later.start plan.low a) (grind (arith, nat_tests))

-- what a plan keeps
pub record SamePart (before now : Plan) : Type 0 where
  pub start : now.target.start ≡ before.target.start
  pub limits : now.limits ≡ before.limits
  pub rises : before.target.end ≤ now.target.end

pub with_keeps : (plan : Plan) (later : Target) → is_stale plan later ≡ false → SamePart plan (with_target plan later)
with_keeps plan later e =
    let n = not_stale plan later e in
    let order : plan.target.start < plan.target.end = plan.target.ordered in
    let behind : plan.target.end < later.end = n.1 in
    let j = aimed_parts plan.target later (omega arith) in
    record { start = j.start; limits = refl; rises = (let k = j.end in omega arith) }

-- ---- one answer

-- what was taken off the answers at once: nothing, none, or a fresh target
abbrev pub TookOne : Plan → List (Option Target) → Plan → Type 0
TookOne plan [] now = now ≡ plan
TookOne plan (None ∷ []) now = now ≡ plan
TookOne plan (Some later ∷ []) now = (is_stale plan later ≡ false) × (plan.taken < 8) × (now ≡ with_target plan later)
TookOne plan (None ∷ answer ∷ answers) now = ⊥
TookOne plan (Some later ∷ answer ∷ answers) now = ⊥

-- so the next answer was heeded
abbrev pub Heeded : Plan → List (Option Target) → Plan → List (Option Target) → Type 0
Heeded plan before now left = (took : List (Option Target)) × (before ≡ took ++ left) × TookOne plan took now

abbrev plan_of : Plan → Result (Plan × List (Option Target)) Target → Plan
plan_of d (Ok x) = x.0
plan_of d (Err e) = d

abbrev left_of : List (Option Target) → Result (Plan × List (Option Target)) Target → List (Option Target)
left_of d (Ok x) = x.1
left_of d (Err e) = d

abbrev target_of : Target → Result (Plan × List (Option Target)) Target → Target
target_of d (Ok x) = d
target_of d (Err e) = e

heeded_first : (plan now : Plan) (answers left : List (Option Target)) → plan.taken < 8 → heed plan answers ≡ Ok (now, left) → Heeded plan answers now left
heeded_first plan now [] left few e = ([], sym (ap (left_of []) (sym e)), sym (ap (plan_of plan) e))
heeded_first plan now (None ∷ later) left few e = (None ∷ [], ap (λ (l : List (Option Target)). None ∷ l) (ap (left_of later) e), sym (ap (plan_of plan) e))
heeded_first plan now (Some target ∷ later) left few e =
    elim (cases_Bool (is_stale plan target)) [
      | inl stale ↦ let q = rw stale at e in absurd (cc q)
      | inr fresh ↦
          let q = rw fresh at e in
          (Some target ∷ [], ap (λ (l : List (Option Target)). Some target ∷ l) (ap (left_of later) q), (fresh, few, sym (ap (plan_of plan) q)))
    ]

refused_first : (plan : Plan) (answers : List (Option Target)) (target : Target) → heed plan answers ≡ Err target → (left : List (Option Target)) × (answers ≡ Some target ∷ left) × (is_stale plan target ≡ true)
refused_first plan [] target e = absurd (cc e)
refused_first plan (None ∷ later) target e = absurd (cc e)
refused_first plan (Some t ∷ later) target e =
    elim (cases_Bool (is_stale plan t)) [
      | inl stale ↦
          let q = rw stale at e in
          let same : t ≡ target = ap (target_of t) q in
          (later, ap (λ (x : Target). Some x ∷ later) same, ap (is_stale plan) (sym same) ∙ stale)
      | inr fresh ↦ let q = rw fresh at e in absurd (cc q)
    ]

few_taken : (n : ℕ) → nat_le 8 n ≡ false → n < 8
few_taken n e = grind (arith, nat_tests)

pub heeded_so : (whole : Bool) (plan now : Plan) (answers left : List (Option Target)) → heeded whole plan answers ≡ Ok (now, left) → Heeded plan answers now left
unfolding heeded
heeded_so whole plan now answers left e =
    elim (cases_Bool (whole || nat_le 8 plan.taken)) [
      | inl none ↦ let q = rw none at e in ([], ap (left_of answers) q, sym (ap (plan_of plan) q))
      | inr asks ↦
          let q = rw asks at e in
          heeded_first plan now answers left (few_taken plan.taken (or_parts whole (nat_le 8 plan.taken) asks).1) q
    ]

pub refused_so : (whole : Bool) (plan : Plan) (answers : List (Option Target)) (target : Target) → heeded whole plan answers ≡ Err target → (left : List (Option Target)) × (answers ≡ Some target ∷ left) × (is_stale plan target ≡ true) × (plan.taken < 8)
unfolding heeded
refused_so whole plan answers target e =
    elim (cases_Bool (whole || nat_le 8 plan.taken)) [
      | inl none ↦ let q = rw none at e in absurd (cc q)
      | inr asks ↦
          let q = rw asks at e in
          let r = refused_first plan answers target q in
          (r.0, r.1, r.2, few_taken plan.taken (or_parts whole (nat_le 8 plan.taken) asks).1)
    ]

pub took_keeps : (plan now : Plan) (took : List (Option Target)) → TookOne plan took now → SamePart plan now
took_keeps plan now [] h = subst (λ (p : Plan). SamePart plan p) (sym h) (record { start = refl; limits = refl; rises = omega arith })
took_keeps plan now (None ∷ []) h = subst (λ (p : Plan). SamePart plan p) (sym h) (record { start = refl; limits = refl; rises = omega arith })
took_keeps plan now (Some later ∷ []) h = subst (λ (p : Plan). SamePart plan p) (sym h.2) (with_keeps plan later h.0)
took_keeps plan now (None ∷ answer ∷ answers) h = absurd h
took_keeps plan now (Some later ∷ answer ∷ answers) h = absurd h

-- ---- what the call of next answered

-- none was asked for
pub unheeded : (whole : Bool) (plan : Plan) (answers : List (Option Target)) → (whole || nat_le 8 plan.taken) ≡ true → heeded whole plan answers ≡ Ok (plan, answers)
unfolding heeded
unheeded whole plan answers e = rw e refl

-- none was named
pub none_named : (whole : Bool) (plan : Plan) (answers : List (Option Target)) → (whole || nat_le 8 plan.taken) ≡ false → answer_next answers ≡ None → heeded whole plan answers ≡ Ok (plan, answers_left answers)
unfolding heeded
none_named whole plan [] e n = rw e refl
none_named whole plan (None ∷ later) e n = rw e refl
none_named whole plan (Some target ∷ later) e n = absurd (cc n)

some_is : (answer : Option Target) (target : Target) → answer ≡ Some target → (plan : Plan) (later : List (Option Target)) → heed plan (answer ∷ later) ≡ (if is_stale plan target then Err target else Ok (with_target plan target, later))
some_is None target e plan later = absurd (cc e)
some_is (Some t) target e plan later =
    let same : t ≡ target = cc e in
    ap (λ (x : Target). let r : Result (Plan × List (Option Target)) Target = if is_stale plan x then Err x else Ok (with_target plan x, later) in r) same

-- one was named
pub one_named : (whole : Bool) (plan : Plan) (answers : List (Option Target)) (target : Target) → (whole || nat_le 8 plan.taken) ≡ false → answer_next answers ≡ Some target → heeded whole plan answers ≡ (if is_stale plan target then Err target else Ok (with_target plan target, answers_left answers))
unfolding heeded
one_named whole plan [] target e n = absurd (cc n)
one_named whole plan (answer ∷ later) target e n = rw e (some_is answer target n plan later)

pub named_first : (answers : List (Option Target)) (target : Target) → answer_next answers ≡ Some target → answers ≡ Some target ∷ answers_left answers
named_first [] target n = absurd (cc n)
named_first (answer ∷ later) target n = ap (λ (x : Option Target). x ∷ later) n

-- Whole runs: a simulation stepped from its opening to its end.
use Rattle.std.proofs.Common.{◌≡◌, ◌<◌, ◌+◌, ℕ, zero, suc, All, Bool, Option, List, [], ◌∷◌, ◌++◌, MatchOption, None, Some, Result, Ok, Err, drop, get_or, length, take, refl, sym, ap, ◌∙◌, subst}
use Rattle.std.proofs.lemmas.List.Elements.{All-append, All-nil}
use Rattle.simulate_parts.specs.Engine.{Passes}
use Rattle.simulate_parts.specs.declared.tracker.FinalizationUpdate.{FinalizationUpdate}
use Rattle.ledger_simulate.specs.Handling.{Grows, Seated}
use Rattle.std.proofs.lemmas.List.{drop_more, take-append-drop}
use Rattle.ledger_simulate.specs.Meaning.{Meaning}
use Rattle.ledger_simulate.specs.Results.{EndedView, ResultView}
use Rattle.ledger_simulate.specs.Stepping.{Course, Fails, FailsAt, Finishes, Goes, GoesOn, Opens, RunsAll, RunsTo, Steps, StopsAt, early_of}
use Rattle.ledger_simulate.specs.declared.fault.PlanFault.{PlanFault}
use Rattle.ledger_simulate.specs.declared.simulation.SimEnd.{SimEnd}
use Rattle.ledger_simulate.specs.declared.simulation.SimEnd.TheVariants.{Fault, OutOfMemory}
use Rattle.ledger_simulate.proofs.Outcomes.{each_more, seeds_more}

-- more reports that pass
grown_pass : (reports : Option (FinalizationUpdate → Bool)) (us vs : List FinalizationUpdate) → Grows reports us vs → All (Passes reports) us → All (Passes reports) vs
grown_pass reports us vs grows passes = subst (All (Passes reports)) (sym grows.is) (All-append (Passes reports) us grows.added passes grows.passes)

-- each engine that runs stays its peer's, and each report passes
goes_pass : {D E S F P C : Type 0} (m : Meaning D E S F P C) (n : ℕ) (s t : Course D E S) → Goes m n s t → Seated m.peer_of s.queue.next s.world.seats.entries × All (Passes m.reports) s.updates → Seated m.peer_of t.queue.next t.world.seats.entries × All (Passes m.reports) t.updates
goes_pass {D} {E} {S} m zero s t same held = subst (λ (x : Course D E S). Seated m.peer_of x.queue.next x.world.seats.entries × All (Passes m.reports) x.updates) (sym same) held
goes_pass m (suc n) s t goes held =
    let before = goes_pass m n s goes.0 goes.1 held in
    (goes.2.proceeds.seated before.0, grown_pass m.reports goes.0.updates t.updates (goes.2.proceeds.grows before.0) before.1)

module _ {D E S F P C : Type 0} (m : Meaning D E S F P C) (seed : ℕ) where
  -- a new run of the plan came here
  abbrev pub Came : Course D E S → Type 0
  Came s = Steps m seed (λ t. t ≡ s)

  -- it begins
  pub came_new : (s : Course D E S) → Opens m seed s → Came s
  came_new s opens = record { first = s; last = s; count = 0; opens = opens; goes = refl; end = refl }

  -- it goes on
  pub came_on : (s t : Course D E S) → Came s → GoesOn m s t → Came t
  came_on s t came on = record {
    first = came.first;
    last = t;
    count = suc came.count;
    opens = came.opens;
    goes = (came.last, came.goes, subst (λ x. GoesOn m x t) (sym came.end) on);
    end = refl;
  }

  came_ends : (s : Course D E S) (r : ResultView) → Came s → Finishes m s r → Steps m seed (λ x. Finishes m x r)
  came_ends s r came well = record {
    first = came.first;
    last = came.last;
    count = came.count;
    opens = came.opens;
    goes = came.goes;
    end = subst (λ x. Finishes m x r) (sym came.end) well;
  }

  -- what it reported passes
  steps_pass : (r : ResultView) → Steps m seed (λ x. Finishes m x r) → All (Passes m.reports) r.updates
  steps_pass r steps =
      let none : All (Passes m.reports) steps.first.updates = subst (All (Passes m.reports)) (sym steps.opens.updates) (All-nil (Passes m.reports)) in
      let before = goes_pass m steps.count steps.first steps.last steps.goes (steps.opens.seated, none) in
      grown_pass m.reports steps.last.updates r.updates (steps.end.reports before.0) before.1

  -- it ends with a result
  pub came_well : (s : Course D E S) (r : ResultView) → Came s → Finishes m s r → RunsTo m seed (Ok r)
  came_well s r came well = (came_ends s r came well, steps_pass r (came_ends s r came well))

  came_ill : (s : Course D E S) (e : EndedView) → Came s → Fails m s e → Steps m seed (λ x. Fails m x e)
  came_ill s e came ill = record {
    first = came.first;
    last = came.last;
    count = came.count;
    opens = came.opens;
    goes = came.goes;
    end = subst (λ x. Fails m x e) (sym came.end) ill;
  }

  -- it ends without a result
  pub came_over : (s : Course D E S) (end : SimEnd) → Came s → ((e : EndedView) → end ≡ Fault e → Fails m s e) → RunsTo m seed (Err end)
  came_over s (Fault e) came fails = came_ill s e came (fails e refl)
  came_over s OutOfMemory came fails = tt

module _ {D E S F P C : Type 0} (m : Meaning D E S F P C) where
  goes_seed : (n : ℕ) (s t : Course D E S) → Goes m n s t → t.seed ≡ s.seed
  goes_seed zero s t same = ap (λ (x : Course D E S). x.seed) same
  goes_seed (suc n) s t goes = goes.2.seed ∙ goes_seed n s goes.0 goes.1

  -- a result shows the seed of its run
  pub ran_seed : (seed : ℕ) (r : ResultView) → RunsTo m seed (Ok r) → r.seed ≡ seed
  ran_seed seed r ran = ran.0.end.seed ∙ goes_seed ran.0.count ran.0.first ran.0.last ran.0.goes ∙ ran.0.opens.seed_is

  -- one run more
  pub ran_more : (seeds : List ℕ) (i : ℕ) (rs new : List ResultView) (r : ResultView) → new ≡ rs ++ r ∷ [] → i < length seeds → RunsTo m (get_or seeds i 0) (Ok r) → RunsAll m (take i seeds) rs → RunsAll m (take (i + 1) seeds) new
  ran_more seeds i rs new r grown within ran all =
      let seed : r.seed ≡ get_or seeds i 0 = ran_seed (get_or seeds i 0) r ran in
      record {
        seeded = seeds_more rs new r seeds i grown all.seeded within seed;
        each = each_more (λ x. RunsTo m x.seed (Ok x)) rs new r grown all.each (subst (λ n. RunsTo m n (Ok r)) (sym seed) ran);
      }

  -- a run that is refused, behind those
  pub stops_here : (seeds : List ℕ) (i : ℕ) (rs : List ResultView) (end : SimEnd) → i < length seeds → RunsAll m (take i seeds) rs → RunsTo m (get_or seeds i 0) (Err end) → StopsAt m seeds (get_or seeds i 0) end
  stops_here seeds i rs end within all ends = record {
    done = take i seeds;
    rest = drop (i + 1) seeds;
    results = rs;
    among = sym (take-append-drop i seeds) ∙ ap (λ ns. take i seeds ++ ns) (drop_more seeds i 0 within);
    earlier = all;
    ends = ends;
  }

  -- a fault before an event is handled
  pub fails_early : (s : Course D E S) (e : EndedView) (fault : PlanFault) → early_of m s ≡ Some fault → record { fault = fault; seed = s.seed; handled = s.handled; max_events = m.max_events; timeout = m.timeout } ≡ e → Fails m s e
  fails_early s e fault early same = record {
    seed = sym (ap (λ (x : EndedView). x.seed) same);
    limit = sym (ap (λ (x : EndedView). x.max_events) same);
    timeout = sym (ap (λ (x : EndedView). x.timeout) same);
    cause = subst (λ o. MatchOption o (FailsAt m s e) (λ f. (e.fault ≡ f) × (e.handled ≡ s.handled))) (sym early) (sym (ap (λ (x : EndedView). x.fault) same), sym (ap (λ (x : EndedView). x.handled) same));
  }

  -- a fault that comes later
  pub fails_late : (s : Course D E S) (e : EndedView) → early_of m s ≡ None → e.seed ≡ s.seed → e.max_events ≡ m.max_events → e.timeout ≡ m.timeout → FailsAt m s e → Fails m s e
  fails_late s e none seed limit timeout fails = record {
    seed = seed;
    limit = limit;
    timeout = timeout;
    cause = subst (λ o. MatchOption o (FailsAt m s e) (λ f. (e.fault ≡ f) × (e.handled ≡ s.handled))) (sym none) fails;
  }

-- equal faults
pub same_fault : {A : Type 0} (x y : EndedView) → ◌≡◌ {A = Result A SimEnd} (Err (Fault x)) (Err (Fault y)) → x ≡ y
same_fault x y e = cc

-- What stops come from, said of more.
use Rattle.std.proofs.Common.{◌≡◌, ◌⊎◌, inl, inr, ◌++◌, ℕ, true, false, IsTrue, List, [], MatchOption, Option, Some, None, IfErr, Result, Ok, Err, refl, sym, ap, ◌∙◌, subst}
use Rattle.std.proofs.lemmas.List.{append_assoc, append-nil}
use Rattle.simulate_parts.specs.Tracker.{observe_fault, tracker_of}
use Rattle.simulate_parts.specs.declared.tracker.FinalizationUpdate.{FinalizationUpdate}
use Rattle.simulate_parts.specs.declared.tracker.ObserveFault.{ObserveFault}
use Rattle.ledger_simulate.specs.Causes.{Comes, IsSkip, StopComes, is_asked, stops_asked}
use Rattle.ledger_simulate.specs.Stops.{IsForkOf, end_of}
use Rattle.ledger_simulate.specs.declared.fault.PlanFault.{PlanFault}
use Rattle.ledger_simulate.specs.declared.fault.PlanFault.TheVariants.{EventLimit, Exit, FinalizationProperty, Fork, Idle, NotExercised, Property, SkippedWindow, Timeout}
use Rattle.ledger_simulate.specs.Results.{EndedView}
use Rattle.ledger_simulate.specs.declared.simulation.SimEnd.{SimEnd}
use Rattle.ledger_simulate.specs.declared.simulation.SimEnd.TheVariants.{Fault as at_fault, OutOfMemory as at_memory}
use Rattle.ledger_simulate.specs.declared.fault.Stop.{Stop}
use Rattle.ledger_simulate.specs.declared.fault.Stop.TheVariants.{Fault, OutOfMemory}

not_false : false ≡ true → ⊥
not_false e = cc

module _ (reported : List FinalizationUpdate → FinalizationUpdate → Type 0) (skipped : ℕ → Type 0) (before : List FinalizationUpdate) where
  -- what a check answers, also at the end
  pub comes_asked : (missed : ℕ → Type 0) (f : PlanFault) → IsTrue (is_asked f) → Comes reported skipped missed before f
  comes_asked missed (Fork update fault) asked = absurd (not_false asked)
  comes_asked missed (FinalizationProperty name text) asked = tt
  comes_asked missed (Property name text) asked = tt
  comes_asked missed (Exit name text) asked = tt
  comes_asked missed Timeout asked = absurd (not_false asked)
  comes_asked missed EventLimit asked = absurd (not_false asked)
  comes_asked missed Idle asked = absurd (not_false asked)
  comes_asked missed (SkippedWindow height) asked = absurd (not_false asked)
  comes_asked missed (NotExercised index) asked = absurd (not_false asked)

  -- what a check answers
  pub stop_asked : (s : Stop) → IsTrue (stops_asked s) → StopComes reported skipped before s
  stop_asked (Fault fault) asked = comes_asked (λ index. ⊥) fault asked
  stop_asked OutOfMemory asked = tt

  -- want of memory
  pub stop_short : (s : Stop) → s ≡ OutOfMemory → StopComes reported skipped before s
  stop_short s is = subst (StopComes reported skipped before) (sym is) tt

  -- a window that was skipped
  pub stop_skips : (s : Stop) → IsSkip skipped s → StopComes reported skipped before s
  stop_skips s (inl is) = stop_short s is
  stop_skips s (inr skips) = subst (StopComes reported skipped before) (sym skips.1) skips.2

  -- a refused report
  pub stop_forks : (update : FinalizationUpdate) (s : Stop) → reported [] update → IsForkOf before update s → StopComes reported skipped before s
  stop_forks update s came forks = by_fault (observe_fault (tracker_of before) update) refl forks
    where
      by_fault : (o : Option ObserveFault) → observe_fault (tracker_of before) update ≡ o → MatchOption o (s ≡ OutOfMemory) (λ fault. (s ≡ OutOfMemory) ⊎ (s ≡ Fault (Fork update fault))) → StopComes reported skipped before s
      by_fault None is short = stop_short s short
      by_fault (Some fault) is (inl short) = stop_short s short
      by_fault (Some fault) is (inr fork) = subst (StopComes reported skipped before) (sym fork) (record {
        more = [];
        comes = came;
        refused = ap (λ us. observe_fault (tracker_of us) update) (append-nil before) ∙ is;
      })

-- from an earlier time on, by wider causes
pub comes_since : (reported reports : List FinalizationUpdate → FinalizationUpdate → Type 0) (skipped skips missed misses : ℕ → Type 0) (before now done : List FinalizationUpdate) → now ≡ before ++ done → ((m : List FinalizationUpdate) (u : FinalizationUpdate) → reported m u → reports (done ++ m) u) → ((h : ℕ) → skipped h → skips h) → ((i : ℕ) → missed i → misses i) → (f : PlanFault) → Comes reported skipped missed now f → Comes reports skips misses before f
comes_since reported reports skipped skips missed misses before now done since came skip miss (Fork update fault) comes = record {
  more = done ++ comes.more;
  comes = came comes.more update comes.comes;
  refused =
      ap (λ us. observe_fault (tracker_of us) update) (sym (ap (λ us. us ++ comes.more) since ∙ append_assoc before done comes.more))
      ∙ comes.refused;
}
comes_since reported reports skipped skips missed misses before now done since came skip miss (FinalizationProperty name text) comes = tt
comes_since reported reports skipped skips missed misses before now done since came skip miss (Property name text) comes = tt
comes_since reported reports skipped skips missed misses before now done since came skip miss (Exit name text) comes = tt
comes_since reported reports skipped skips missed misses before now done since came skip miss Timeout comes = comes
comes_since reported reports skipped skips missed misses before now done since came skip miss EventLimit comes = comes
comes_since reported reports skipped skips missed misses before now done since came skip miss Idle comes = comes
comes_since reported reports skipped skips missed misses before now done since came skip miss (SkippedWindow height) comes = skip height comes
comes_since reported reports skipped skips missed misses before now done since came skip miss (NotExercised index) comes = miss index comes

pub stop_since : (reported reports : List FinalizationUpdate → FinalizationUpdate → Type 0) (skipped skips : ℕ → Type 0) (before now done : List FinalizationUpdate) → now ≡ before ++ done → ((m : List FinalizationUpdate) (u : FinalizationUpdate) → reported m u → reports (done ++ m) u) → ((h : ℕ) → skipped h → skips h) → (s : Stop) → StopComes reported skipped now s → StopComes reports skips before s
stop_since reported reports skipped skips before now done since came skip (Fault fault) comes = comes_since reported reports skipped skips (λ index. ⊥) (λ index. ⊥) before now done since came skip (λ i never. never) fault comes
stop_since reported reports skipped skips before now done since came skip OutOfMemory comes = tt

-- a stop is none of the faults of the end
pub stop_comes : (reported : List FinalizationUpdate → FinalizationUpdate → Type 0) (skipped missed : ℕ → Type 0) (before : List FinalizationUpdate) (s : Stop) (f : PlanFault) → s ≡ Fault f → StopComes reported skipped before s → Comes reported skipped missed before f
stop_comes reported skipped missed before s f is comes =
    comes_since reported reported skipped skipped (λ index. ⊥) missed before before [] (sym (append-nil before)) (λ m u came. came) (λ h skips. skips) (λ i never. absurd never) f
    (subst (StopComes reported skipped before) is comes)

-- a fact of a refusal, by another one
pub if_err_map : {A : Type 0} (P Q : Stop → Type 0) → ((s : Stop) → P s → Q s) → (r : Result A Stop) → IfErr r P → IfErr r Q
if_err_map P Q f (Ok a) fact = tt
if_err_map P Q f (Err s) fact = f s fact

pub same_end : {A : Type 0} (x y : EndedView) → ◌≡◌ {A = Result A SimEnd} (Err (at_fault x)) (Err (at_fault y)) → x ≡ y
same_end x y e = cc

no_end : {A : Type 0} (y : EndedView) → ◌≡◌ {A = Result A SimEnd} (Err at_memory) (Err (at_fault y)) → ⊥
no_end y e = cc

-- an end by a fault shows the stop that it is of
pub ends_by : {A : Type 0} (stop : Stop) (end : SimEnd) (seed handled max_events : ℕ) (timeout : Option ℕ) (e : EndedView) → end ≡ end_of stop seed handled max_events timeout → ◌≡◌ {A = Result A SimEnd} (Err end) (Err (at_fault e)) → (stop ≡ Fault e.fault) × (e.handled ≡ handled) × (e.seed ≡ seed) × (e.max_events ≡ max_events) × (e.timeout ≡ timeout)
ends_by {A} (Fault f) end seed handled max_events timeout e is shown =
    let whole : EndedView = record { fault = f; seed = seed; handled = handled; max_events = max_events; timeout = timeout } in
    let same : whole ≡ e = same_end {A = A} whole e (ap (λ (x : SimEnd). Err x) (sym is) ∙ shown) in (
      ap (λ (x : EndedView). Fault x.fault) same,
      sym (ap (λ (x : EndedView). x.handled) same),
      sym (ap (λ (x : EndedView). x.seed) same),
      sym (ap (λ (x : EndedView). x.max_events) same),
      sym (ap (λ (x : EndedView). x.timeout) same),
    )
ends_by {A} OutOfMemory end seed handled max_events timeout e is shown = absurd (no_end {A = A} e (ap (λ (x : SimEnd). Err x) (sym is) ∙ shown))

-- What the first step of a run says, as tests use it.
use Rattle.std.proofs.Common.{◌≡◌, ◌+◌, ℕ, Bool, List, [], false, All, MatchOption, Option, Some, None, ap, ◌∙◌, sym, subst}
use Rattle.std.proofs.lemmas.List.Elements.{All-append, All-nil}
use Rattle.simulate_parts.specs.Engine.{Passes}
use Rattle.simulate_parts.specs.declared.tracker.FinalizationUpdate.{FinalizationUpdate}
use Rattle.ledger_simulate.specs.Handling.{Grows, Seated}
use Rattle.ledger_simulate.specs.Meaning.{Meaning}
use Rattle.ledger_simulate.specs.Queue.{first_key}
use Rattle.ledger_simulate.specs.Results.{EndedView, ResultView}
use Rattle.ledger_simulate.specs.Stepping.{Course, Fails, FailsAt, Finishes, GoesOn}
use Rattle.ledger_simulate.specs.Stops.{early_fault, is_late}

-- reports that were none pass, with those that came and pass
grown_none : (reports : Option (FinalizationUpdate → Bool)) (us vs : List FinalizationUpdate) → us ≡ [] → Grows reports us vs → All (Passes reports) vs
grown_none reports us vs none grows =
    subst (All (Passes reports)) (sym grows.is)
    (All-append (Passes reports) us grows.added (subst (All (Passes reports)) (sym none) (All-nil (Passes reports))) grows.passes)

-- a run that allows no event stops before its first one
stops_by : (X : Type 0) (e : EndedView) (first : Option (ℕ × ℕ)) (timeout : Option ℕ) → MatchOption (early_fault first 0 0 timeout) X (λ f. (e.fault ≡ f) × (e.handled ≡ 0)) → (e.handled ≡ 0) × (is_late e.fault ≡ false)
stops_by X e None timeout why = (why.1, ap is_late why.0)
stops_by X e (Some key) timeout why = (why.1, ap is_late why.0)

module _ {D E S F P C : Type 0} (m : Meaning D E S F P C) (s : Course D E S) where
  -- where a new run goes on, one event was handled
  pub first_on : (t : Course D E S) → s.handled ≡ 0 → GoesOn m s t → t.handled ≡ 1
  first_on t new on = on.handled ∙ ap (λ n. n + 1) new

  -- where a run without reports is done, those of its result pass
  pub first_done : (r : ResultView) → Seated m.peer_of s.queue.next s.world.seats.entries → s.updates ≡ [] → Finishes m s r → All (Passes m.reports) r.updates
  first_done r seated none done = grown_none m.reports s.updates r.updates none (done.reports seated)

  -- where no event is allowed, a new run stops before its first one
  pub first_stops : (e : EndedView) → s.handled ≡ 0 → m.max_events ≡ 0 → Fails m s e → (e.handled ≡ 0) × (is_late e.fault ≡ false)
  first_stops e new limit fails =
      stops_by (FailsAt m s e) e (first_key s.queue) m.timeout
      (subst (λ n. MatchOption (early_fault (first_key s.queue) 0 n m.timeout) (FailsAt m s e) (λ f. (e.fault ≡ f) × (e.handled ≡ 0))) limit
      (subst (λ n. MatchOption (early_fault (first_key s.queue) n m.max_events m.timeout) (FailsAt m s e) (λ f. (e.fault ≡ f) × (e.handled ≡ n))) new fails.cause))

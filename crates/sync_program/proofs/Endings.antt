-- How a sync ends, from how its parts do.
use Rattle.std.proofs.Common.{◌≡◌, ◌==◌, ℕ, zero, suc, ◌≤◌, Bool, true, false, inl, inr, List, [], ◌++◌, length, take, Option, Some, None, Result, Ok, Err, refl, sym, ap, subst, ◌∙◌, append-nil, arith}
use Rattle.std.specs.Prelude.{is_some, not, ◌⊎◌}
use Rattle.std.proofs.KnownBytes.{Appends-trans}
use Rattle.std.proofs.Math.Seq.{take-length}
use Rattle.std.specs.Io.KnownBytes.{Appends}
use Rattle.ledger_codec.specs.Causes.{Rose}
use Rattle.ledger_codec.specs.declared.sink.SinkError.{SinkError}
use Rattle.ledger_codec.specs.declared.sink.SinkError.TheVariants.{Failed, OutOfMemory as memory_wanting}
use Rattle.ledger_examples.specs.declared.names.SyncMode.TheVariants as mode
use Rattle.ledger_program.specs.Run.{LineWent}
use Rattle.ledger_program.specs.Writing.{AppendsFront, Writes}
use Rattle.ledger_sync.specs.declared.form.SyncForm.{SyncForm}
use Rattle.sync_client.specs.declared.fault.SyncFault.TheVariants as session
use Rattle.sync_fetch.specs.declared.fault.StateFault.{StateFault}
use Rattle.sync_fetch.specs.declared.fault.StateFault.TheVariants as faults
use Rattle.sync_net.specs.Service.{Service}
use Rattle.ledger_sync.proofs.Bringing.{none_rose}
use Rattle.ledger_sync.specs.Brought.{Over, BringsNone, CanFail, MayFail}
use Rattle.sync_program.specs.Run.{state_status, refusal_of, outcome_of, is_status, has_fault, IsNamed, Arrives, Misses, Refused, IsRare, OnlyRare, Outlet, sink_over, Prints, Lined, PrintEnds, Printed, Shows, Ends, Ended, Completes}
use Rattle.sync_program.specs.Text.{synced_text, line_of}
use Rattle.sync_program.specs.declared.outcome.Refusal.{Refusal}
use Rattle.sync_program.specs.declared.outcome.Refusal.TheVariants.{Usage, Dial, Fetch, Output, OutOfMemory}
use Rattle.sync_program.specs.declared.outcome.SyncOutcome.{SyncOutcome}
use Rattle.ledger_sync.specs.declared.synced.Synced.{Synced}

-- ---- faults as refusals

pub refused_so : (form : Option SyncForm) (dialed dialed_now : ℕ) (over : Over) (asked : SyncForm) (fault : StateFault) → form ≡ Some asked → BringsNone asked over fault → CanFail fault → Refused form dialed dialed_now over (refusal_of fault)
refused_so form d dn over asked (faults.WrongState fault) e n c = record { asked = asked; is = e; brings = n; named = tt }
refused_so form d dn over asked (faults.Fetch session.Network) e n c = record { asked = asked; is = e; brings = n; named = tt }
refused_so form d dn over asked (faults.Fetch session.RequestChannelClosed) e n c = record { asked = asked; is = e; brings = n; named = tt }
refused_so form d dn over asked (faults.Fetch session.InvalidResponse) e n c = record { asked = asked; is = e; brings = n; named = tt }
refused_so form d dn over asked (faults.Fetch (session.UnexpectedResponse number)) e n c = record { asked = asked; is = e; brings = n; named = tt }
refused_so form d dn over asked (faults.Fetch (session.Server code text)) e n c = record { asked = asked; is = e; brings = n; named = tt }
refused_so form d dn over asked (faults.Fetch (session.InvalidProof number)) e n c = record { asked = asked; is = e; brings = n; named = tt }
refused_so form d dn over asked (faults.Fetch session.TooManyStrays) e n c = record { asked = asked; is = e; brings = n; named = tt }
refused_so form d dn over asked (faults.Fetch (session.StaleUpdate start end)) e n c = record { asked = asked; is = e; brings = n; named = tt }
refused_so form d dn over asked (faults.Fetch (session.WrongRoot found)) e n c = record { asked = asked; is = e; brings = n; named = tt }
refused_so form d dn over asked (faults.Fetch session.Closed) e n c = absurd c
refused_so form d dn over asked (faults.Fetch session.Exhausted) e n c = absurd c
refused_so form d dn over asked (faults.Fetch session.OutOfMemory) e n c = ap is_some e

pub rare_so : (fault : StateFault) → MayFail fault → IsRare (refusal_of fault)
rare_so (faults.WrongState fault) m = absurd m
rare_so (faults.Fetch session.Network) m = tt
rare_so (faults.Fetch session.RequestChannelClosed) m = absurd m
rare_so (faults.Fetch session.InvalidResponse) m = absurd m
rare_so (faults.Fetch (session.UnexpectedResponse number)) m = absurd m
rare_so (faults.Fetch (session.Server code text)) m = absurd m
rare_so (faults.Fetch (session.InvalidProof number)) m = absurd m
rare_so (faults.Fetch session.TooManyStrays) m = absurd m
rare_so (faults.Fetch (session.StaleUpdate start end)) m = absurd m
rare_so (faults.Fetch (session.WrongRoot found)) m = absurd m
rare_so (faults.Fetch session.Closed) m = absurd m
rare_so (faults.Fetch session.Exhausted) m = absurd m
rare_so (faults.Fetch session.OutOfMemory) m = tt

-- a form is one
pub same_form : (form : Option SyncForm) (x y : SyncForm) → form ≡ Some x → form ≡ Some y → x ≡ y
same_form form x y e f = cc

-- words that are no form ask for nothing
pub no_form : {X : Type 0} (form : Option SyncForm) (asked : SyncForm) → form ≡ None → form ≡ Some asked → X
no_form form asked n e = absurd (cc (sym n ∙ e))

-- ---- what goes out

module _ {grows : Bool} (a b : Option (List ℕ)) (x y : ℕ) (text : List ℕ) where
  -- what went out of a text in each case
  pub front_went : (r : Result (Unit {0}) SinkError) → Writes grows a b x y text r → AppendsFront a b text
  front_went (Ok u) w = (length text, subst (Appends a b) (sym (take-length text)) w.all)
  front_went (Err e) w = w.front

  pub whole_went : (r : Result (Unit {0}) SinkError) → Writes grows a b x y text r → LineWent grows x y (Appends a b text)
  whole_went (Ok u) w = inl w.all
  whole_went (Err Failed) w = inr (inl (w.failed cc))
  whole_went (Err memory_wanting) w = inr (inr (w.memory cc))

take_nothing : (n : ℕ) → take {A = ℕ} n [] ≡ []
take_nothing zero = refl
take_nothing (suc n) = refl

nothing_more : (a b c : Option (List ℕ)) (text : List ℕ) → Appends a b text → AppendsFront b c [] → Appends a c text
nothing_more a b c text p (n, q) = subst (Appends a c) (ap (λ l. text ++ l) (take_nothing n) ∙ append-nil text) (Appends-trans a b c text (take n []) p q)

rose_after : (x y z : ℕ) → Rose x y → y ≤ z → Rose x z
rose_after x y z r h = omega (arith, r, h)

-- the line behind lines that weren't written whole
pub late_ends : (grows : Bool) (a b c : Option (List ℕ)) (x y z : ℕ) (s : Synced) (refusal : Refusal) → Prints (Err refusal) s (sink_over grows a b x y) → AppendsFront b c (line_of refusal) → y ≤ z → PrintEnds s (sink_over grows a c x z) (Some refusal)
late_ends grows a b c x y z s Usage p l h = absurd p
late_ends grows a b c x y z s Dial p l h = absurd p
late_ends grows a b c x y z s (Fetch fault) p l h = absurd p
late_ends grows a b c x y z s Output p l h = ((p.0.0, nothing_more a b c (take p.0.0 (synced_text s)) p.0.1 l), rose_after x y z p.1 h)
late_ends grows a b c x y z s OutOfMemory p l h = record {
  front = p.0;
  then = l.0;
  went = Appends-trans a b c (take p.0 (synced_text s)) (take l.0 (line_of OutOfMemory)) p.1 l.1;
}

-- ---- the whole call

module _ (form : Option SyncForm) (dialed dialed_now : ℕ) (over : Over) (out : Outlet) where
  pub ends_refused : (refusal : Refusal) → Refused form dialed dialed_now over refusal → Lined refusal out → Ends form dialed dialed_now over out (Some refusal)
  ends_refused Usage r l = (r, l)
  ends_refused Dial r l = (r, l)
  ends_refused (Fetch fault) r l = (r, l)
  ends_refused Output r l = absurd r
  ends_refused OutOfMemory r l = inl (r, l)

  ends_printed : (s : Synced) → Arrives form over s → (ending : Option Refusal) → PrintEnds s out ending → Ends form dialed dialed_now over out ending
  ends_printed s a None p = (s, a, p)
  ends_printed s a (Some Usage) p = absurd p
  ends_printed s a (Some Dial) p = absurd p
  ends_printed s a (Some (Fetch fault)) p = absurd p
  ends_printed s a (Some Output) p = (s, a, p)
  ends_printed s a (Some OutOfMemory) p = inr (s, a, p)

  pub ended_printed : (s : Synced) (outcome : SyncOutcome) → Arrives form over s → Printed s out outcome → Ended form dialed dialed_now over out outcome
  ended_printed s outcome a p = (p.0, p.1, ends_printed s a p.0 p.2)

  named_status : (fault : StateFault) → IsNamed fault → (is_status (state_status fault) ≡ true) × (has_fault (state_status fault) ≡ true) × ((state_status fault == 2) ≡ false)
  named_status (faults.WrongState fault) n = (refl, refl, refl)
  named_status (faults.Fetch session.Network) n = (refl, refl, refl)
  named_status (faults.Fetch session.RequestChannelClosed) n = (refl, refl, refl)
  named_status (faults.Fetch session.InvalidResponse) n = (refl, refl, refl)
  named_status (faults.Fetch (session.UnexpectedResponse number)) n = (refl, refl, refl)
  named_status (faults.Fetch (session.Server code text)) n = (refl, refl, refl)
  named_status (faults.Fetch (session.InvalidProof number)) n = (refl, refl, refl)
  named_status (faults.Fetch session.TooManyStrays) n = (refl, refl, refl)
  named_status (faults.Fetch (session.StaleUpdate start end)) n = (refl, refl, refl)
  named_status (faults.Fetch (session.WrongRoot found)) n = (refl, refl, refl)
  named_status (faults.Fetch session.Closed) n = absurd n
  named_status (faults.Fetch session.Exhausted) n = absurd n
  named_status (faults.Fetch session.OutOfMemory) n = absurd n

  status_at : (ending : Option Refusal) → Ends form dialed dialed_now over out ending → is_status (outcome_of ending).status ≡ true
  status_at None e = refl
  status_at (Some Usage) e = refl
  status_at (Some Dial) e = refl
  status_at (Some (Fetch fault)) e = (named_status fault e.0.named).0
  status_at (Some Output) e = refl
  status_at (Some OutOfMemory) e = refl

  pub statuses_so : (outcome : SyncOutcome) → Ended form dialed dialed_now over out outcome → is_status outcome.status ≡ true
  statuses_so outcome e = ap (λ (o : SyncOutcome). is_status o.status) e.1 ∙ status_at e.0 e.2

  fault_at : (ending : Option Refusal) → Ends form dialed dialed_now over out ending → is_some (outcome_of ending).fault ≡ has_fault (outcome_of ending).status
  fault_at None e = refl
  fault_at (Some Usage) e = refl
  fault_at (Some Dial) e = refl
  fault_at (Some (Fetch fault)) e = sym (named_status fault e.0.named).1
  fault_at (Some Output) e = refl
  fault_at (Some OutOfMemory) e = refl

  pub fault_so : (outcome : SyncOutcome) → Ended form dialed dialed_now over out outcome → is_some outcome.fault ≡ has_fault outcome.status
  fault_so outcome e = subst (λ (o : SyncOutcome). is_some o.fault ≡ has_fault o.status) (sym e.1) (fault_at e.0 e.2)

  formed : (asked : SyncForm) → form ≡ Some asked → false ≡ not (is_some form)
  formed asked e = sym (ap (λ (f : Option SyncForm). not (is_some f)) e)

  usage_at : (ending : Option Refusal) → Ends form dialed dialed_now over out ending → ((outcome_of ending).status == 2) ≡ not (is_some form)
  usage_at None e = formed e.1.asked e.1.is
  usage_at (Some Usage) e = sym (ap (λ (f : Option SyncForm). not (is_some f)) e.0)
  usage_at (Some Dial) e = sym (ap not e.0.0)
  usage_at (Some (Fetch fault)) e = (named_status fault e.0.named).2 ∙ formed e.0.asked e.0.is
  usage_at (Some Output) e = formed e.1.asked e.1.is
  usage_at (Some OutOfMemory) (inl e) = sym (ap not e.0)
  usage_at (Some OutOfMemory) (inr e) = formed e.1.asked e.1.is

  pub usage_so : (outcome : SyncOutcome) → Ended form dialed dialed_now over out outcome → (outcome.status == 2) ≡ not (is_some form)
  usage_so outcome e = ap (λ (o : SyncOutcome). o.status == 2) e.1 ∙ usage_at e.0 e.2

  -- ---- completeness

  rare_at : (refusal : Refusal) → IsRare refusal → Refused form dialed dialed_now over refusal → (Rose dialed dialed_now → ⊥) → (Rose over.count over.count_now → ⊥) → refusal ≡ OutOfMemory
  rare_at Usage i r d l = absurd i
  rare_at Dial i r d l = absurd (d r.1)
  rare_at (Fetch (faults.WrongState fault)) i r d l = absurd i
  rare_at (Fetch (faults.Fetch session.Network)) i r d l = absurd (l (none_rose r.asked.mode r.asked.family r.asked.limits over r.brings))
  rare_at (Fetch (faults.Fetch session.RequestChannelClosed)) i r d l = absurd i
  rare_at (Fetch (faults.Fetch session.InvalidResponse)) i r d l = absurd i
  rare_at (Fetch (faults.Fetch (session.UnexpectedResponse number))) i r d l = absurd i
  rare_at (Fetch (faults.Fetch (session.Server code text))) i r d l = absurd i
  rare_at (Fetch (faults.Fetch (session.InvalidProof number))) i r d l = absurd i
  rare_at (Fetch (faults.Fetch session.TooManyStrays)) i r d l = absurd i
  rare_at (Fetch (faults.Fetch (session.StaleUpdate start end))) i r d l = absurd i
  rare_at (Fetch (faults.Fetch (session.WrongRoot found))) i r d l = absurd i
  rare_at (Fetch (faults.Fetch session.Closed)) i r d l = absurd i
  rare_at (Fetch (faults.Fetch session.Exhausted)) i r d l = absurd i
  rare_at (Fetch (faults.Fetch session.OutOfMemory)) i r d l = absurd r.named
  rare_at Output i r d l = absurd i
  rare_at OutOfMemory i r d l = refl

  pub complete_refused : (refusal : Refusal) (outcome : SyncOutcome) → OnlyRare form over.service refusal → Refused form dialed dialed_now over refusal → outcome ≡ outcome_of (Some refusal) → Completes form dialed dialed_now over out outcome.status
  complete_refused refusal outcome rare r e asked is full served d l k =
      let same : refusal ≡ OutOfMemory = rare_at refusal (rare asked is full served) r d l in
      inr (ap (λ (o : SyncOutcome). o.status) e ∙ ap (λ (x : Refusal). (outcome_of (Some x)).status) same)

  complete_at : (s : Synced) (ending : Option Refusal) → PrintEnds s out ending → (Rose out.before out.now → ⊥) → ((outcome_of ending).status ≡ 0) ⊎ ((outcome_of ending).status ≡ 11)
  complete_at s None p k = inl refl
  complete_at s (Some Usage) p k = absurd p
  complete_at s (Some Dial) p k = absurd p
  complete_at s (Some (Fetch fault)) p k = absurd p
  complete_at s (Some Output) p k = absurd (k p.1)
  complete_at s (Some OutOfMemory) p k = inr refl

  pub complete_printed : (s : Synced) (outcome : SyncOutcome) → Printed s out outcome → Completes form dialed dialed_now over out outcome.status
  complete_printed s outcome p asked is full served d l k = subst (λ (o : SyncOutcome). (o.status ≡ 0) ⊎ (o.status ≡ 11)) (sym p.1) (complete_at s p.0 p.2 k)

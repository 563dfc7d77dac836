-- The causes of faults of a run of `serve`.
use Rattle.std.proofs.Common.{◌≡◌, ℕ, ◌≤◌, ◌<◌, ◌==◌, inl, inr, Bool, true, false, not, List, Option, Some, None, Ok, Err, is_some, refl, sym, ap, subst, ◌∙◌, arith, true≢false}
use Rattle.std.specs.Prelude.{IfSome, length}
use Rattle.ledger_codec.specs.Causes.{Rose}
use Rattle.ledger_job.specs.declared.line.Open.{Open}
use Rattle.ledger_program.specs.Reading.{HeldMore}
use Rattle.ledger_program.specs.Run.{max_job, status_of}
use Rattle.ledger_program.specs.declared.outcome.RunFault.{RunFault}
use Rattle.ledger_program.specs.declared.outcome.RunFault.TheVariants.{Usage, BadJob, JobRead, JobTooLarge, Dial, Follow, Output, OutOfMemory}
use Rattle.serve_parts.specs.declared.form.ServeForm.{ServeForm}
use Rattle.serve_parts.specs.declared.form.ServedFrom.{ServedFrom}
use Rattle.serve_parts.specs.declared.form.ServedFrom.TheVariants as source
use Rattle.ledger_serve.specs.Outcomes.{JobStops, EndsBy}
use Rattle.ledger_serve.specs.Serving.{IsJob, Offends, ReadFails, ServedAs, Stops, Leaves, Caused, lines_for, is_job, reads_job, IsRight, Completes}

err_isnt : (accounts : List Open) (line : ℕ) → Ok accounts ≡ Err line → ⊥
err_isnt accounts line e = cc

rose_after : (x y z : ℕ) → y ≤ z → Rose x y → Rose x z
rose_after x y z h r = omega (arith, r, h)

module _ (form : Option ServeForm) (left : Option (List ℕ)) (r s l k w v z : ℕ) (o : v ≤ z) where
  -- the sink's count may rise further
  pub caused_later : (fault : RunFault) → Caused form left r s l k w v fault → Caused form left r s l k w z fault
  caused_later Usage h = h
  caused_later (BadJob line) h = h
  caused_later JobRead h = h
  caused_later JobTooLarge h = h
  caused_later Dial h = h
  caused_later (Follow fault) h = h
  caused_later Output h = (h.0, rose_after w v z o h.1)
  caused_later OutOfMemory h = h

module _ (form : ServeForm) (left : Option (List ℕ)) (r s l k w v : ℕ) where
  -- a log that there is wasn't served to the end
  pub stops_caused : (fault : RunFault) → Stops l k w v fault → Caused (Some form) left r s l k w v fault
  stops_caused Usage h = absurd h
  stops_caused (BadJob line) h = absurd h
  stops_caused JobRead h = absurd h
  stops_caused JobTooLarge h = absurd h
  stops_caused Dial h = (refl, h)
  stops_caused (Follow fault) h = h
  stops_caused Output h = (refl, h)
  stops_caused OutOfMemory h = refl

  -- nor a job
  pub job_caused : (fault : RunFault) → is_job form.source ≡ true → JobStops left r s l k w v fault → Caused (Some form) left r s l k w v fault
  job_caused Usage e h = absurd h
  job_caused (BadJob line) e h = (e, h)
  job_caused JobRead e h = (e, h)
  job_caused JobTooLarge e h = (e, h)
  job_caused Dial e h = (refl, h)
  job_caused (Follow fault) e h = h
  job_caused Output e h = (refl, h)
  job_caused OutOfMemory e h = refl

-- no job was read
module _ (left : Option (List ℕ)) (r s l w : ℕ) where
  pub read_stops : (fault : RunFault) → ReadFails left r s fault → JobStops left r s l l w w fault
  read_stops Usage h = h
  read_stops (BadJob line) h = h
  read_stops JobRead h = h
  read_stops JobTooLarge h = h
  read_stops Dial h = absurd h
  read_stops (Follow fault) h = h
  read_stops Output h = absurd h
  read_stops OutOfMemory h = h

-- a job's log wasn't served to the end
module _ (left : Option (List ℕ)) (r s l k w v : ℕ) where
  pub serve_stops : (fault : RunFault) → Stops l k w v fault → JobStops left r s l k w v fault
  serve_stops Usage h = h
  serve_stops (BadJob line) h = absurd h
  serve_stops JobRead h = absurd h
  serve_stops JobTooLarge h = absurd h
  serve_stops Dial h = h
  serve_stops (Follow fault) h = h
  serve_stops Output h = h
  serve_stops OutOfMemory h = tt

not_there : (form : Option ServeForm) → is_some form ≡ true → false ≡ not (is_some form)
not_there form e = sym (ap not e)

read_there : (form : Option ServeForm) → reads_job form ≡ true → is_some form ≡ true
read_there None e = absurd (true≢false (sym e))
read_there (Some form) e = refl

module _ (form : Option ServeForm) (left : Option (List ℕ)) (r s l k w v : ℕ) where
  -- status 2 comes exactly for words that are no form
  usage_so : (fault : RunFault) → Caused form left r s l k w v fault → (status_of (Some fault) == 2) ≡ not (is_some form)
  usage_so Usage c = sym (ap (λ f. not (is_some f)) c)
  usage_so (BadJob line) c = not_there form (read_there form c.0)
  usage_so JobRead c = not_there form (read_there form c.0)
  usage_so JobTooLarge c = not_there form (read_there form c.0)
  usage_so Dial c = not_there form c.0
  usage_so (Follow fault) c = absurd c
  usage_so Output c = not_there form c.0
  usage_so OutOfMemory c = not_there form c

  module _ {L : Type 0} (coming coming_now : Option (List L)) (started joined : ℕ) (grows : Bool) (old new : Option (List ℕ)) where
    pub usage_of : (fault : Option RunFault) (status : ℕ) → status ≡ status_of fault → EndsBy form left r s l k coming coming_now started joined grows old new w v fault → (status == 2) ≡ not (is_some form)
    usage_of None status e h = ap (λ n. n == 2) e ∙ not_there form (ap is_some h.form_is)
    usage_of (Some fault) status e h = ap (λ n. n == 2) e ∙ usage_so fault h.0

  -- the source of a form that is there
  reads_as : (asked : ServeForm) → form ≡ Some asked → reads_job form ≡ true → is_job asked.source ≡ true
  reads_as asked e h = ap reads_job (sym e) ∙ h

  right_held : (from : ServedFrom) → is_job from ≡ true → IsRight from left → (text : List ℕ) × (left ≡ Some text) × ((accounts : List Open) × IsJob text accounts)
  right_held source.Test e h = absurd (true≢false (sym e))
  right_held source.Job e h = by_left left refl h where
    by_left : (o : Option (List ℕ)) → left ≡ o → IsRight source.Job o → (text : List ℕ) × (left ≡ Some text) × ((accounts : List Open) × IsJob text accounts)
    by_left None e h = absurd h
    by_left (Some text) e h = (text, e, h)

  no_offence : (asked : ServeForm) (line : ℕ) → form ≡ Some asked → IsRight asked.source left → reads_job form ≡ true → IfSome left (λ text. Offends text line) → ⊥
  no_offence asked line e right reads h =
      let held = right_held asked.source (reads_as asked e reads) right in
      let bad : Offends held.0 line = subst (λ o. IfSome o (λ text. Offends text line)) held.1 h in
      err_isnt (held.2.0) line (sym held.2.1.is ∙ bad.is)

  within : (asked : ServeForm) → form ≡ Some asked → IsRight asked.source left → reads_job form ≡ true → HeldMore max_job left → ⊥
  within asked e right reads h =
      let held = right_held asked.source (reads_as asked e reads) right in
      let more : max_job < length held.0 = subst (λ o. HeldMore max_job o) held.1 h in
      omega (arith, more, held.2.1.within)

  -- with a right job and no rise only want of memory keeps the status from being 0
  complete_so : (fault : RunFault) (status : ℕ) → status ≡ status_of (Some fault) → Caused form left r s l k w v fault → Completes form left r s l k w v status
  complete_so Usage status e c asked f right nr nl nw = absurd (let g = sym f ∙ c in cc)
  complete_so (BadJob line) status e c asked f right nr nl nw = absurd (no_offence asked line f right c.0 c.1)
  complete_so JobRead status e c asked f right nr nl nw = absurd (nr c.1)
  complete_so JobTooLarge status e c asked f right nr nl nw = absurd (within asked f right c.0 c.1)
  complete_so Dial status e c asked f right nr nl nw = absurd (nl c.1)
  complete_so (Follow fault) status e c asked f right nr nl nw = absurd c
  complete_so Output status e c asked f right nr nl nw = absurd (nw c.1)
  complete_so OutOfMemory status e c asked f right nr nl nw = inr e

  module _ {L : Type 0} (coming coming_now : Option (List L)) (started joined : ℕ) (grows : Bool) (old new : Option (List ℕ)) where
    pub complete_of : (fault : Option RunFault) (status : ℕ) → status ≡ status_of fault → EndsBy form left r s l k coming coming_now started joined grows old new w v fault → Completes form left r s l k w v status
    complete_of None status e h asked f right nr nl nw = inl e
    complete_of (Some fault) status e h asked f right nr nl nw = complete_so fault status e h.0 asked f right nr nl nw

-- said of a form that is there
module _ (form : Option ServeForm) (asked : ServeForm) (e : form ≡ Some asked) where
  pub caused_as : (left : Option (List ℕ)) (r s l k w v : ℕ) (fault : RunFault) → Caused (Some asked) left r s l k w v fault → Caused form left r s l k w v fault
  caused_as left r s l k w v fault h = subst (λ (f : Option ServeForm). Caused f left r s l k w v fault) (sym e) h

  pub leaves_as : (a b : Option (List ℕ)) (fault : RunFault) → Leaves (lines_for (Some asked)) a b fault → Leaves (lines_for form) a b fault
  leaves_as a b fault h = subst (λ (f : Option ServeForm). Leaves (lines_for f) a b fault) (sym e) h

  pub served_as : {L : Type 0} (left : Option (List ℕ)) (coming coming_now : Option (List L)) (started joined : ℕ) (a b : Option (List ℕ)) → ServedAs (Some asked) left coming coming_now started joined a b → ServedAs form left coming coming_now started joined a b
  served_as left coming coming_now started joined a b h = subst (λ (f : Option ServeForm). ServedAs f left coming coming_now started joined a b) (sym e) h

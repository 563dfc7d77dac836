-- That a job whose blocks settle ends with its report, or for want of memory.
use Rattle.std.proofs.Common.{◌≡◌, ℕ, ◌+◌, ◌*◌, ◌^◌, ◌≤◌, ◌⊎◌, inl, inr, List, [], ◌∷◌, ◌++◌, length, map, Option, Some, None, Result, Ok, Err, sym, ◌∙◌, subst, arith}
use Rattle.std.specs.Prelude.{IfSome}
use Rattle.std.specs.List.{AllByRecursion}
use Rattle.ledger_codec.specs.Causes.{Rose}
use Rattle.ledger_job.specs.declared.job.Job.{Job}
use Rattle.ledger_job.specs.declared.kind.JobKind.{JobKind}
use Rattle.ledger_job.specs.declared.kind.JobKind.TheVariants.{Local, Follow}
use Rattle.ledger_job.specs.declared.line.Open.{Open}
use Rattle.ledger_job.specs.declared.payment.Payment.{Payment}
use Rattle.ledger_job.specs.Payments.{payment_changes}
use Rattle.ledger_log.specs.declared.any.AnyOp.TheVariants.{CommitFloor}
use Rattle.ledger_log.specs.declared.target.Target.{Target}
use Rattle.ledger_managed.specs.SpelledProofs.{sequenced_value_laws}
use Rattle.ledger_program.specs.Faults.{fault_of}
use Rattle.ledger_program.specs.Peer.{payments, Over}
use Rattle.ledger_program.specs.Run.{max_job, IsJob, Offends, IsServed, IsOfBlock, FailsJob, HasNone, Unfollowed, Misread, Settling, IsReady, IsRight, Still, Completes, Caused, status_of}
use Rattle.ledger_program.specs.Served.{served, update_of, opened_of}
use Rattle.ledger_program.specs.declared.fault.Fault.{Fault}
use Rattle.ledger_program.specs.declared.outcome.RunFault.{RunFault}
use Rattle.ledger_program.specs.declared.outcome.RunFault.TheVariants.{Usage, BadJob, JobRead, JobTooLarge, Dial, Follow as RunFollow, Output, OutOfMemory}
use Rattle.ledger_settling.specs.Faults.{RunFails}
use Rattle.ledger_settling.specs.declared.fault.ReportFault.{ReportFault}
use Rattle.ledger_settling.specs.declared.fault.ReportFault.TheVariants.{BadLog as NoLog, BadValue as NoValue, Rejected as BlockRejected, Full as LogFull, OutOfMemory as NoMemory}
use Rattle.ledger_settling.specs.Blocks.{IsFull, IsRejected}
use Rattle.ledger_settling.proofs.CauseLemmas.{IsWritten, never_rejected, never_full, room_for}
use Rattle.ledger_program.proofs.Rooms.{job_short}

updates_written : (accounts : List Open) → AllByRecursion (IsWritten payments) (map update_of accounts ++ CommitFloor None 0 ∷ [])
updates_written [] = (tt, tt)
updates_written (a ∷ accounts) = (sequenced_value_laws.is_value (opened_of a), updates_written accounts)

served_written : (accounts : List Open) → AllByRecursion (IsWritten payments) (served accounts)
unfolding served
served_written accounts = (tt, updates_written accounts)

two_changes : (p : Payment) → length (payment_changes p) ≤ 2
two_changes p = omega arith

ok_is : (i j : Job) → (r : Result Job ℕ) → r ≡ Ok i → r ≡ Ok j → i ≡ j
ok_is i j r e f = cc

-- a job whose blocks settle and have room
module _ (job : Job) (room : (0 + length (served job.opens)) + room_for job.blocks ≤ 2 ^ 62) (settling : Settling job) where
  -- no block of the job has a fault
  no_fault : (target : Target) (cause : ReportFault) → IsServed job target → RunFails payments target (served job.opens) job.blocks cause → IsOfBlock (fault_of cause) → ⊥
  no_fault target (NoLog location) is f b = b
  no_fault target (NoValue location) is f b = b
  no_fault target (BlockRejected block rejection) is f b =
      let r = subst (λ n. IsRejected payments n (served job.opens) job.blocks block rejection) is.start f.2 in
      never_rejected payments sequenced_value_laws 0 job.blocks settling.verdicts (served job.opens) settling.all (served_written job.opens) settling.runs
      block r.before.verdicts r.before.all r.batch rejection r.before.runs r.at r.offence
  no_fault target (LogFull block) is f b =
      never_full payments two_changes 0 (served job.opens) job.blocks block room (subst (λ n. IsFull payments n (served job.opens) job.blocks block) is.start f.2)
  no_fault target NoMemory is f b = b

  pub roomy_unfollowed : (fault : Fault) → IsOfBlock fault → FailsJob job fault → ⊥
  roomy_unfollowed fault b fails = no_fault fails.target fails.cause fails.is_served fails.fails (subst IsOfBlock fails.fault_is b)

module _ (text : List ℕ) (job : Job) (is_job : IsJob Local text job) (settling : Settling job) where
  -- a job that was read has room
  has_room : (0 + length (served job.opens)) + room_for job.blocks ≤ 2 ^ 62
  has_room = room (length (served job.opens)) (room_for job.blocks) (length text) (job_short Local text job is_job.is) is_job.within
    where
      room : (n r t : ℕ) → n + r ≤ 5 * t + 7 → t ≤ max_job → (0 + n) + r ≤ 2 ^ 62
      room n r t p q = omega (arith, p, q)

  settling_unfollowed : (fault : Fault) → IsOfBlock fault → FailsJob job fault → ⊥
  settling_unfollowed = roomy_unfollowed job has_room settling

ok_or_err : {X Y : Type 0} {x : X} {y : Y} → Ok x ≡ Err y → ⊥
ok_or_err e = absurd cc

none_or_some : {X : Type 0} {x : X} (o : Option X) → o ≡ None → o ≡ Some x → ⊥
none_or_some o e f = absurd cc

kind_is : (form : Option JobKind) (kind other : JobKind) → form ≡ Some kind → form ≡ Some other → other ≡ kind
kind_is form kind other e f = cc

-- a job that has a report has no cause to have none
ready_fails : (kind : JobKind) (text : List ℕ) (job : Job) (over : Over) (before now : ℕ) (fault : Fault) → IsJob kind text job → IsReady kind over.service job → Still kind before now over → HasNone kind job over fault → ⊥
ready_fails Local text job over before now fault is ready still h = settling_unfollowed text job is ready fault h.0 h.1
ready_fails Follow text job over before now fault is ready still h = h.1.served ready.0 ready.1 still.1

module _ (form : Option JobKind) (kind : JobKind) (text : List ℕ) (read_before read_now wrote_before wrote_now dialed_before dialed_now : ℕ) (over : Over) (status : ℕ) (f : form ≡ Some kind) (right : IsRight kind over.service text)
    (unread : Rose read_before read_now → ⊥) (unwritten : Rose wrote_before wrote_now → ⊥) (still : Still kind dialed_before dialed_now over) where
  undialed : (k : JobKind) → k ≡ Follow → Still k dialed_before dialed_now over → Rose dialed_before dialed_now → ⊥
  undialed Local e s r = absurd cc
  undialed Follow e s r = s.0 r

  misread : (line : ℕ) → Misread form (Some text) line → ⊥
  misread line m =
      let o = subst (λ k. Offends k text line) (kind_is form kind m.kind f m.form_is) m.offends in
      ok_or_err (sym right.is_job.is ∙ o.is)

  unfollowed : (fault : Fault) → Unfollowed form (Some text) over fault → ⊥
  unfollowed fault u =
      let same = kind_is form kind u.kind f u.form_is in
      let is : IsJob kind text u.job = subst (λ k. IsJob k text u.job) same u.is_job in
      let fails : HasNone kind u.job over fault = subst (λ k. HasNone k u.job over fault) same u.fails in
      let one : u.job ≡ right.job = ok_is u.job right.job _ is.is right.is_job.is in
      ready_fails kind text right.job over dialed_before dialed_now fault right.is_job right.ready still (subst (λ j. HasNone kind j over fault) one fails)

  ends : (fault : Option RunFault) → status ≡ status_of fault → IfSome fault (Caused form (Some text) read_before read_now wrote_before wrote_now dialed_before dialed_now over) → (status ≡ 0) ⊎ (status ≡ 11)
  ends None e c = inl e
  ends (Some Usage) e c = absurd (none_or_some form c f)
  ends (Some (BadJob line)) e c = absurd (misread line c)
  ends (Some JobRead) e c = absurd (unread c.1)
  ends (Some JobTooLarge) e c = absurd (omega (arith, c.1, right.is_job.within))
  ends (Some Dial) e c = absurd (undialed kind (kind_is form Follow kind c.form_is f) still c.rose)
  ends (Some (RunFollow fault)) e c = absurd (unfollowed fault c)
  ends (Some Output) e c = absurd (unwritten c.1)
  ends (Some OutOfMemory) e c = inr e

-- what the cause of a fault leaves of a job that has a report
pub completes : (form : Option JobKind) (left : Option (List ℕ)) (read_before read_now wrote_before wrote_now dialed_before dialed_now : ℕ) (over : Over) (fault : Option RunFault) (status : ℕ) → status ≡ status_of fault
    → IfSome fault (Caused form left read_before read_now wrote_before wrote_now dialed_before dialed_now over) → Completes form left read_before read_now wrote_before wrote_now dialed_before dialed_now over status
completes form None rb rn wb wn d dn over fault status e c = λ kind f. tt
completes form (Some text) rb rn wb wn d dn over fault status e c = λ kind f right unread unwritten still. ends form kind text rb rn wb wn d dn over status f right unread unwritten still fault e c

-- The causes of a run's faults, from those of its parts.
use Rattle.std.proofs.Common.{◌≡◌, ◌∙◌, ◌==◌, ℕ, true, false, List, Option, Some, None, refl, subst, sym, ap, true≢false}
use Rattle.std.specs.Prelude.{IfSome, slice_get, is_some, not}
use Rattle.ledger_job.specs.declared.block.Block.{Block}
use Rattle.ledger_job.specs.declared.job.Job.{Job}
use Rattle.ledger_job.specs.declared.kind.JobKind.{JobKind}
use Rattle.ledger_job.specs.declared.kind.JobKind.TheVariants.{Local, Follow}
use Rattle.ledger_job.specs.declared.payment.Payment.{Payment}
use Rattle.ledger_log.specs.declared.any.AnyOp.{AnyOp}
use Rattle.ledger_log.specs.declared.target.Target.{Target}
use Rattle.ledger_program.specs.Faults.{fault_of}
use Rattle.ledger_program.specs.Peer.{payments, Over}
use Rattle.ledger_program.specs.Run.{IsJob, IsServed, FailsJob, LocalFails, JobFails, ReadFails, Attempted, Caused, run_fault_of, is_undialed, follow_status, status_of}
use Rattle.ledger_program.specs.Served.{served}
use Rattle.ledger_program.specs.declared.fault.Fault.{Fault}
use Rattle.ledger_program.specs.declared.fault.Fault.TheVariants.{Network, RequestChannelClosed, InvalidResponse, UnexpectedResponse, Server, InvalidProof, TooManyStrays, StaleUpdate, WrongRoot, BadLog, BadValue, Rejected, Full, OutOfMemory as FollowMemory}
use Rattle.ledger_program.specs.declared.outcome.RunFault.{RunFault}
use Rattle.ledger_program.specs.declared.outcome.RunFault.TheVariants.{Usage, BadJob, JobRead, JobTooLarge, Dial, Follow as RunFollow, Output, OutOfMemory}
use Rattle.ledger_settling.specs.Faults.{RunFails}
use Rattle.ledger_settling.specs.Reports.{IsWhole}
use Rattle.ledger_program.proofs.Locals.{served_readable}
use Rattle.ledger_settling.specs.declared.fault.ReportFault.{ReportFault}
use Rattle.ledger_settling.specs.declared.fault.ReportFault.TheVariants.{BadLog as NoLog, BadValue as NoValue, Rejected as BlockRejected, Full as LogFull, OutOfMemory as NoMemory}

module _ (job : Job) (target : Target) (kept : List AnyOp) (blocks : List (Block Payment)) (is : IsServed job target) (k : kept ≡ served job.opens) (b : blocks ≡ job.blocks) (w : IsWhole target.start kept) where
  fails_job : (cause : ReportFault) → RunFails payments target kept blocks cause → FailsJob job (fault_of cause)
  fails_job cause f = record {
    target = target;
    is_served = is;
    cause = cause;
    fault_is = refl;
    fails = subst (λ ops. RunFails payments target ops job.blocks cause) k (subst (λ bs. RunFails payments target kept bs cause) b f);
  }

  -- what keeps the report away keeps the job's report away
  pub local_fails : (cause : ReportFault) → RunFails payments target kept blocks cause → LocalFails job (run_fault_of (fault_of cause))
  local_fails (NoLog location) f = absurd (f.1 w)
  local_fails (NoValue location) f = absurd (served_readable job.opens f.1.place f.1.op (sym (ap (λ ops. slice_get ops f.1.place) k) ∙ f.1.at) f.1.unreadable)
  local_fails (BlockRejected block rejection) f = (tt, fails_job (BlockRejected block rejection) f)
  local_fails (LogFull block) f = (tt, fails_job (LogFull block) f)
  local_fails NoMemory f = tt

-- a fault of following the job that was read
pub attempted : (form : Option JobKind) (left : Option (List ℕ)) (before now dialed dialed_now : ℕ) (over : Over) (kind : JobKind) (job : Job) (fault : RunFault) → form ≡ Some kind → IfSome left (λ text. IsJob kind text job)
    → JobFails kind job over dialed dialed_now fault → Attempted form left before now dialed dialed_now over fault
attempted form left before now d dn over Local job Usage e j f = absurd f
attempted form left before now d dn over Local job (BadJob line) e j f = absurd f
attempted form left before now d dn over Local job JobRead e j f = absurd f
attempted form left before now d dn over Local job JobTooLarge e j f = absurd f
attempted form left before now d dn over Local job Dial e j f = absurd f
attempted form left before now d dn over Local job (RunFollow fault) e j f = record { kind = Local; form_is = e; job = job; is_job = j; fails = f }
attempted form left before now d dn over Local job Output e j f = absurd f
attempted form left before now d dn over Local job OutOfMemory e j f = ap is_some e
attempted form left before now d dn over Follow job Usage e j f = absurd f
attempted form left before now d dn over Follow job (BadJob line) e j f = absurd f
attempted form left before now d dn over Follow job JobRead e j f = absurd f
attempted form left before now d dn over Follow job JobTooLarge e j f = absurd f
attempted form left before now d dn over Follow job Dial e j f = record { form_is = e; job = job; is_job = j; rose = f.0; silent = f.1 }
attempted form left before now d dn over Follow job (RunFollow fault) e j f = record { kind = Follow; form_is = e; job = job; is_job = j; fails = f }
attempted form left before now d dn over Follow job Output e j f = absurd f
attempted form left before now d dn over Follow job OutOfMemory e j f = ap is_some e

-- why no job was read
pub unread : (form : Option JobKind) (left : Option (List ℕ)) (before now dialed dialed_now : ℕ) (over : Over) (kind : JobKind) (fault : RunFault) → form ≡ Some kind → ReadFails kind left before now fault → Attempted form left before now dialed dialed_now over fault
unread form left before now d dn over kind Usage e f = absurd f
unread form left before now d dn over kind (BadJob line) e f = record { kind = kind; form_is = e; offends = f }
unread form left before now d dn over kind JobRead e f = (ap is_some e, f)
unread form left before now d dn over kind JobTooLarge e f = (ap is_some e, f)
unread form left before now d dn over kind Dial e f = absurd f
unread form left before now d dn over kind (RunFollow fault) e f = absurd f
unread form left before now d dn over kind Output e f = absurd f
unread form left before now d dn over kind OutOfMemory e f = ap is_some e

-- a fault of following a job isn't one that comes before a dial
pub followed_late : (kind : JobKind) (job : Job) (over : Over) (dialed dialed_now : ℕ) (fault : RunFault) → JobFails kind job over dialed dialed_now fault → is_undialed (Some fault) ≡ true → ⊥
followed_late Local job over d dn Usage f e = f
followed_late Local job over d dn (BadJob line) f e = f
followed_late Local job over d dn JobRead f e = f
followed_late Local job over d dn JobTooLarge f e = f
followed_late Local job over d dn Dial f e = f
followed_late Local job over d dn (RunFollow fault) f e = true≢false (sym e)
followed_late Local job over d dn Output f e = f
followed_late Local job over d dn OutOfMemory f e = true≢false (sym e)
followed_late Follow job over d dn Usage f e = f
followed_late Follow job over d dn (BadJob line) f e = f
followed_late Follow job over d dn JobRead f e = f
followed_late Follow job over d dn JobTooLarge f e = f
followed_late Follow job over d dn Dial f e = true≢false (sym e)
followed_late Follow job over d dn (RunFollow fault) f e = true≢false (sym e)
followed_late Follow job over d dn Output f e = f
followed_late Follow job over d dn OutOfMemory f e = true≢false (sym e)

-- ---- statuses

follow_isnt_usage : (fault : Fault) → (follow_status fault == 2) ≡ false
follow_isnt_usage Network = refl
follow_isnt_usage RequestChannelClosed = refl
follow_isnt_usage InvalidResponse = refl
follow_isnt_usage (UnexpectedResponse number) = refl
follow_isnt_usage (Server code text) = refl
follow_isnt_usage (InvalidProof number) = refl
follow_isnt_usage TooManyStrays = refl
follow_isnt_usage (StaleUpdate start end) = refl
follow_isnt_usage (WrongRoot found) = refl
follow_isnt_usage (BadLog location) = refl
follow_isnt_usage (BadValue location) = refl
follow_isnt_usage (Rejected block rejection) = refl
follow_isnt_usage (Full block) = refl
follow_isnt_usage FollowMemory = refl

not_there : (form : Option JobKind) → is_some form ≡ true → false ≡ not (is_some form)
not_there form e = sym (ap not e)

-- status 2 comes exactly for words that are no form
pub usage_so : (form : Option JobKind) (left : Option (List ℕ)) (read read_now wrote wrote_now dialed dialed_now : ℕ) (over : Over) (fault : RunFault) → Caused form left read read_now wrote wrote_now dialed dialed_now over fault → (status_of (Some fault) == 2) ≡ not (is_some form)
usage_so form left r rn w wn d dn over Usage c = sym (ap (λ f. not (is_some f)) c)
usage_so form left r rn w wn d dn over (BadJob line) c = not_there form (ap is_some c.form_is)
usage_so form left r rn w wn d dn over JobRead c = not_there form c.0
usage_so form left r rn w wn d dn over JobTooLarge c = not_there form c.0
usage_so form left r rn w wn d dn over Dial c = not_there form (ap is_some c.form_is)
usage_so form left r rn w wn d dn over (RunFollow fault) c = follow_isnt_usage fault ∙ not_there form (ap is_some c.form_is)
usage_so form left r rn w wn d dn over Output c = not_there form c.0
usage_so form left r rn w wn d dn over OutOfMemory c = not_there form c

-- the same of an outcome, of which words that are a form have no other without a fault
pub usage_of : (form : Option JobKind) (left : Option (List ℕ)) (read read_now wrote wrote_now dialed dialed_now : ℕ) (over : Over) (fault : Option RunFault) (status : ℕ) → status ≡ status_of fault → (fault ≡ None → is_some form ≡ true)
    → IfSome fault (Caused form left read read_now wrote wrote_now dialed dialed_now over) → (status == 2) ≡ not (is_some form)
usage_of form left r rn w wn d dn over None status s n c = ap (λ k. k == 2) s ∙ not_there form (n refl)
usage_of form left r rn w wn d dn over (Some fault) status s n c = ap (λ k. k == 2) s ∙ usage_so form left r rn w wn d dn over fault c

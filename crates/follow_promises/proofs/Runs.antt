-- Runs of an empty job, and of one whose only line is none.
use Rattle.std.proofs.Common.{◌≡◌, ◌<◌, ◌≤◌, ℕ, List, [], ◌∷◌, Option, Some, None, Result, Ok, Err, map, length, true, refl, sym, ap, subst, ◌∙◌, arith, inl, inr}
use Rattle.std.specs.Prelude.{◌⊎◌, IfSome, IsSome, codes}
use Rattle.std.specs.List.{filter_map}
use Rattle.ledger_codec.specs.Causes.{Rose}
use Rattle.ledger_job.specs.Jobs.{first_offence, job_from, job_of, read_lines}
use Rattle.ledger_job.specs.Lines.{fields_of, line_of, lines_of}
use Rattle.ledger_job.specs.declared.job.Job.{Job}
use Rattle.ledger_job.specs.declared.kind.JobKind.{JobKind}
use Rattle.ledger_job.specs.declared.kind.JobKind.TheVariants as kinds
use Rattle.ledger_job.specs.declared.line.Line.{Line}
use Rattle.ledger_program.specs.Forms.{form_of}
use Rattle.ledger_program.specs.Peer.{Over}
use Rattle.ledger_program.specs.Run.{Caused, Completes, Followed, IsEarly, IsJob, IsRight, Settling, has_report, is_undialed, status_of}
use Rattle.ledger_program.specs.Served.{served}
use Rattle.ledger_program.specs.declared.outcome.RunFault.{RunFault}
use Rattle.ledger_program.specs.declared.outcome.RunFault.TheVariants as faults
use Rattle.ledger_settling.specs.declared.report.Report.{Report}
use Rattle.ledger_transfers.specs.declared.sequenced.Sequenced.{Sequenced}
use Rattle.sync_net.specs.Service.{Service}

-- no count rises from 0 to 0
pub no_rise : Rose 0 0 → ⊥
no_rise h = omega (arith, h)

-- ---- an empty job

-- the job that a text without lines asks for
abbrev pub empty_job : Job
empty_job = job_from (filter_map (λ (line : Option Line). line) (read_lines []))

asks_nothing : job_of kinds.Local [] ≡ Ok empty_job
unfolding job_of first_offence lines_of line_of fields_of
asks_nothing = refl

settles : Settling empty_job
unfolding job_from lines_of line_of
settles = record { verdicts = []; all = served empty_job.opens; runs = refl }

within : length {A = ℕ} [] ≤ 67108864
within = omega arith

is_right : (service : Option Service) → IsRight kinds.Local service []
is_right service = record { job = empty_job; is_job = record { within = within; is = asks_nothing }; ready = settles }

is_local : form_of (codes "local" ∷ []) ≡ Some kinds.Local
is_local = refl

pub ends_calmly : (words : List (List ℕ)) (over : Over) (status : ℕ) → words ≡ codes "local" ∷ [] → Completes (form_of words) (Some []) 0 0 0 0 0 0 over status → (status ≡ 0) ⊎ (status ≡ 11)
ends_calmly words over status are completes = completes kinds.Local (ap form_of are ∙ is_local) (is_right over.service) no_rise no_rise tt

-- ---- a job of one strange line

no_job : job_of kinds.Follow (63 ∷ []) ≡ Err 1
unfolding job_of first_offence lines_of line_of fields_of
no_job = refl

pub is_follow : form_of (codes "follow" ∷ codes "a" ∷ []) ≡ Some kinds.Follow
is_follow = refl

module _ (words : List (List ℕ)) (text : List ℕ) (over : Over) (are : words ≡ codes "follow" ∷ codes "a" ∷ []) (strange : text ≡ 63 ∷ []) where
  asks : form_of words ≡ Some kinds.Follow
  asks = ap form_of are ∙ is_follow

  -- there is no such job
  never_job : (kind : JobKind) (job : Job) → form_of words ≡ Some kind → IsJob kind text job → ⊥
  never_job kind job form is =
      let same : kinds.Follow ≡ kind = (let k = sym asks ∙ form in cc k) in
      let read : job_of kinds.Follow text ≡ Ok job = ap (λ (k : JobKind). job_of k text) same ∙ is.is in
      let both = sym no_job ∙ ap (job_of kinds.Follow) (sym strange) ∙ read in
      cc both

  never_followed : (report : Report Sequenced) → Followed (form_of words) (Some text) over report → ⊥
  never_followed report followed = never_job followed.kind followed.job followed.form_is followed.is_job

  no_report : (report : Option (Report Sequenced)) → IsSome report → IfSome report (Followed (form_of words) (Some text) over) → ⊥
  no_report (Some report) some followed = never_followed report followed
  no_report None some followed = cc some

  -- the fault of a run of it comes before a dial, or is want of memory
  pub stops_early : (read_before read_now : ℕ) (report : Option (Report Sequenced)) (fault : Option RunFault) (status : ℕ) → status ≡ status_of fault
      → IfSome report (Followed (form_of words) (Some text) over) → (has_report fault ≡ true → IsSome report)
      → IfSome fault (Caused (form_of words) (Some text) read_before read_now 0 0 0 0 over) → (status ≡ 11) ⊎ (is_undialed fault ≡ true)
  stops_early read_before read_now report None status e followed some caused = absurd (no_report report (some refl) followed)
  stops_early read_before read_now report (Some faults.Output) status e followed some caused = absurd (no_report report (some refl) followed)
  stops_early read_before read_now report (Some faults.OutOfMemory) status e followed some caused = inl e
  stops_early read_before read_now report (Some faults.Usage) status e followed some caused = inr refl
  stops_early read_before read_now report (Some (faults.BadJob line)) status e followed some caused = inr refl
  stops_early read_before read_now report (Some faults.JobRead) status e followed some caused = inr refl
  stops_early read_before read_now report (Some faults.JobTooLarge) status e followed some caused = inr refl
  stops_early read_before read_now report (Some faults.Dial) status e followed some caused = absurd (no_rise caused.rose)
  stops_early read_before read_now report (Some (faults.Follow fault)) status e followed some caused = absurd (never_job caused.kind caused.job caused.form_is caused.is_job)

  -- so there is no report
  pub no_report_for : (report : Option (Report Sequenced)) (fault : Option RunFault) (status : ℕ)
      → IfSome report (Followed (form_of words) (Some text) over) → (has_report fault ≡ true → IsSome report)
      → IfSome fault (λ f. IsEarly f → (status ≡ 11) ⊎ (report ≡ None)) → (status ≡ 11) ⊎ (report ≡ None)
  no_report_for report None status followed some unreported = absurd (no_report report (some refl) followed)
  no_report_for report (Some faults.Output) status followed some unreported = absurd (no_report report (some refl) followed)
  no_report_for report (Some faults.OutOfMemory) status followed some unreported = unreported tt
  no_report_for report (Some faults.Usage) status followed some unreported = unreported tt
  no_report_for report (Some (faults.BadJob line)) status followed some unreported = unreported tt
  no_report_for report (Some faults.JobRead) status followed some unreported = unreported tt
  no_report_for report (Some faults.JobTooLarge) status followed some unreported = unreported tt
  no_report_for report (Some faults.Dial) status followed some unreported = unreported tt
  no_report_for report (Some (faults.Follow fault)) status followed some unreported = unreported tt

-- ---- reading and printing

pub never_longer : 10 < length {A = ℕ} [] → ⊥
never_longer lt = omega (arith, lt)

-- either the status is so, or what follows from the other case
pub or_so : {P Q : Type 0} (status : ℕ) → (status ≡ 11) ⊎ P → (P → Q) → (status ≡ 11) ⊎ Q
or_so status (inl late) f = inl late
or_so status (inr p) f = inr (f p)

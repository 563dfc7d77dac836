-- The words of a small job, over a sink whose count never rises.
use Rattle.std.proofs.Common.{◌≡◌, ℕ, List, [], ◌∷◌, true, false, Option, Some, None, refl, sym, ap, ◌∙◌, arith, inl, inr, true≢false}
use Rattle.std.specs.Prelude.{◌⊎◌, codes, is_some, IfSome, IsSome}
use Rattle.ledger_codec.specs.Causes.{Rose}
use Rattle.ledger_job.specs.Number.{is_plain_decimal, number_of}
use Rattle.ledger_program.specs.Run.{has_report, status_of}
use Rattle.ledger_program.specs.declared.outcome.RunFault.{RunFault}
use Rattle.ledger_program.specs.declared.outcome.RunFault.TheVariants as faults
use Rattle.ledger_settling.specs.declared.report.Report.{Report}
use Rattle.ledger_transfers.specs.declared.sequenced.Sequenced.{Sequenced}
use Rattle.ledger_generate.specs.Runs.{Caused, Completes}
use Rattle.ledger_generate.specs.Words.{form_of}

-- four accounts and six payments
abbrev pub small_words : List (List ℕ)
small_words = codes "generate" ∷ codes "7" ∷ codes "4" ∷ codes "6" ∷ []

-- no count rises from 0 to 0
no_rise : Rose 0 0 → ⊥
no_rise h = omega (arith, h)

asks : is_some (form_of small_words) ≡ true
unfolding number_of is_plain_decimal
asks = refl

asks_so : (words : List (List ℕ)) → words ≡ small_words → is_some (form_of words) ≡ true
asks_so words are = ap (λ (w : List (List ℕ)). is_some (form_of w)) are ∙ asks

pub calm_ends : (words : List (List ℕ)) (status : ℕ) → words ≡ small_words → Completes (form_of words) 0 0 status → (status ≡ 0) ⊎ (status ≡ 11)
calm_ends words status are completes = completes (asks_so words are) no_rise

-- there is a report, or memory was wanting
pub calm_reports : (words : List (List ℕ)) (report : Option (Report Sequenced)) (fault : Option RunFault) (status : ℕ) → words ≡ small_words → status ≡ status_of fault → IfSome fault (Caused (form_of words) 0 0) → (has_report fault ≡ true → IsSome report) → (status ≡ 11) ⊎ IsSome report
calm_reports words report None status are e caused reported = inr (reported refl)
calm_reports words report (Some faults.Output) status are e caused reported = inr (reported refl)
calm_reports words report (Some faults.OutOfMemory) status are e caused reported = inl e
calm_reports words report (Some faults.Usage) status are e caused reported = absurd (true≢false (sym (asks_so words are) ∙ ap is_some caused))
calm_reports words report (Some (faults.BadJob line)) status are e caused reported = absurd caused
calm_reports words report (Some faults.JobRead) status are e caused reported = absurd caused
calm_reports words report (Some faults.JobTooLarge) status are e caused reported = absurd caused
calm_reports words report (Some faults.Dial) status are e caused reported = absurd caused
calm_reports words report (Some (faults.Follow fault)) status are e caused reported = absurd caused

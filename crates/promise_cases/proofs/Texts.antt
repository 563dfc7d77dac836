-- Texts of one strange line, and names.
use Rattle.std.proofs.Common.{◌≡◌, ℕ, List, [], ◌∷◌, Option, Some, None, Result, Ok, Err, map, refl, sym, ap, subst, ◌∙◌}
use Rattle.std.specs.Prelude.{IfOk, MatchOption, codes}
use Rattle.ledger_examples.specs.Names.{Reads, mode_name, storage_name}
use Rattle.ledger_examples.specs.declared.names.SyncMode.{SyncMode}
use Rattle.ledger_examples.specs.declared.names.SyncMode.TheVariants as modes
use Rattle.ledger_examples.specs.declared.names.StorageKind.{StorageKind}
use Rattle.ledger_examples.specs.declared.names.StorageKind.TheVariants as kinds
use Rattle.ledger_job.specs.Jobs.{first_offence, job_of}
use Rattle.ledger_job.specs.Lines.{fields_of, line_of, lines_of}
use Rattle.ledger_job.specs.declared.job.Job.{Job}
use Rattle.ledger_job.specs.declared.job.JobFault.{JobFault}
use Rattle.ledger_job.specs.declared.job.JobFault.TheVariants.{BadLine, OutOfMemory}
use Rattle.ledger_job.specs.declared.kind.JobKind.TheVariants as job_kinds
use Rattle.ledger_job.specs.declared.line.Open.{Open}
use Rattle.serve_parts.specs.Accounts.{accounts_of}
use Rattle.promise_cases.specs.Texts.{OffendsFirst}

-- ---- names

is_full : (found : Option SyncMode) → MatchOption found ((mode : SyncMode) → Reads (codes "Full") (mode_name mode) → ⊥) (λ mode. Reads (codes "Full") (mode_name mode)) → found ≡ Some modes.Full
is_full None h = absurd (h modes.Full refl)
is_full (Some modes.Full) h = refl
is_full (Some modes.Compact) h = absurd (cc h)

is_compact : (found : Option StorageKind) → MatchOption found ((kind : StorageKind) → Reads (codes "compacT") (storage_name kind) → ⊥) (λ kind. Reads (codes "compacT") (storage_name kind)) → found ≡ Some kinds.Compact
is_compact None h = absurd (h kinds.Compact refl)
is_compact (Some kinds.Full) h = absurd (cc h)
is_compact (Some kinds.Compact) h = refl

-- ---- one strange line

-- a reading that is right, and whose faults are told, tells that of the first line
offends : {X Y : Type 0} (view : X → Y) (spelled : Result Y ℕ) (result : Result X JobFault) → spelled ≡ Err 1 → IfOk result (λ x. spelled ≡ Ok (view x)) → ((n : ℕ) → result ≡ Err (BadLine n) → spelled ≡ Err n) → OffendsFirst result
offends view spelled (Ok x) first right told = absurd (let k = sym first ∙ right in cc k)
offends view spelled (Err (BadLine n)) first right told = (let k = sym (told n refl) ∙ first in cc k)
offends view spelled (Err OutOfMemory) first right told = tt

no_job : job_of job_kinds.Local (63 ∷ []) ≡ Err 1
unfolding job_of first_offence lines_of line_of fields_of
no_job = refl

no_accounts : accounts_of (63 ∷ []) ≡ Err 1
unfolding accounts_of lines_of line_of fields_of
no_accounts = refl

pub strange_job : (text : List ℕ) (result : Result Job JobFault) → text ≡ 63 ∷ [] → IfOk result (λ job. job_of job_kinds.Local text ≡ Ok job) → ((n : ℕ) → result ≡ Err (BadLine n) → job_of job_kinds.Local text ≡ Err n) → OffendsFirst result
strange_job text result is right told = offends (λ (job : Job). job) (job_of job_kinds.Local text) result (ap (job_of job_kinds.Local) is ∙ no_job) right told

pub strange_opens : {V : Type 0} (items : V → List Open) (text : List ℕ) (result : Result V JobFault) → text ≡ 63 ∷ [] → IfOk result (λ accounts. accounts_of text ≡ Ok (items accounts)) → ((n : ℕ) → result ≡ Err (BadLine n) → accounts_of text ≡ Err n) → OffendsFirst result
strange_opens items text result is right told = offends items (accounts_of text) result (ap accounts_of is ∙ no_accounts) right told

-- what a name is read as, of a text that is this one
pub reads_full : (text : List ℕ) (found : Option SyncMode) → text ≡ codes "Full" → MatchOption found ((mode : SyncMode) → Reads text (mode_name mode) → ⊥) (λ mode. Reads text (mode_name mode)) → found ≡ Some modes.Full
reads_full text found is h =
    is_full found (subst (λ (t : List ℕ). MatchOption found ((mode : SyncMode) → Reads t (mode_name mode) → ⊥) (λ mode. Reads t (mode_name mode))) is h)

pub reads_compact : (text : List ℕ) (found : Option StorageKind) → text ≡ codes "compacT" → MatchOption found ((kind : StorageKind) → Reads text (storage_name kind) → ⊥) (λ kind. Reads text (storage_name kind)) → found ≡ Some kinds.Compact
reads_compact text found is h =
    is_compact found (subst (λ (t : List ℕ). MatchOption found ((kind : StorageKind) → Reads t (storage_name kind) → ⊥) (λ kind. Reads t (storage_name kind))) is h)

-- What `serve` answers.
use Rattle.std.specs.Prelude.{◌≡◌, ◌≤◌, ◌⊎◌, ℕ, Bool, true, false, List, [], ◌++◌, length, take, Option, Some, None, Ok, Err, is_some, IfSome}
use Rattle.std.specs.Io.KnownBytes.{Appends}
use Rattle.ledger_codec.specs.Causes.{Rose}
use Rattle.ledger_job.specs.declared.line.Open.{Open}
use Rattle.ledger_program.specs.ErrorLines.{line_of}
use Rattle.ledger_program.specs.Reading.{HeldMore}
use Rattle.ledger_program.specs.Run.{max_job, LineWent}
use Rattle.ledger_program.specs.declared.outcome.RunFault.{RunFault}
use Rattle.ledger_program.specs.declared.outcome.RunFault.TheVariants.{Usage, BadJob, JobRead, JobTooLarge, Dial, Output, OutOfMemory}
use Rattle.serve_parts.specs.Accounts.{accounts_of}
use Rattle.serve_parts.specs.declared.form.ServeForm.{ServeForm}
use Rattle.serve_parts.specs.declared.form.ServedFrom.{ServedFrom}
use Rattle.serve_parts.specs.declared.form.ServedFrom.TheVariants as source
use Rattle.ledger_serve.specs.Lines.{listening, both_lines}
use Rattle.ledger_serve.specs.Links.{Took}

-- the text opens these accounts
pub record IsJob (text : List ℕ) (accounts : List Open) : Type 0 where
  pub within : length text ≤ max_job
  pub is : accounts_of text ≡ Ok accounts

-- this line is the least offending one of the text
pub record Offends (text : List ℕ) (line : ℕ) : Type 0 where
  pub within : length text ≤ max_job
  pub is : accounts_of text ≡ Err line

-- why no accounts were read from a source that held these bytes and whose count went from the one number to the other
abbrev pub ReadFails : Option (List ℕ) → ℕ → ℕ → RunFault → Type 0
ReadFails left before now (BadJob line) = IfSome left (λ text. Offends text line)
ReadFails left before now JobRead = Rose before now
ReadFails left before now JobTooLarge = HeldMore max_job left
ReadFails left before now OutOfMemory = Unit {0}
ReadFails left before now fault = ⊥

-- all connections were served: the links were taken in order, as many sessions were started and joined, and both lines
-- were written
pub record Served {L : Type 0} (count : ℕ) (coming coming_now : Option (List L)) (started joined : ℕ) (old new : Option (List ℕ)) : Type 0 where
  pub took : Took count coming coming_now
  pub started_all : started ≡ count
  pub joined_all : joined ≡ count
  pub wrote : Appends old new (both_lines count)

-- why a log that there is wasn't served to the end, by the counts of the listener and of the sink
abbrev pub Stops : ℕ → ℕ → ℕ → ℕ → RunFault → Type 0
Stops listened listened_now wrote wrote_now Dial = Rose listened listened_now
Stops listened listened_now wrote wrote_now Output = Rose wrote wrote_now
Stops listened listened_now wrote wrote_now OutOfMemory = Unit {0}
Stops listened listened_now wrote wrote_now fault = ⊥

-- what may have been written before a fault, of these lines
abbrev pub IsBefore : List ℕ → RunFault → List ℕ → Type 0
IsBefore lines Dial text = text ≡ listening
IsBefore lines Output text = (front : ℕ) × (text ≡ take front lines)
IsBefore lines OutOfMemory text = (front : ℕ) × (text ≡ take front lines)
IsBefore lines fault text = text ≡ []

-- that was written, and no more
pub record Leaves (lines : List ℕ) (old new : Option (List ℕ)) (fault : RunFault) : Type 0 where
  pub text : List ℕ
  pub before : IsBefore lines fault text
  pub went : Appends old new text

-- and behind it a front of the fault's line: the whole of it unless the sink failed, or memory was wanting in one that grows
pub record Wrote (grows : Bool) (lines : List ℕ) (old new : Option (List ℕ)) (wrote wrote_now : ℕ) (fault : RunFault) : Type 0 where
  pub text : List ℕ
  pub before : IsBefore lines fault text
  pub front : ℕ
  pub went : Appends old new (text ++ take front (line_of fault))
  pub whole : LineWent grows wrote wrote_now (Appends old new (text ++ line_of fault))

-- the lines of a form
abbrev pub lines_for : Option ServeForm → List ℕ
lines_for None = []
lines_for (Some form) = both_lines form.connections

-- a job is read
abbrev pub is_job : ServedFrom → Bool
is_job source.Test = false
is_job source.Job = true

abbrev pub reads_job : Option ServeForm → Bool
reads_job None = false
reads_job (Some form) = is_job form.source

-- the cause of each fault: of words, of what the source held and its count, and of the counts of the listener and the sink
abbrev pub Caused : Option ServeForm → Option (List ℕ) → ℕ → ℕ → ℕ → ℕ → ℕ → ℕ → RunFault → Type 0
Caused form left read read_now listened listened_now wrote wrote_now Usage = form ≡ None
Caused form left read read_now listened listened_now wrote wrote_now (BadJob line) = (reads_job form ≡ true) × IfSome left (λ text. Offends text line)
Caused form left read read_now listened listened_now wrote wrote_now JobRead = (reads_job form ≡ true) × Rose read read_now
Caused form left read read_now listened listened_now wrote wrote_now JobTooLarge = (reads_job form ≡ true) × HeldMore max_job left
Caused form left read read_now listened listened_now wrote wrote_now Dial = (is_some form ≡ true) × Rose listened listened_now
Caused form left read read_now listened listened_now wrote wrote_now Output = (is_some form ≡ true) × Rose wrote wrote_now
Caused form left read read_now listened listened_now wrote wrote_now OutOfMemory = is_some form ≡ true
Caused form left read read_now listened listened_now wrote wrote_now fault = ⊥

-- the form was served: where a job was read and the source told its bytes, they are one that opens accounts
pub record ServedAs {L : Type 0} (form : Option ServeForm) (left : Option (List ℕ)) (coming coming_now : Option (List L)) (started joined : ℕ) (old new : Option (List ℕ)) : Type 0 where
  pub asked : ServeForm
  pub form_is : form ≡ Some asked
  pub job : is_job asked.source ≡ true → IfSome left (λ text. (accounts : List Open) × IsJob text accounts)
  pub served : Served asked.connections coming coming_now started joined old new

-- the line that a fault names
abbrev pub line_in : Option RunFault → Option ℕ
line_in (Some (BadJob line)) = Some line
line_in fault = None

-- where a job is read, the source told it, and it is one that opens accounts
abbrev pub IsRight : ServedFrom → Option (List ℕ) → Type 0
IsRight source.Test left = Unit {0}
IsRight source.Job None = ⊥
IsRight source.Job (Some text) = (accounts : List Open) × IsJob text accounts

-- a form, whose job is right where one is read, is served unless a count rises or memory is wanting
abbrev pub Completes : Option ServeForm → Option (List ℕ) → ℕ → ℕ → ℕ → ℕ → ℕ → ℕ → ℕ → Type 0
Completes form left read read_now listened listened_now wrote wrote_now status =
    (asked : ServeForm) → form ≡ Some asked → IsRight asked.source left → (Rose read read_now → ⊥) → (Rose listened listened_now → ⊥) → (Rose wrote wrote_now → ⊥) → (status ≡ 0) ⊎ (status ≡ 11)

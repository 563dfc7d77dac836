-- The words of the program, and what it answers.
use Rattle.std.specs.Prelude.{◌≡◌, ◌≤◌, ℕ, Bool, true, false, List, [], ◌++◌, Option, Some, None, Ok, Err, length, take, is_some, IfSome, IsTrue, ◌⊎◌, ⊤}
use Rattle.std.specs.Io.KnownBytes.{Appends}
use Rattle.ledger_job.specs.Jobs.{job_of}
use Rattle.ledger_job.specs.declared.block.BlockVerdicts.{BlockVerdicts}
use Rattle.ledger_job.specs.declared.job.Job.{Job}
use Rattle.ledger_job.specs.declared.kind.JobKind.{JobKind}
use Rattle.ledger_job.specs.declared.kind.JobKind.TheVariants.{Local, Follow}
use Rattle.ledger_codec.specs.Causes.{Rose}
use Rattle.ledger_log.specs.View.{LogView}
use Rattle.ledger_log.specs.declared.any.AnyOp.{AnyOp}
use Rattle.ledger_log.specs.declared.target.Target.{Target}
use Rattle.ledger_program.specs.ErrorLines.{line_of}
use Rattle.ledger_program.specs.Faults.{fault_of}
use Rattle.ledger_program.specs.Peer.{payments, Over, ReportsPeer, FailsPeer, IsServing, IsNoMemory, PeerFails}
use Rattle.ledger_program.specs.Reading.{HeldMore}
use Rattle.ledger_program.specs.Served.{served}
use Rattle.ledger_program.specs.Text.{text_of}
use Rattle.ledger_program.specs.Writing.{AppendsFront}
use Rattle.ledger_program.specs.declared.fault.Fault.{Fault}
use Rattle.ledger_program.specs.declared.fault.Fault.TheVariants.{Network, RequestChannelClosed, InvalidResponse, UnexpectedResponse, Server, InvalidProof, TooManyStrays, StaleUpdate, WrongRoot, BadLog, BadValue, Rejected, Full, OutOfMemory as FollowMemory}
use Rattle.ledger_program.specs.declared.outcome.RunFault.{RunFault}
use Rattle.ledger_program.specs.declared.outcome.RunFault.TheVariants.{Usage, BadJob, JobRead, JobTooLarge, Dial, Follow as RunFollow, Output, OutOfMemory}
use Rattle.ledger_settling.specs.Blocks.{RunsTo}
use Rattle.ledger_settling.specs.Faults.{RunFails}
use Rattle.ledger_settling.specs.Reports.{ReportOf, Spans}
use Rattle.ledger_settling.specs.declared.fault.ReportFault.{ReportFault}
use Rattle.ledger_settling.specs.declared.report.Report.{Report}
use Rattle.ledger_transfers.specs.declared.sequenced.Sequenced.{Sequenced}
use Rattle.sync_net.specs.Core.{LogData}
use Rattle.sync_net.specs.Service.{Service}

-- the greatest number of bytes of a job
abbrev pub max_job : ℕ
max_job = 67108864

-- the text is this job of the kind
pub record IsJob (kind : JobKind) (text : List ℕ) (job : Job) : Type 0 where
  pub within : length text ≤ max_job
  pub is : job_of kind text ≡ Ok job

-- this line is the least offending one of the text as a job of the kind
pub record Offends (kind : JobKind) (text : List ℕ) (line : ℕ) : Type 0 where
  pub within : length text ≤ max_job
  pub is : job_of kind text ≡ Err line

-- the target is that of the log that the job serves
pub record IsServed (job : Job) (target : Target) : Type 0 where
  pub start : target.start ≡ 0
  pub end : target.end ≡ length (served job.opens)

-- the report is the one of the job's blocks over the log that it serves
pub record ReportsJob (job : Job) (report : Report Sequenced) : Type 0 where
  pub target : Target
  pub is_served : IsServed job target
  pub pinned : report.pinned ≡ []
  pub kept : report.kept ≡ served job.opens
  pub report_is : ReportOf payments target job.blocks report

-- why the job's blocks have no report over the log that it serves
pub record FailsJob (job : Job) (fault : Fault) : Type 0 where
  pub target : Target
  pub is_served : IsServed job target
  pub cause : ReportFault
  pub fault_is : fault ≡ fault_of cause
  pub fails : RunFails payments target (served job.opens) job.blocks cause

-- a fault of a block
abbrev pub IsOfBlock : Fault → Type 0
IsOfBlock (Rejected block rejection) = ⊤
IsOfBlock (Full block) = ⊤
IsOfBlock fault = ⊥

-- the report is that of the job: over the log that it serves, or over what the dialed link gave
abbrev pub Reports : JobKind → Job → Over → Report Sequenced → Type 0
Reports Local job over report = ReportsJob job report
Reports Follow job over report = ReportsPeer job over report

-- why the job has no report: over the log that it serves, only for a block of it
abbrev pub HasNone : JobKind → Job → Over → Fault → Type 0
HasNone Local job over fault = IsOfBlock fault × FailsJob job fault
HasNone Follow job over fault = IsNoMemory fault × FailsPeer job over fault

-- there is a job of the kind that the words ask for whose report it is; where the source told its bytes, their text is that job
pub record Followed (form : Option JobKind) (left : Option (List ℕ)) (over : Over) (report : Report Sequenced) : Type 0 where
  pub kind : JobKind
  pub form_is : form ≡ Some kind
  pub job : Job
  pub is_job : IfSome left (λ text. IsJob kind text job)
  pub reports : Reports kind job over report

-- there is a job of that kind that has no report, for this cause; where the source told its bytes, their text is that job
pub record Unfollowed (form : Option JobKind) (left : Option (List ℕ)) (over : Over) (fault : Fault) : Type 0 where
  pub kind : JobKind
  pub form_is : form ≡ Some kind
  pub job : Job
  pub is_job : IfSome left (λ text. IsJob kind text job)
  pub fails : HasNone kind job over fault

-- where the source told its bytes, this line is the least offending one of their text as a job of the kind that the words ask for
pub record Misread (form : Option JobKind) (left : Option (List ℕ)) (line : ℕ) : Type 0 where
  pub kind : JobKind
  pub form_is : form ≡ Some kind
  pub offends : IfSome left (λ text. Offends kind text line)

-- the job's blocks settle, one after another, on the log that it serves
pub record Settling (job : Job) : Type 0 where
  pub verdicts : List BlockVerdicts
  pub all : List AnyOp
  pub runs : RunsTo payments 0 (served job.opens) job.blocks verdicts all

-- the job has a report: its blocks settle on the log that it serves, or the link serves what it names, and its input is valid
abbrev pub IsReady : JobKind → Option Service → Job → Type 0
IsReady Local service job = Settling job
IsReady Follow service job = (held : LogData) × IsServing held job service

-- the text is a job that has a report
pub record IsRight (kind : JobKind) (service : Option Service) (text : List ℕ) : Type 0 where
  pub job : Job
  pub is_job : IsJob kind text job
  pub ready : IsReady kind service job

-- no dial and no call of the link failed, where there is one
abbrev pub Still : JobKind → ℕ → ℕ → Over → Type 0
Still Local before now over = ⊤
Still Follow before now over = (Rose before now → ⊥) × (Rose over.count over.count_now → ⊥)

-- where the text is a job that has a report, and no count rose, only want of memory keeps the status from being 0
abbrev pub Completes : Option JobKind → Option (List ℕ) → ℕ → ℕ → ℕ → ℕ → ℕ → ℕ → Over → ℕ → Type 0
Completes form left read_before read_now wrote_before wrote_now dialed_before dialed_now over status =
    (kind : JobKind) → form ≡ Some kind
    → IfSome left (λ text. IsRight kind over.service text → (Rose read_before read_now → ⊥) → (Rose wrote_before wrote_now → ⊥) → Still kind dialed_before dialed_now over → (status ≡ 0) ⊎ (status ≡ 11))

-- the target of a whole log that begins at 0
pub record SpansLog (target : Target) (log : LogView AnyOp) : Type 0 where
  pub start : target.start ≡ 0
  pub end : target.end ≡ length log.ops
  pub spans : Spans target log.pinned log.ops

-- a fault of following a log as one of the run
abbrev pub run_fault_of : Fault → RunFault
run_fault_of FollowMemory = OutOfMemory
run_fault_of fault = RunFollow fault

-- why a job has no report over the log that it serves, which is a log of accounts: a block has none
abbrev pub LocalFails : Job → RunFault → Type 0
LocalFails job (RunFollow fault) = IsOfBlock fault × FailsJob job fault
LocalFails job OutOfMemory = ⊤
LocalFails job fault = ⊥

-- why a job of a kind has no report
abbrev pub JobFails : JobKind → Job → Over → ℕ → ℕ → RunFault → Type 0
JobFails Local job over before now fault = LocalFails job fault
JobFails Follow job over before now fault = PeerFails job over before now fault

-- why no job of a kind was read from a source that held these bytes and whose count went from the one number to the other
abbrev pub ReadFails : JobKind → Option (List ℕ) → ℕ → ℕ → RunFault → Type 0
ReadFails kind left before now (BadJob line) = IfSome left (λ text. Offends kind text line)
ReadFails kind left before now JobRead = Rose before now
ReadFails kind left before now JobTooLarge = HeldMore max_job left
ReadFails kind left before now OutOfMemory = ⊤
ReadFails kind left before now fault = ⊥

-- there is a job that asks for a dial, which failed, and nothing was sent or read; where the source told its bytes, their text is that job
pub record Undialed (form : Option JobKind) (left : Option (List ℕ)) (before now : ℕ) (over : Over) : Type 0 where
  pub form_is : form ≡ Some Follow
  pub job : Job
  pub is_job : IfSome left (λ text. IsJob Follow text job)
  pub rose : Rose before now
  pub silent : over.wire_now ≡ over.wire

-- why there is no report, cause by cause
abbrev pub Attempted : Option JobKind → Option (List ℕ) → ℕ → ℕ → ℕ → ℕ → Over → RunFault → Type 0
Attempted form left before now dialed_before dialed_now over Usage = form ≡ None
Attempted form left before now dialed_before dialed_now over (BadJob line) = Misread form left line
Attempted form left before now dialed_before dialed_now over JobRead = (is_some form ≡ true) × Rose before now
Attempted form left before now dialed_before dialed_now over JobTooLarge = (is_some form ≡ true) × HeldMore max_job left
Attempted form left before now dialed_before dialed_now over Dial = Undialed form left dialed_before dialed_now over
Attempted form left before now dialed_before dialed_now over (RunFollow fault) = Unfollowed form left over fault
Attempted form left before now dialed_before dialed_now over Output = ⊥
Attempted form left before now dialed_before dialed_now over OutOfMemory = is_some form ≡ true

-- a fault that comes before there is a dial
abbrev pub is_undialed : Option RunFault → Bool
is_undialed (Some Usage) = true
is_undialed (Some (BadJob line)) = true
is_undialed (Some JobRead) = true
is_undialed (Some JobTooLarge) = true
is_undialed fault = false

-- whether the job was read to its end before this fault
abbrev pub is_read : Option RunFault → Bool
is_read (Some Usage) = false
is_read (Some JobRead) = false
is_read (Some JobTooLarge) = false
is_read (Some OutOfMemory) = false
is_read fault = true

-- whether the report is there with this fault, or without one
abbrev pub has_report : Option RunFault → Bool
has_report None = true
has_report (Some Output) = true
has_report (Some fault) = false

-- the status of a fault of following a log
abbrev pub follow_status : Fault → ℕ
follow_status Network = 7
follow_status RequestChannelClosed = 7
follow_status InvalidResponse = 7
follow_status (UnexpectedResponse number) = 7
follow_status (Server code message) = 7
follow_status TooManyStrays = 7
follow_status (InvalidProof number) = 8
follow_status (StaleUpdate start end) = 8
follow_status (WrongRoot found) = 8
follow_status (BadLog location) = 8
follow_status (BadValue location) = 8
follow_status (Rejected block rejection) = 9
follow_status (Full block) = 9
follow_status FollowMemory = 11

-- the status of a fault, or of none
abbrev pub status_of : Option RunFault → ℕ
status_of None = 0
status_of (Some Usage) = 2
status_of (Some (BadJob line)) = 3
status_of (Some JobRead) = 4
status_of (Some JobTooLarge) = 5
status_of (Some Dial) = 6
status_of (Some (RunFollow fault)) = follow_status fault
status_of (Some Output) = 10
status_of (Some OutOfMemory) = 11

-- a front of the report's text went out, and then a front of a line
pub record FrontAndLine (old new : Option (List ℕ)) (text line : List ℕ) : Type 0 where
  pub front : ℕ
  pub then : ℕ
  pub went : Appends old new (take front text ++ take then line)

-- the text of the report, if there is one
abbrev pub text_if : Option (Report Sequenced) → List ℕ
text_if None = []
text_if (Some report) = text_of report

-- what went out where this text was to be written: it, a front of it, or a front of the error line; where memory was wanting, a
-- front of the text and then of the line
abbrev pub WroteText : Option (List ℕ) → Option (List ℕ) → List ℕ → Option RunFault → Type 0
WroteText old new text None = Appends old new text
WroteText old new text (Some Output) = AppendsFront old new text
WroteText old new text (Some OutOfMemory) = FrontAndLine old new text (line_of OutOfMemory)
WroteText old new text (Some fault) = AppendsFront old new (line_of fault)

-- the same where it is the report's text, if there is a report
abbrev pub Wrote : Option (List ℕ) → Option (List ℕ) → Option (Report Sequenced) → Option RunFault → Type 0
Wrote old new report fault = WroteText old new (text_if report) fault

-- the line of a fault went out, behind a front of the text where memory was wanting for the rest
abbrev pub WroteLine : Option (List ℕ) → Option (List ℕ) → List ℕ → RunFault → Type 0
WroteLine old new text OutOfMemory = (front : ℕ) × Appends old new (take front text ++ line_of OutOfMemory)
WroteLine old new text fault = Appends old new (line_of fault)

-- a line went out, or the sink failed, and its count rose, or memory was wanting in a sink that grows
abbrev pub LineWent : Bool → ℕ → ℕ → Type 0 → Type 0
LineWent grows before now Went = Went ⊎ (Rose before now ⊎ IsTrue grows)

-- the same of the line of a fault behind this text; after a failed write there is none
abbrev pub LineBehind : Bool → Option (List ℕ) → Option (List ℕ) → ℕ → ℕ → List ℕ → RunFault → Type 0
LineBehind grows old new before now text Output = ⊤
LineBehind grows old new before now text fault = LineWent grows before now (WroteLine old new text fault)

-- the same where it is the report's text, if there is a report
abbrev pub LineOut : Bool → Option (List ℕ) → Option (List ℕ) → ℕ → ℕ → Option (Report Sequenced) → RunFault → Type 0
LineOut grows old new before now report fault = LineBehind grows old new before now (text_if report) fault

-- why a text wasn't written whole: a front of it went out, and the sink failed, or memory was wanting
abbrev pub WriteFails : Option (List ℕ) → Option (List ℕ) → List ℕ → ℕ → ℕ → RunFault → Type 0
WriteFails old new text before now Output = AppendsFront old new text × Rose before now
WriteFails old new text before now OutOfMemory = AppendsFront old new text
WriteFails old new text before now fault = ⊥

-- a fault that may come before the report is there
abbrev pub IsEarly : RunFault → Type 0
IsEarly Output = ⊥
IsEarly fault = ⊤

-- a fault of writing the report
abbrev pub IsLate : RunFault → Type 0
IsLate Output = ⊤
IsLate OutOfMemory = ⊤
IsLate fault = ⊥

-- the cause of each fault: of words, of what the source held and its count, of the dials' count, the dialed link, and the sink's count
abbrev pub Caused : Option JobKind → Option (List ℕ) → ℕ → ℕ → ℕ → ℕ → ℕ → ℕ → Over → RunFault → Type 0
Caused form left read_before read_now wrote_before wrote_now dialed_before dialed_now over Output = (is_some form ≡ true) × Rose wrote_before wrote_now
Caused form left read_before read_now wrote_before wrote_now dialed_before dialed_now over fault = Attempted form left read_before read_now dialed_before dialed_now over fault

-- The lines of a job in their order: which of them offends first, and what they ask for.
use Rattle.std.specs.Prelude.{ℕ, ◌+◌, Bool, true, false, List, [], ◌∷◌, ◌++◌, Some, None, Result, Ok, Err, length, map, option_map, unwrap_or, if◌then◌else◌}
use Rattle.std.specs.declared.option.Option.{Option}
use Rattle.std.specs.List.{filter_map, last_or, list_any}
use Rattle.ledger_log.specs.declared.target.Target.{Target}
use Rattle.ledger_job.specs.Bounds.{LimitsView}
use Rattle.ledger_job.specs.Lines.{lines_of, line_of}
use Rattle.ledger_job.specs.Places.{fits, lacks_target}
use Rattle.ledger_job.specs.declared.block.Block.{Block}
use Rattle.ledger_job.specs.declared.block.Block.TheVariants.{Body as BodyOf, Rounds as RoundsOf}
use Rattle.ledger_job.specs.declared.job.Job.{Job}
use Rattle.ledger_job.specs.declared.kind.JobKind.{JobKind}
use Rattle.ledger_job.specs.declared.line.Line.{Line}
use Rattle.ledger_job.specs.declared.line.Line.TheVariants.{Skipped, Open, Target as TargetLine, Update, Limits, Body, Rounds, Round, Pay}
use Rattle.ledger_job.specs.declared.line.Open.{Open as Opened}
use Rattle.ledger_job.specs.declared.payment.Payment.{Payment}
use Rattle.ledger_job.specs.declared.place.Before.{Before}
use Rattle.ledger_job.specs.declared.place.Section.{Section}
use Rattle.ledger_job.specs.declared.place.Section.TheVariants.{Opening, InBody, InRounds, InRound}

-- the section that a line begins
abbrev pub begins : Line → Option Section
begins Skipped = None
begins (Open account) = None
begins (TargetLine target) = None
begins (Update target) = None
begins (Limits limits) = None
begins Body = Some InBody
begins Rounds = Some InRounds
begins Round = Some InRound
begins (Pay payment) = None

-- the section in which the line behind these stands
unfoldable pub section_after : List Line → Section
section_after lines = unwrap_or (last_or None (filter_map begins lines)) Opening

-- a line of limits
abbrev pub is_limits : Line → Bool
is_limits (Limits limits) = true
is_limits _ = false

-- limits stand among these lines
unfoldable pub has_limits : List Line → Bool
has_limits lines = list_any is_limits lines

-- a line of a target
abbrev pub is_target : Line → Bool
is_target (TargetLine target) = true
is_target _ = false

-- a target stands among these lines
unfoldable pub has_target : List Line → Bool
has_target lines = list_any is_target lines

-- the answer on a later target that a line names
abbrev pub answer_in : Line → Option (Option Target)
answer_in (Update target) = Some (Some target)
answer_in _ = None

-- what stands before the line behind these
abbrev pub before_line : JobKind → List Line → Before
before_line kind lines = record {
  kind = kind;
  section = section_after lines;
  limited = has_limits lines;
  targeted = has_target lines;
  updates = length (filter_map answer_in lines);
}

-- the place, behind the lines `before`, of the first that is no line of a job or stands in a wrong place; where a target is missing, that behind the last line
unfoldable pub first_offence : JobKind → List Line → List (Option Line) → Option ℕ
first_offence kind before [] = if lacks_target kind (has_target before) then Some 0 else None
first_offence kind before (None ∷ lines) = Some 0
first_offence kind before (Some line ∷ lines) =
    if fits (before_line kind before) line then option_map (λ n. n + 1) (first_offence kind (before ++ line ∷ []) lines) else Some 0

-- the account that a line opens
abbrev pub open_in : Line → Option Opened
open_in (Open account) = Some account
open_in _ = None

-- the target that a line names
abbrev pub target_in : Line → Option Target
target_in (TargetLine target) = Some target
target_in _ = None

-- the limits that a line sets
abbrev pub limits_in : Line → Option LimitsView
limits_in (Limits limits) = Some limits
limits_in _ = None

-- 50 operations a request, one request at a time
abbrev pub default_limits : LimitsView
default_limits = record { batch = 50; outstanding = 1 }

-- the payments up to the next section
abbrev pub payments_of : List Line → List Payment
payments_of [] = []
payments_of (Pay payment ∷ lines) = payment ∷ payments_of lines
payments_of (Skipped ∷ lines) = payments_of lines
payments_of (Open account ∷ lines) = payments_of lines
payments_of (TargetLine target ∷ lines) = payments_of lines
payments_of (Update target ∷ lines) = payments_of lines
payments_of (Limits limits ∷ lines) = payments_of lines
payments_of (Body ∷ lines) = []
payments_of (Rounds ∷ lines) = []
payments_of (Round ∷ lines) = []

-- the rounds up to the next block
abbrev pub rounds_of : List Line → List (List Payment)
rounds_of [] = []
rounds_of (Round ∷ lines) = payments_of lines ∷ rounds_of lines
rounds_of (Skipped ∷ lines) = rounds_of lines
rounds_of (Open account ∷ lines) = rounds_of lines
rounds_of (TargetLine target ∷ lines) = rounds_of lines
rounds_of (Update target ∷ lines) = rounds_of lines
rounds_of (Limits limits ∷ lines) = rounds_of lines
rounds_of (Pay payment ∷ lines) = rounds_of lines
rounds_of (Body ∷ lines) = []
rounds_of (Rounds ∷ lines) = []

-- the blocks
abbrev pub blocks_of : List Line → List (Block Payment)
blocks_of [] = []
blocks_of (Body ∷ lines) = BodyOf (payments_of lines) ∷ blocks_of lines
blocks_of (Rounds ∷ lines) = RoundsOf (rounds_of lines) ∷ blocks_of lines
blocks_of (Round ∷ lines) = blocks_of lines
blocks_of (Skipped ∷ lines) = blocks_of lines
blocks_of (Open account ∷ lines) = blocks_of lines
blocks_of (TargetLine target ∷ lines) = blocks_of lines
blocks_of (Update target ∷ lines) = blocks_of lines
blocks_of (Limits limits ∷ lines) = blocks_of lines
blocks_of (Pay payment ∷ lines) = blocks_of lines

-- what these lines ask for
unfoldable pub job_from : List Line → Job
job_from lines = record {
  opens = filter_map open_in lines;
  target = last_or None (filter_map target_in lines);
  updates = filter_map answer_in lines;
  limits = unwrap_or (last_or None (filter_map limits_in lines)) default_limits;
  blocks = blocks_of lines;
}

-- the job, or the place of the first offence as a line counted from 1
abbrev pub job_or_offence : List Line → Option ℕ → Result Job ℕ
job_or_offence lines None = Ok (job_from lines)
job_or_offence lines (Some n) = Err (n + 1)

-- the lines of a text, read one by one
abbrev pub read_lines : List ℕ → List (Option Line)
read_lines text = map line_of (lines_of text)

-- the job of a kind that a text spells, or its least offending line, counted from 1
unfoldable pub job_of : JobKind → List ℕ → Result Job ℕ
job_of kind text = job_or_offence (filter_map (λ line. line) (read_lines text)) (first_offence kind [] (read_lines text))

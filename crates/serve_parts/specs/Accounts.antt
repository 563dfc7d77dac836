-- The accounts that a job opens which is served.
use Rattle.std.specs.Prelude.{ℕ, ◌+◌, Bool, true, false, List, [], ◌∷◌, Option, Some, None, Result, Ok, Err, option_map, if◌then◌else◌}
use Rattle.std.specs.List.{filter_map}
use Rattle.ledger_job.specs.Jobs.{read_lines}
use Rattle.ledger_job.specs.declared.line.Line.{Line}
use Rattle.ledger_job.specs.declared.line.Line.TheVariants as lines
use Rattle.ledger_job.specs.declared.line.Open.{Open}

-- a line that stands in such a job: one that opens an account, or is skipped
abbrev pub is_account_line : Option Line → Bool
is_account_line (Some lines.Skipped) = true
is_account_line (Some (lines.Open account)) = true
is_account_line line = false

-- the account that a line opens
abbrev pub account_in : Option Line → Option Open
account_in (Some (lines.Open account)) = Some account
account_in line = None

-- as a list
abbrev pub listed : Option Open → List Open
listed None = []
listed (Some account) = account ∷ []

-- the place of the first of these lines that doesn't stand in such a job
abbrev pub first_stray : List (Option Line) → Option ℕ
first_stray [] = None
first_stray (line ∷ more) = if is_account_line line then option_map (λ n. n + 1) (first_stray more) else Some 0

-- the accounts, or the place of the first offence as a line counted from 1
abbrev pub accounts_or_stray : List (Option Line) → Option ℕ → Result (List Open) ℕ
accounts_or_stray read None = Ok (filter_map account_in read)
accounts_or_stray read (Some n) = Err (n + 1)

-- the accounts that a text opens, in the order of their lines, or its least offending line, counted from 1
unfoldable pub accounts_of : List ℕ → Result (List Open) ℕ
accounts_of text = accounts_or_stray (read_lines text) (first_stray (read_lines text))

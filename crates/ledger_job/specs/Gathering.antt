-- How far the lines of a text were gathered.
use Rattle.std.specs.Prelude.{◌≡◌, ℕ, ◌+◌, List, [], Some, None, map}
use Rattle.ledger_job.specs.Gathered.{Seen, Stands}
use Rattle.ledger_job.specs.Jobs.{read_lines, first_offence}
use Rattle.ledger_job.specs.declared.kind.JobKind.{JobKind}
use Rattle.ledger_job.specs.declared.line.Line.{Line}

-- each line of the text may stand where it stands, and was gathered; none is missing
pub record Gathers (kind : JobKind) (text : List ℕ) (s : Seen) : Type 0 where
  pub lines : List Line
  pub all : map Some lines ≡ read_lines text
  pub right : first_offence kind [] (read_lines text) ≡ None
  pub stands : Stands s lines

-- the first offence is in this line, counted from 1
pub record Offends (kind : JobKind) (text : List ℕ) (number : ℕ) : Type 0 where
  pub place : ℕ
  pub first : first_offence kind [] (read_lines text) ≡ Some place
  pub counted : number ≡ place + 1

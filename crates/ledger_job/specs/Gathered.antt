-- What is gathered of the lines of a job, read one after another.
use Rattle.std.specs.Prelude.{◌≡◌, List, [], ◌∷◌, ◌++◌, Some, None, is_some, length}
use Rattle.std.specs.declared.option.Option.{Option}
use Rattle.std.specs.List.{filter_map, last_or}
use Rattle.ledger_log.specs.declared.target.Target.{Target}
use Rattle.ledger_job.specs.Bounds.{LimitsView}
use Rattle.ledger_job.specs.Jobs.{section_after, has_limits, has_target, open_in, target_in, answer_in, limits_in, payments_of, rounds_of, blocks_of}
use Rattle.ledger_job.specs.declared.block.Block.{Block}
use Rattle.ledger_job.specs.declared.block.Block.TheVariants.{Body as BodyOf, Rounds as RoundsOf}
use Rattle.ledger_job.specs.declared.build.Gathered.{Gathered}
use Rattle.ledger_job.specs.declared.kind.JobKind.{JobKind}
use Rattle.ledger_job.specs.declared.line.Line.{Line}
use Rattle.ledger_job.specs.declared.line.Line.TheVariants.{Skipped, Open, Target as TargetLine, Update, Limits, Body, Rounds, Round, Pay}
use Rattle.ledger_job.specs.declared.line.Open.{Open as Opened}
use Rattle.ledger_job.specs.declared.payment.Payment.{Payment}
use Rattle.ledger_job.specs.declared.place.Before.{Before}
use Rattle.ledger_job.specs.declared.place.Section.{Section}
use Rattle.ledger_job.specs.declared.place.Section.TheVariants.{Opening, InBody, InRounds, InRound}

-- the accounts, the target, the answers on later ones and the limits so far, the section, the payments and the rounds of the open block, and the blocks before it
pub record Seen : Type 0 where
  pub opens : List Opened
  pub target : Option Target
  pub updates : List (Option Target)
  pub limits : Option LimitsView
  pub section : Section
  pub payments : List Payment
  pub rounds : List (List Payment)
  pub blocks : List (Block Payment)

-- what was gathered, as lists
abbrev pub seen : Gathered → Seen
seen g = record { opens = g.opens.items; target = g.target; updates = g.updates.items; limits = g.limits; section = g.section; payments = g.payments.items; rounds = g.rounds.items; blocks = g.blocks.items }

-- what decides whether one more line may stand behind what was gathered
abbrev pub before_next : JobKind → Seen → Before
before_next kind s = record { kind = kind; section = s.section; limited = is_some s.limits; targeted = is_some s.target; updates = length s.updates }

-- the rounds with the open one
abbrev pub with_round : Section → List (List Payment) → List Payment → List (List Payment)
with_round InRound rounds payments = rounds ++ payments ∷ []
with_round section rounds payments = rounds

-- the open block, where there is one
abbrev pub open_block : Section → List (List Payment) → List Payment → List (Block Payment)
open_block Opening rounds payments = []
open_block InBody rounds payments = BodyOf payments ∷ []
open_block InRounds rounds payments = RoundsOf rounds ∷ []
open_block InRound rounds payments = RoundsOf (rounds ++ payments ∷ []) ∷ []

-- all blocks, the open one too
abbrev pub all_blocks : Seen → List (Block Payment)
all_blocks s = s.blocks ++ open_block s.section s.rounds s.payments

-- a new block is open
abbrev pub in_block : Section → Seen → Seen
in_block section s = record s { blocks = all_blocks s; section = section; rounds = []; payments = [] }

-- what is gathered with one line more
abbrev pub gathered_after : Seen → Line → Seen
gathered_after s Skipped = s
gathered_after s (Open account) = record s { opens = s.opens ++ account ∷ [] }
gathered_after s (TargetLine target) = record s { target = Some target }
gathered_after s (Update target) = record s { updates = s.updates ++ Some target ∷ [] }
gathered_after s (Limits limits) = record s { limits = Some limits }
gathered_after s (Pay payment) = record s { payments = s.payments ++ payment ∷ [] }
gathered_after s Body = in_block InBody s
gathered_after s Rounds = in_block InRounds s
gathered_after s Round = record s { rounds = with_round s.section s.rounds s.payments; section = InRound; payments = [] }

-- the blocks that the open one and further lines make
abbrev pub blocks_from : Section → List (List Payment) → List Payment → List Line → List (Block Payment)
blocks_from Opening rounds payments lines = blocks_of lines
blocks_from InBody rounds payments lines = BodyOf (payments ++ payments_of lines) ∷ blocks_of lines
blocks_from InRounds rounds payments lines = RoundsOf (rounds ++ rounds_of lines) ∷ blocks_of lines
blocks_from InRound rounds payments lines = RoundsOf (rounds ++ (payments ++ payments_of lines) ∷ rounds_of lines) ∷ blocks_of lines

-- these lines were gathered
pub record Stands (s : Seen) (lines : List Line) : Type 0 where
  pub section : s.section ≡ section_after lines
  pub limited : is_some s.limits ≡ has_limits lines
  pub targeted : is_some s.target ≡ has_target lines
  pub limits : s.limits ≡ last_or None (filter_map limits_in lines)
  pub opens : s.opens ≡ filter_map open_in lines
  pub target : s.target ≡ last_or None (filter_map target_in lines)
  pub updates : s.updates ≡ filter_map answer_in lines
  pub blocks : (more : List Line) → blocks_of (lines ++ more) ≡ s.blocks ++ blocks_from s.section s.rounds s.payments more

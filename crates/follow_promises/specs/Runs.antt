-- Jobs that ask for no blocks.
use Rattle.std.specs.Prelude.{◌≡◌, [], ◌∷◌, None, Some}
use Rattle.ledger_job.specs.Jobs.{default_limits}
use Rattle.ledger_job.specs.declared.job.Job.{Job}
use Rattle.ledger_log.specs.declared.target.Target.{Target}
use Rattle.ledger_program.specs.Run.{SpansLog}
use Rattle.follow_promises.specs.Four.{five_log, four_log}

-- no accounts, no target and no blocks
abbrev pub nothing_asked : Job
nothing_asked = record { opens = []; target = None; updates = []; limits = default_limits; blocks = [] }

-- The job names the log of four accounts as its target and that of five as a later one, and asks for no blocks.
pub record NamesBoth (job : Job) (first later : Target) : Type 0 where
  pub target : job.target ≡ Some first
  pub updates : job.updates ≡ Some later ∷ []
  pub blocks : job.blocks ≡ []
  pub first_is : SpansLog first four_log
  pub later_is : SpansLog later five_log

-- What a job is for.
use Rattle.std.specs.Prelude.{Bool, true, false}
use Rattle.ledger_job.specs.declared.kind.JobKind.{JobKind}
use Rattle.ledger_job.specs.declared.kind.JobKind.TheVariants.{Local, Follow}

-- a job over its own log
abbrev pub is_local : JobKind → Bool
is_local Local = true
is_local Follow = false

-- a job over a peer's log
abbrev pub is_follow : JobKind → Bool
is_follow Local = false
is_follow Follow = true

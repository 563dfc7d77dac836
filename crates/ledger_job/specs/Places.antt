-- Where each line of a job may stand.
use Rattle.std.specs.Prelude.{◌&&◌, Bool, true, false, not, nat_lt}
use Rattle.ledger_job.specs.Kinds.{is_local, is_follow}
use Rattle.ledger_job.specs.declared.kind.JobKind.{JobKind}
use Rattle.ledger_job.specs.declared.line.Line.{Line}
use Rattle.ledger_job.specs.declared.line.Line.TheVariants.{Skipped, Open, Target, Update, Limits, Body, Rounds, Round, Pay}
use Rattle.ledger_job.specs.declared.place.Before.{Before}
use Rattle.ledger_job.specs.declared.place.Section.{Section}
use Rattle.ledger_job.specs.declared.place.Section.TheVariants.{Opening, InBody, InRounds, InRound}

-- before any block
abbrev pub is_opening : Section → Bool
is_opening Opening = true
is_opening _ = false

-- in a block of rounds
abbrev pub is_in_rounds : Section → Bool
is_in_rounds InRounds = true
is_in_rounds InRound = true
is_in_rounds _ = false

-- where a payment may stand
abbrev pub takes_payments : Section → Bool
takes_payments InBody = true
takes_payments InRound = true
takes_payments _ = false

-- an account: of the job's own log, before any block
abbrev pub takes_open : Before → Bool
takes_open before = is_local before.kind && is_opening before.section

-- what tells of a peer's log stands before any block
abbrev pub takes_remote : Before → Bool
takes_remote before = is_follow before.kind && is_opening before.section

-- a target: one
abbrev pub takes_target : Before → Bool
takes_target before = takes_remote before && not before.targeted

-- behind a target, and fewer than eight updates
abbrev pub has_room : Before → Bool
has_room before = before.targeted && nat_lt before.updates 8

-- a later target
abbrev pub takes_update : Before → Bool
takes_update before = takes_remote before && has_room before

-- whether a line may stand behind these
abbrev pub fits : Before → Line → Bool
fits before Skipped = true
fits before (Open account) = takes_open before
fits before (Target target) = takes_target before
fits before (Update target) = takes_update before
fits before (Limits limits) = is_opening before.section && not before.limited
fits before Body = true
fits before Rounds = true
fits before Round = is_in_rounds before.section
fits before (Pay payment) = takes_payments before.section

-- the target of a job that follows a peer is missing
abbrev pub lacks_target : JobKind → Bool → Bool
lacks_target kind targeted = is_follow kind && not targeted

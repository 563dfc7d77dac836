use Rattle.ledger_job.specs.Gathered.{seen}
use Rattle.ledger_job.specs.Parts.{bytes_left}
use Rattle.ledger_job.proofs.Offences.{Here}
use Rattle.ledger_job.proofs.job.gather.Given as goal

abbrev pub invariant-each : goal.invariant-each
invariant-each l = Here l.kind l.text l.left l.number (seen l.gathered)

abbrev pub decreases-each : goal.decreases-each
decreases-each l = bytes_left l.left

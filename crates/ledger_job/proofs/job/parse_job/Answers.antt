use Rattle.ledger_job.specs.Gathered.{seen}
use Rattle.ledger_job.proofs.Offences.{job_gathered, job_offends}
use Rattle.ledger_job.proofs.job.parse_job.Goals as goal

pub returns-in-Err-clause-bad : goal.returns-in-Err-clause-bad
returns-in-Err-clause-bad c = λ n h. job_offends c.args.kind c.args.text.now n (c.in-Err.ensures.bad n (cc))

pub returns-clause-job : goal.returns-clause-job
returns-clause-job c = job_gathered c.args.kind c.args.text.now (seen c.in-Ok.gathered) c.in_ok-into_job.field-0 c.in-Ok.ensures.stands c.in_ok-into_job.ensures.opens c.in_ok-into_job.ensures.target c.in_ok-into_job.ensures.updates c.in_ok-into_job.ensures.limits c.in_ok-into_job.ensures.blocks

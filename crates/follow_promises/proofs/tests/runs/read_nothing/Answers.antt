use Rattle.follow_promises.proofs.Runs.{never_longer, no_rise}
use Rattle.follow_promises.proofs.tests.runs.read_nothing.Goals as goal

pub returns-clause-failed : goal.returns-clause-failed
returns-clause-failed c is = no_rise (c.read_all.ensures.failed is)

pub returns-clause-too_large : goal.returns-clause-too_large
returns-clause-too_large c is = never_longer (c.read_all.ensures.too_large is)

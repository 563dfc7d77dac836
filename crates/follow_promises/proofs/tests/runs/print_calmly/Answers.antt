use Rattle.follow_promises.proofs.Runs.{no_rise}
use Rattle.follow_promises.proofs.tests.runs.print_calmly.Goals as goal

pub returns : goal.returns
returns c is = no_rise (c.printed.ensures.output is)

use Rattle.std.proofs.Common.{Ok, ap}
use Rattle.ledger_simulate.specs.Stepping.{course_of}
use Rattle.ledger_simulate.proofs.Uses.{first_done}
use Rattle.simulate_cases.proofs.tests.telling.done_at_once.Goals as goal

pub returns-in-Ok-Done : goal.returns-in-Ok-Done
returns-in-Ok-Done c =
    first_done _ (course_of c.in_ok-run.run') c.in-Ok-Done.ran c.in_ok-run.ensures.opens.seated c.in_ok-run.ensures.opens.updates (c.in-Ok-Done.ensures.done c.in-Ok-Done.ran (ap Ok c.in-Ok-Done.field-0-is))

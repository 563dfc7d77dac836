use Rattle.std.proofs.Common.{Ok, ap, ◌∙◌}
use Rattle.ledger_simulate.specs.Stepping.{course_of}
use Rattle.ledger_simulate.proofs.Uses.{first_on}
use Rattle.simulate_cases.proofs.tests.telling.handled_once.Goals as goal

pub returns-in-Ok-On : goal.returns-in-Ok-On
returns-in-Ok-On c =
    c.handled.ensures
    ∙ first_on _ (course_of c.in_ok-run.run') (course_of c.in-Ok-On.next) c.in_ok-run.ensures.opens.handled (c.in-Ok-On.ensures.on c.in-Ok-On.next (ap Ok c.in-Ok-On.field-0-is)).0

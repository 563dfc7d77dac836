use Rattle.std.proofs.Common.{Err, ap, ◌∙◌}
use Rattle.ledger_simulate.specs.Stepping.{course_of}
use Rattle.ledger_simulate.proofs.Uses.{first_stops}
use Rattle.simulate_cases.proofs.tests.telling.stopped_at_once.Goals as goal

pub returns-in-Err-Fault : goal.returns-in-Err-Fault
returns-in-Err-Fault c =
    first_stops _ (course_of c.in_ok-run.run') c.in-Err-Fault.ended c.in_ok-run.ensures.opens.handled (ap (λ b. b.now.max_events) c.in_ok-run.ensures.plan ∙ c.in_ok-plan.ensures.limit) (c.in-Err-Fault.ensures.fails c.in-Err-Fault.ended (ap Err c.in-Err-Fault.field-0-is))

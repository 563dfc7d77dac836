use Rattle.simulate_parts.specs.Tracker.{tracker_of}
use Rattle.ledger_simulate.specs.Plans.{target_count}
use Rattle.ledger_simulate.proofs.Answering.{failure_on}
use Rattle.ledger_simulate.proofs.reports.ask.Goals as goal

pub returns-in-Err-clause-fails : goal.returns-in-Err-clause-fails
returns-in-Err-clause-fails g c =
    failure_on (λ x. (goal.ExitCondition-dyn g (x.vtable, x.value)).exit_name x.value) (λ x. (goal.ExitCondition-dyn g (x.vtable, x.value)).exit_verdict x.value) c.args.plan.now.exit_condition c.tracker.result.now (tracker_of c.args.watch.now) c.as_slice.result.now c.args.states.items
    c.target.result (target_count c.args.plan.now.participants c.args.plan.now.crashes c.args.world.now.exercise.delayed_started) c.in-Err.stop c.tracker.ensures.value c.as_slice.ensures.value c.target.ensures c.in-Err.ensures.fails

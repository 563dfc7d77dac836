use Rattle.ledger_simulate.specs.Answering.{IsFailure}
use Rattle.ledger_simulate.specs.Stops.{IsExitFault}
use Rattle.ledger_simulate.proofs.Answering.{failure_of}
use Rattle.ledger_simulate.proofs.Causing.{if_err_map}
use Rattle.ledger_simulate.proofs.asks.ask_exit.Goals as goal

pub returns-in-Some-clause-fails : goal.returns-in-Some-clause-fails
returns-in-Some-clause-fails g c =
    if_err_map (IsExitFault ((goal.ExitCondition-dyn g (c.in-Some.condition.vtable, c.in-Some.condition.value)).exit_name c.in-Some.condition.value) ((goal.ExitCondition-dyn g (c.in-Some.condition.vtable, c.in-Some.condition.value)).exit_verdict c.in-Some.condition.value c.args.tracker.now c.args.states.now c.args.target_count))
    (IsFailure (λ x. (goal.ExitCondition-dyn g (x.vtable, x.value)).exit_name x.value) (λ x. (goal.ExitCondition-dyn g (x.vtable, x.value)).exit_verdict x.value) c.args.plan.now.exit_condition c.args.tracker.now c.args.states.now c.args.target_count)
    (λ s. failure_of (λ x. (goal.ExitCondition-dyn g (x.vtable, x.value)).exit_name x.value) (λ x. (goal.ExitCondition-dyn g (x.vtable, x.value)).exit_verdict x.value) c.args.plan.now.exit_condition c.args.tracker.now c.args.states.now c.args.target_count c.in-Some.condition s c.in-Some.is)
    c.ask_condition.result c.ask_condition.ensures.err

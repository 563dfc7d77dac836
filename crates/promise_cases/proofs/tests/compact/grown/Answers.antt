use Rattle.std.proofs.Common.{◌≡◌}
use Rattle.std.proofs.lemmas.Option.{MatchOption-at_none}
use Rattle.std.proofs.lemmas.Result.{err_from_is_err_and}
use Rattle.ledger_log.specs.declared.fault.LogFault.TheVariants.{OutOfMemory}
use Rattle.promise_cases.proofs.Adding.{taken_whole}
use Rattle.promise_cases.proofs.tests.compact.grown.Goals as goal

pub returns-in_err-add_operations-clause-taken : goal.returns-in_err-add_operations-clause-taken
returns-in_err-add_operations-clause-taken c =
    let none = taken_whole c.in_ok-twins.twins.full c.in_ok-operations.field-0.items c.in_ok-twins.ensures.full c.in_ok-operations.ensures in
    let memory : c.in_err-add_operations.field-0.0 ≡ OutOfMemory = MatchOption-at_none _ _ none c.in_err-add_operations.ensures.refusal in
    let p = err_from_is_err_and c.from_residual-in_err-add_operations.result c.from_residual-in_err-add_operations.ensures.1 in
    rw (p.1, p.2) memory

use Rattle.sha2.specs.Sha256.{sha256}
use Rattle.ledger_compact.specs.View.{compact_of}
use Rattle.ledger_log.specs.Keyless.{keyless_floor, keyless_spelling}
use Rattle.promise_cases.proofs.States.{state_taken}
use Rattle.promise_cases.proofs.tests.compact.of_full.Goals as goal

pub returns-clause-taken : goal.returns-clause-taken
returns-clause-taken c =
    state_taken sha256 keyless_spelling keyless_floor (compact_of sha256 keyless_spelling c.args.log.now) c.target.result c.in_ok-state.state c.from_state.result _
    c.target.ensures c.in_ok-state.ensures.ok c.in_ok-state.ensures.taken c.from_state.ensures.refusal

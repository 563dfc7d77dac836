use Rattle.std.proofs.Common.{◌≡◌, ◌∙◌, List, Some, subst}
use Rattle.sha2.specs.Sha256.{sha256}
use Rattle.ledger_compact.specs.View.{compact_of, fresh_log, with_ops}
use Rattle.ledger_log.specs.Keyless.{keyless_commit, keyless_spelling}
use Rattle.ledger_log.specs.declared.keyless.KeylessOp.{KeylessOp}
use Rattle.promise_cases.proofs.tests.compact.appended.Goals as goal

pub returns : goal.returns
returns c =
    subst (λ (ops : List KeylessOp). compact_of sha256 keyless_spelling (with_ops (fresh_log keyless_commit) ops) ≡ Some c.append_batch.new.self) (c.deref.ensures.value ∙ c.in_ok-ops.ensures)
    (c.in_ok-append_batch.ensures.stands (fresh_log keyless_commit) c.in_ok-log.ensures.ok)

-- What is added to a fresh keyless log is taken.
use Rattle.std.proofs.Common.{◌≡◌, List, Option, None, refl, sym, subst}
use Rattle.ledger_compact.specs.View.{fresh_log}
use Rattle.ledger_examples.specs.Batches.{added_batches, first_refusal}
use Rattle.ledger_examples.specs.Tests.{same_added}
use Rattle.ledger_log.specs.Keyless.{keyless_commit, keyless_floor}
use Rattle.ledger_log.specs.View.{LogView, log_floor, log_size}
use Rattle.ledger_log.specs.declared.fault.LogFault.{LogFault}
use Rattle.ledger_log.specs.declared.keyless.KeylessOp.{KeylessOp}
use Rattle.promise_cases.specs.Cases.{one_more}

-- why these operations aren't added
abbrev pub refusal_of : LogView KeylessOp → List KeylessOp → Option LogFault
refusal_of log ops = first_refusal keyless_floor (log_size log) (log_floor keyless_floor log) (added_batches keyless_floor same_added (log_floor keyless_floor log) ops)

none_refused : refusal_of (fresh_log keyless_commit) one_more ≡ None
unfolding one_more
none_refused = refl

pub taken_whole : (log : LogView KeylessOp) (ops : List KeylessOp) → log ≡ fresh_log keyless_commit → ops ≡ one_more → refusal_of log ops ≡ None
taken_whole log ops fresh all = subst (λ (l : LogView KeylessOp). refusal_of l ops ≡ None) (sym fresh) (subst (λ (xs : List KeylessOp). refusal_of (fresh_log keyless_commit) xs ≡ None) (sym all) none_refused)

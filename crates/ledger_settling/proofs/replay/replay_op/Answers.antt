use Rattle.std.proofs.Common.{sym, subst, ap, ◌++◌, ◌∷◌, []}
use Rattle.ledger_log.specs.Any.{any_write}
use Rattle.ledger_settling.specs.Reports.{IsReplay}
use Rattle.ledger_settling.proofs.ReplayLemmas.{replay_put, replay_delete, replay_other}
use Rattle.ledger_settling.proofs.replay.replay_op.Goals as goal

pub returns-in_ok-insert-in-Some-clause-replay : goal.returns-in_ok-insert-in-Some-clause-replay
returns-in_ok-insert-in-Some-clause-replay g c = λ t base r.
    let same = g.A.PartialEq.eq in
    let values = g.A.AccountValue.values in
    subst (λ o. IsReplay same values c.insert.new.self (base ++ o ∷ [])) (sym c.in-Update.is)
    (replay_put same values base c.args.accounts.now c.insert.new.self c.in-Update.key c.in-Update.value c.in-Some.account r c.in-Some.ensures c.in_ok-insert-in-Some.ensures.updates.0)

pub returns-in-Delete-clause-replay : goal.returns-in-Delete-clause-replay
returns-in-Delete-clause-replay g c = λ t base r.
    let same = g.A.PartialEq.eq in
    let values = g.A.AccountValue.values in
    subst (λ o. IsReplay same values c.remove.new.self (base ++ o ∷ [])) (sym c.in-Delete.is)
    (replay_delete same values base c.args.accounts.now c.remove.new.self c.in-Delete.key r c.remove.ensures.updates.0)

pub returns-in-CommitFloor-clause-replay : goal.returns-in-CommitFloor-clause-replay
returns-in-CommitFloor-clause-replay g c = λ t base r. replay_other g.A.PartialEq.eq g.A.AccountValue.values base c.args.accounts.now c.args.op.now (ap any_write c.in-CommitFloor.is) r

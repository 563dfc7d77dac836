use Rattle.std.proofs.Common.{◌≡◌, ◌+◌, ◌∷◌, ◌++◌, List, OnOk, drop, sym, ap, subst, ◌∙◌}
use Rattle.ledger_log.specs.declared.any.AnyOp.{AnyOp}
use Rattle.ledger_activity.specs.Active.{IsLater, is_active, activity}
use Rattle.ledger_activity.proofs.Cut.{drop_at_get, if_ok}
use Rattle.ledger_activity.proofs.behind.bit_before.Goals as goal

pub returns-clause-active : goal.returns-clause-active
returns-clause-active g c =
    let ops = c.args.log.now.ops ++ c.args.more.now in
    let i = c.args.index in
    let op = c.in-Some.op.now in
    let rest = drop (i + 1) ops in
    let whole : drop i ops ≡ op ∷ rest = drop_at_get ops i op c.in-Some.ensures in
    if_ok c.meet.result (λ b. b ≡ is_active op rest) (λ b. activity (drop i ops) ≡ b ∷ activity rest) (λ b e. ap activity whole ∙ ap (λ x. x ∷ activity rest) (sym e)) (c.meet.ensures.active rest c.requires.later)

pub returns-clause-later : goal.returns-clause-later
returns-clause-later g c =
    let ops = c.args.log.now.ops ++ c.args.more.now in
    let i = c.args.index in
    let op = c.in-Some.op.now in
    let rest = drop (i + 1) ops in
    let whole : drop i ops ≡ op ∷ rest = drop_at_get ops i op c.in-Some.ensures in
    subst (λ (l : List AnyOp). OnOk c.meet.result (IsLater c.meet.new.self l)) (sym whole) (c.meet.ensures.met rest c.requires.later)

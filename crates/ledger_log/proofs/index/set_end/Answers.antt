use Rattle.std.proofs.Common.{Some, refl, subst, sym, ap, ◌∙◌}
use Rattle.ledger_log.specs.Index.{end_at, end_where, HasEntry}
use Rattle.ledger_log.proofs.Indexing.{end_written, more_entries}
use Rattle.ledger_log.proofs.index.set_end.Goals as goal

pub returns-in-Some-get_mut-clause-end : goal.returns-in-Some-get_mut-clause-end
returns-in-Some-get_mut-clause-end c =
    let there : HasEntry c.args.index.now (Some c.in-Some.key) = subst (HasEntry c.args.index.now) c.in-Some.is c.requires in
    λ k. end_written c.args.index.now (c.get_mut.follows.lender c.args.end) c.in-Some.key (Some c.args.end) ((c.get_mut.follows.holds c.args.end).3 there).0 c.args.end refl k
    ∙ ap (λ o. end_where o k c.args.end (end_at c.args.index.now k)) (sym c.in-Some.is)

pub returns-in-Some-get_mut-clause-others : goal.returns-in-Some-get_mut-clause-others
returns-in-Some-get_mut-clause-others c =
    let there : HasEntry c.args.index.now (Some c.in-Some.key) = subst (HasEntry c.args.index.now) c.in-Some.is c.requires in
    more_entries c.args.index.now (c.get_mut.follows.lender c.args.end) c.in-Some.key (Some c.args.end) ((c.get_mut.follows.holds c.args.end).3 there).0 refl

use Rattle.std.proofs.Common.{◌≡◌, Some, refl, sym, ap, ◌∙◌}
use Rattle.ledger_log.specs.Index.{end_at, end_where}
use Rattle.ledger_log.proofs.Indexing.{end_written}
use Rattle.ledger_log.proofs.index.put_end.Goals as goal

pub returns-in_ok-insert : goal.returns-in_ok-insert
returns-in_ok-insert c = λ k. end_written c.args.index.now c.insert.new.self c.in-Some.key (Some c.args.end) c.in_ok-insert.ensures.updates.0 c.args.end refl k
    ∙ ap (λ o. end_where o k c.args.end (end_at c.args.index.now k)) (sym c.in-Some.is)

use Rattle.std.proofs.Common.{◌≡◌, Some, refl, false, sym, ◌∙◌}
use Rattle.std.specs.Prelude.{is_some}
use Rattle.ledger_log.specs.Index.{entry_at}
use Rattle.ledger_log.proofs.Indexing.{new_entry, more_entries}
use Rattle.ledger_log.proofs.index.make_entry.Goals as goal

pub returns-in_ok-insert-clause-same : goal.returns-in_ok-insert-clause-same
returns-in_ok-insert-clause-same c =
    let none : is_some (entry_at c.args.index.now c.in-Some.key) ≡ false = sym c.contains_key.ensures ∙ c.if-not-contains_key.true in
    new_entry c.args.index.now c.insert.new.self c.in-Some.key (Some 0) c.in_ok-insert.ensures.updates.0 none refl

pub returns-in_ok-insert-clause-others : goal.returns-in_ok-insert-clause-others
returns-in_ok-insert-clause-others c = more_entries c.args.index.now c.insert.new.self c.in-Some.key (Some 0) c.in_ok-insert.ensures.updates.0 refl

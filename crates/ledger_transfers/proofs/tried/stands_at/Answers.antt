use Rattle.std.proofs.Common.{sym, ◌∙◌}
use Rattle.ledger_transfers.proofs.AddedLemmas.{placed_at, found_there}
use Rattle.ledger_transfers.proofs.tried.stands_at.Goals as goal

pub returns-clause-place : goal.returns-clause-place
returns-clause-place g c =
    let eq = g.K.PartialEq.eq in
    let entries = c.args.table.now.entries in
    let held = c.in-Some.field-0-1.now in
    let entry = sym c.in-Some.ensures.entry in (
      (λ equal. placed_at eq g.met.K.Eq.laws g.A.PartialEq.eq g.A.Account.rules entries c.args.place c.args.key.now c.in-Some.stored.now held c.len.ensures.unique entry (sym c.eq.ensures ∙ equal)),
      λ at. c.eq.ensures ∙ (found_there (eq c.args.key.now) entries c.args.place c.in-Some.stored.now held at entry).1,
    )

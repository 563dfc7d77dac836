use Rattle.std.proofs.Common.{sym, subst, Option}
use Rattle.ledger_transfers.specs.declared.revise.Revision.{Revision}
use Rattle.ledger_transfers.specs.Trying.{IsRevision}
use Rattle.ledger_transfers.proofs.AddedLemmas.{added_at, refused_touch}
use Rattle.ledger_transfers.proofs.tried.add_touch.Goals as goal

pub returns-in_default-2-clause-refused : goal.returns-in_default-2-clause-refused
returns-in_default-2-clause-refused g c =
    let same = g.A.PartialEq.eq in
    let held = c.in-Some.held.now in
    let is = subst (λ (r : Option (Revision g.row.A.Denot)). IsRevision same g.A.Account.rules held c.args.change r) c.in_default-2.is c.in_ok-revision.ensures in
    refused_touch g.K.PartialEq.eq g.met.K.Eq.laws same g.A.Account.rules c.args.table.now.entries (c.args.key.now, c.args.change) c.place_of-place.result c.in-Some.field-0-0.now held c.place_of-place.ensures.place (sym c.in-Some.ensures.entry) is

pub returns-clause-added : goal.returns-clause-added
returns-clause-added g c =
    let same = g.A.PartialEq.eq in
    let held = c.in-Some.held.now in
    let is = subst (λ (r : Option (Revision g.row.A.Denot)). IsRevision same g.A.Account.rules held c.args.change r) c.in-Some-2.is c.in_ok-revision.ensures in
    added_at g.K.PartialEq.eq g.met.K.Eq.laws same g.A.Account.rules c.args.table.now c.exchange-replaced.new.table.entries (c.args.key.now, c.args.change) c.place_of-place.result c.in-Some.field-0-0.now held c.in-Some-2.revision c.exchange-replaced.result
    c.place_of-place.ensures.unique c.place_of-place.ensures.place (sym c.in-Some.ensures.entry) is c.exchange-replaced.ensures.new c.exchange-replaced.ensures.back

use Rattle.std.proofs.Common.{ℕ, take, sym, subst}
use Rattle.std.proofs.lemmas.List.{take_all}
use Rattle.std.proofs.lemmas.List.Elements.{All-more, All-same}
use Rattle.ledger_transfers.specs.declared.revise.Revision.{Revision}
use Rattle.ledger_transfers.specs.Trying.{SettlesAt}
use Rattle.ledger_transfers.proofs.tried.all_settle.Goals as goal

pub loop-entry-preserved : goal.loop-entry-preserved
loop-entry-preserved g c =
    let P = λ (b : ℕ × Revision g.row.A.Denot). SettlesAt g.A.PartialEq.eq g.A.Account.rules c.args.table.now.entries b.0 in
    All-more P c.args.log.now c.loop-entry.entry-index c.entry-item.result c.loop-entry-test.true c.loop-entry.invariant (subst P c.entry-item.is c.if-not-settles_at.ensures)

pub returns : goal.returns
returns g c =
    let P = λ (b : ℕ × Revision g.row.A.Denot). SettlesAt g.A.PartialEq.eq g.A.Account.rules c.args.table.now.entries b.0 in
    All-same P c.args.log.now (take c.loop-entry.entry-index c.args.log.now) (sym (take_all c.loop-entry.entry-index c.args.log.now c.loop-entry-test.false)) c.loop-entry.invariant

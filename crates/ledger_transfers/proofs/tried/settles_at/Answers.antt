use Rattle.std.proofs.Common.{sym}
use Rattle.ledger_transfers.proofs.AddedLemmas.{value_at, settles_there}
use Rattle.ledger_transfers.proofs.tried.settles_at.Goals as goal

pub returns : goal.returns
returns g c =
    settles_there g.A.PartialEq.eq g.A.Account.rules c.args.table.now.entries c.args.place c.in-Some.held.now c.settles.result
    (value_at c.args.table.now.entries c.args.place c.in-Some.field-0-0.now c.in-Some.held.now (sym c.in-Some.ensures.entry)) c.settles.ensures

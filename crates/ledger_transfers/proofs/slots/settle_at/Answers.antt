use Rattle.std.proofs.Common.{sym, refl}
use Rattle.std.proofs.lemmas.Option.{slice_get_read}
use Rattle.std.proofs.lemmas.Result.{IfOk-weaker, IfErr-weaker}
use Rattle.ledger_transfers.specs.declared.totals.Totals.{Totals}
use Rattle.ledger_transfers.proofs.SettleLemmas.{plan_fails}
use Rattle.ledger_transfers.proofs.SlotLemmas.{slot_at}
use Rattle.ledger_transfers.proofs.slots.settle_at.Goals as goal

pub returns-clause-settled : goal.returns-clause-settled
returns-clause-settled g c =
    let reads = c.args.reads.now in
    let i = c.args.place in
    let read = slice_get_read reads _ i c.index-reads-place.result refl c.requires.within c.index-reads-place.is in
    let e : g.row.K.Denot × Totals g.row.A-Effect.Denot = (c.in-Some.key.now, c.in-Some.total.now) in
    IfOk-weaker c.settle_key.result _ _ (λ slot s. slot_at g.A.PartialEq.eq g.A.Account.rules c.args.table.now.entries reads i e c.index-reads-place.result slot (sym c.in-Some.ensures.entry) read s) c.settle_key.ensures.settled

pub returns-clause-fails : goal.returns-clause-fails
returns-clause-fails g c =
    let reads = c.args.reads.now in
    let i = c.args.place in
    let read = slice_get_read reads _ i c.index-reads-place.result refl c.requires.within c.index-reads-place.is in
    let e : g.row.K.Denot × Totals g.row.A-Effect.Denot = (c.in-Some.key.now, c.in-Some.total.now) in
    IfErr-weaker c.settle_key.result _ _ (λ fault f. plan_fails g.A.Account.rules c.args.table.now.entries reads i e c.index-reads-place.result fault (sym c.in-Some.ensures.entry) read f) c.settle_key.ensures.fails

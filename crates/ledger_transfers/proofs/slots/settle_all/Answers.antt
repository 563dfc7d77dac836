use Rattle.std.proofs.Common.{length, sym, subst}
use Rattle.std.proofs.lemmas.Result.{IfErr-weaker}
use Rattle.ledger_strategy.specs.Parts.{AreResults}
use Rattle.ledger_strategy.proofs.PartsLemmas.{results_by_rows, if_ok_both}
use Rattle.ledger_transfers.specs.Settling.{IsSlotAt}
use Rattle.ledger_transfers.proofs.SlotLemmas.{slots_of_places, fails_in_part, fault_of}
use Rattle.ledger_transfers.proofs.slots.settle_all.Goals as goal

pub returns-clause-settled : goal.returns-clause-settled
returns-clause-settled g c =
    let same = g.A.PartialEq.eq in
    let rules = g.A.Account.rules in
    let plan = c.args.table.now.entries in
    let reads = c.args.reads.now in
    let gives = IsSlotAt same rules plan reads in
    if_ok_both c.joined.result _ _ _ (λ whole all is. slots_of_places same rules plan reads whole.items c.requires.reads
    (subst (AreResults gives (length reads)) (sym is) (results_by_rows gives c.args.parts (length reads) c.in_ok-rows.rows.items c.requires.some c.in_ok-rows.ensures.all all (λ i r e. (c.in_ok-rows.ensures.each i r e).0)))) c.joined.ensures.all c.joined.ensures.whole

pub returns-clause-fails : goal.returns-clause-fails
returns-clause-fails g c =
    let rules = g.A.Account.rules in
    IfErr-weaker c.joined.result _ _ (λ fault f. fails_in_part rules c.args.table.now.entries c.args.reads.now c.in_ok-rows.rows.items fault (λ i r e. (c.in_ok-rows.ensures.each i r e).1) (fault_of c.in_ok-rows.rows.items fault f)) c.joined.ensures.refused

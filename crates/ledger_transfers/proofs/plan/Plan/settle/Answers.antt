use Rattle.std.proofs.Common.{◌≡◌, List, Vec, Global, subst}
use Rattle.std.specs.Prelude.{IfOk, IfErr}
use Rattle.std.specs.Map.{keys_of}
use Rattle.std.proofs.lemmas.Result.{IfOk-weaker, IfErr-weaker}
use Rattle.ledger_transfers.specs.declared.change.Change.{Change}
use Rattle.ledger_transfers.specs.declared.slot.Slot.{Slot}
use Rattle.ledger_transfers.specs.declared.fault.PlanFault.{PlanFault}
use Rattle.ledger_transfers.specs.declared.totals.Totals.{Totals}
use Rattle.ledger_transfers.specs.Touches.{IsPlanOf}
use Rattle.ledger_transfers.specs.Settling.{AreSlots, PlanFails}
use Rattle.ledger_transfers.specs.Batches.{BatchSettles, BatchFails, opened_by}
use Rattle.ledger_transfers.proofs.BatchLemmas.{batch_settles, batch_fails}
use Rattle.ledger_transfers.proofs.plan.Plan.settle.Goals as goal

pub returns-clause-batch : goal.returns-clause-batch
returns-clause-batch g c =
    let eq = g.K.PartialEq.eq in
    let key_laws = g.met.K.Eq g.world.𝓛 g.world.𝓜 g.world.𝓡 ((λ s x. x), (λ x. x), (λ x. x), λ x. x) in
    let same = g.A.PartialEq.eq in
    let rules = g.A.Account.rules in
    let plan = c.args.self.now in
    let reads = c.args.reads.now in
    let view : c.self.inside.table.entries ≡ c.args.self.now = c.self.view_is in
    let P = λ (es : List (g.row.K.Denot × Totals g.row.A-Effect.Denot)) (slots : Vec (Slot g.row.A.Denot) Global). AreSlots same rules es reads slots.items in
    let Q = λ (slots : Vec (Slot g.row.A.Denot) Global). (ts : List (g.row.K.Denot × Change g.row.A-Effect.Denot)) → IsPlanOf eq ts plan → BatchSettles eq rules same (keys_of plan) (opened_by eq rules (keys_of plan) reads) ts slots.items in
    let settled : IfOk c.settle_all.result (P plan) = subst (λ es. IfOk c.settle_all.result (P es)) view c.settle_all.ensures.settled in
    IfOk-weaker c.settle_all.result (P plan) Q (λ slots h ts is. batch_settles eq key_laws.laws same rules ts plan reads is c.requires slots.items h) settled

pub returns-clause-offends : goal.returns-clause-offends
returns-clause-offends g c =
    let eq = g.K.PartialEq.eq in
    let key_laws = g.met.K.Eq g.world.𝓛 g.world.𝓜 g.world.𝓡 ((λ s x. x), (λ x. x), (λ x. x), λ x. x) in
    let rules = g.A.Account.rules in
    let plan = c.args.self.now in
    let reads = c.args.reads.now in
    let view : c.self.inside.table.entries ≡ c.args.self.now = c.self.view_is in
    let P = λ (es : List (g.row.K.Denot × Totals g.row.A-Effect.Denot)) (fault : PlanFault g.row.K.Denot). PlanFails rules es reads fault in
    let Q = λ (fault : PlanFault g.row.K.Denot). (ts : List (g.row.K.Denot × Change g.row.A-Effect.Denot)) → IsPlanOf eq ts plan → BatchFails eq rules (opened_by eq rules (keys_of plan) reads) ts fault in
    let fails : IfErr c.settle_all.result (P plan) = subst (λ es. IfErr c.settle_all.result (P es)) view c.settle_all.ensures.fails in
    IfErr-weaker c.settle_all.result (P plan) Q (λ fault f ts is. batch_fails eq key_laws.laws g.A.PartialEq.eq rules ts plan reads is c.requires fault f) fails

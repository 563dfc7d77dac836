use Rattle.std.proofs.Common.{sym}
use Rattle.std.proofs.lemmas.Result.{IfOk-weaker}
use Rattle.ledger_transfers.specs.declared.held.Held.{Held}
use Rattle.ledger_transfers.proofs.RegisterLemmas.{key_slot}
use Rattle.ledger_transfers.proofs.register.settle_at.Goals as goal

pub returns : goal.returns
returns g c =
    let same_laws = g.met.A.Eq g.world.𝓛 g.world.𝓜 g.world.𝓡 ((λ s x. x), (λ x. x), (λ x. x), λ x. x) in
    let e : g.row.K.Denot × Held g.row.A.Denot = (c.in-Some.field-0-0.now, c.in-Some.held.now) in
    IfOk-weaker c.settle_held.result _ _ (λ slot s.
    key_slot g.K.PartialEq.eq g.met.K.Eq.laws g.A.PartialEq.eq same_laws.laws g.A.Account.rules c.args.keys.now c.args.table.now.entries c.args.place e slot c.requires.all c.requires.selection (sym c.in-Some.ensures.entry) c.in-Some.ensures.value s) c.settle_held.ensures

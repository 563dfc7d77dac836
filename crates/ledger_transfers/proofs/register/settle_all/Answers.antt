use Rattle.std.proofs.Common.{length, sym, subst}
use Rattle.ledger_strategy.specs.Parts.{AreResults}
use Rattle.ledger_strategy.proofs.PartsLemmas.{results_by_rows, if_ok_both}
use Rattle.ledger_transfers.specs.Registering.{IsKeySlot}
use Rattle.ledger_transfers.proofs.RegisterLemmas.{settled_of_places}
use Rattle.ledger_transfers.proofs.register.settle_all.Goals as goal

pub returns : goal.returns
returns g c =
    let eq = g.K.PartialEq.eq in
    let key_laws = g.met.K.Eq g.world.𝓛 g.world.𝓜 g.world.𝓡 ((λ s x. x), (λ x. x), (λ x. x), λ x. x) in
    let same = g.A.PartialEq.eq in
    let rules = g.A.Account.rules in
    let keys = c.args.keys.now in
    let es = c.args.table.now.entries in
    let same_laws = g.met.A.Eq g.world.𝓛 g.world.𝓜 g.world.𝓡 ((λ s x. x), (λ x. x), (λ x. x), λ x. x) in
    let gives = IsKeySlot eq same rules keys es in
    if_ok_both c.joined.result _ _ _ (λ whole all is. settled_of_places eq key_laws.laws same same_laws.laws rules keys es whole.items
    (subst (AreResults gives (length keys)) (sym is) (results_by_rows gives c.args.parts (length keys) c.in_ok-rows.rows.items c.requires.some c.in_ok-rows.ensures.all all (λ i r e. c.in_ok-rows.ensures.each i r e)))) c.joined.ensures.all c.joined.ensures.whole

use Rattle.std.proofs.Common.{◌≡◌, List, length, sym, ap, subst, ◌∙◌}
use Rattle.std.specs.Prelude.{IfOk}
use Rattle.ledger_transfers.specs.declared.change.Change.{Change}
use Rattle.ledger_transfers.specs.declared.held.Held.{Held}
use Rattle.ledger_transfers.specs.Selecting.{StandsFor, opened_at}
use Rattle.ledger_transfers.specs.Registering.{AreSettled}
use Rattle.std.proofs.lemmas.Result.{IfOk-weaker}
use Rattle.ledger_transfers.proofs.BatchLemmas.{selection_agrees}
use Rattle.ledger_transfers.proofs.selection.Selection.settle.Goals as goal

pub settle_all-requires-clause-all : goal.settle_all-requires-clause-all
settle_all-requires-clause-all g c κs within =
    let view : (c.self.inside.keys.keys, c.self.inside.table.entries) ≡ c.args.self = c.self.view_is in
    subst (λ (v : List g.row.K.Denot × List (g.row.K.Denot × Held g.row.A.Denot)). length v.1 ≡ length v.0) (sym view) c.requires ∙ sym (ap length c.as_slice.ensures.keys)

pub returns-clause-slots : goal.returns-clause-slots
returns-clause-slots g c =
    let view : (c.self.inside.keys.keys, c.self.inside.table.entries) ≡ c.args.self = c.self.view_is in
    let eq = g.K.PartialEq.eq in
    let same = g.A.PartialEq.eq in
    let rules = g.A.Account.rules in
    let P = λ (v : List g.row.K.Denot × List (g.row.K.Denot × Held g.row.A.Denot)).
    IfOk c.settle_all.result (λ slots. (ts : List (g.row.K.Denot × Change g.row.A-Effect.Denot)) → StandsFor eq same rules v.1 ts → AreSettled eq same rules v.0 (opened_at eq same rules v.1) ts slots.items) in
    let at : P (c.as_slice.result.now, c.self.inside.table.entries) = c.settle_all.ensures in
    subst P view (subst (λ (ks : List g.row.K.Denot). P (ks, c.self.inside.table.entries)) c.as_slice.ensures.keys at)

pub returns-clause-planned : goal.returns-clause-planned
returns-clause-planned g c =
    let view : (c.self.inside.keys.keys, c.self.inside.table.entries) ≡ c.args.self = c.self.view_is in
    let eq = g.K.PartialEq.eq in
    let key_laws = g.met.K.Eq g.world.𝓛 g.world.𝓜 g.world.𝓡 ((λ s x. x), (λ x. x), (λ x. x), λ x. x) in
    let same = g.A.PartialEq.eq in
    let rules = g.A.Account.rules in
    let same_laws = g.met.A.Eq g.world.𝓛 g.world.𝓜 g.world.𝓡 ((λ s x. x), (λ x. x), (λ x. x), λ x. x) in
    let account = g.met.A.Account g.world.𝓛 g.world.𝓜 g.world.𝓡 ((λ s x. x), (λ x. x), (λ x. x), λ x. x) in
    let P = λ (v : List g.row.K.Denot × List (g.row.K.Denot × Held g.row.A.Denot)).
    IfOk c.settle_all.result (λ slots. (ts : List (g.row.K.Denot × Change g.row.A-Effect.Denot)) → StandsFor eq same rules v.1 ts → AreSettled eq same rules v.0 (opened_at eq same rules v.1) ts slots.items) in
    let at : P (c.as_slice.result.now, c.self.inside.table.entries) = c.settle_all.ensures in
    let here : P c.args.self = subst P view (subst (λ (ks : List g.row.K.Denot). P (ks, c.self.inside.table.entries)) c.as_slice.ensures.keys at) in
    IfOk-weaker c.settle_all.result _ _ (λ slots h ts stands. selection_agrees eq key_laws.laws same same_laws.laws rules account.laws c.args.self.0 c.args.self.1 ts slots.items stands (h ts stands)) here

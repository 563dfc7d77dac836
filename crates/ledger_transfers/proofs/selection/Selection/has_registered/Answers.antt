use Rattle.std.proofs.Common.{◌≡◌, List, ap, subst, ◌∙◌}
use Rattle.std.specs.Prelude.{IsTrue, IsSome}
use Rattle.std.specs.List.{All}
use Rattle.std.specs.Map.{lookup}
use Rattle.ledger_transfers.specs.declared.change.Change.{Change}
use Rattle.ledger_transfers.specs.declared.held.Held.{Held}
use Rattle.ledger_transfers.proofs.selection.Selection.has_registered.Goals as goal

pub returns : goal.returns
returns g c =
    let view : (c.self.inside.keys.keys, c.self.inside.table.entries) ≡ c.args.self.now = c.self.view_is in
    let start = ap (λ (v : List g.row.K.Denot × List (g.row.K.Denot × Held g.row.A.Denot)). v.1) view in
    let Q = λ (es : List (g.row.K.Denot × Held g.row.A.Denot)) (us : List (g.row.K.Denot × Change g.row.A-Effect.Denot)). All (λ (t : g.row.K.Denot × Change g.row.A-Effect.Denot). IsSome (lookup (g.K.PartialEq.eq t.0) es)) us in
    let P = λ (es : List (g.row.K.Denot × Held g.row.A.Denot)) (us : List (g.row.K.Denot × Change g.row.A-Effect.Denot)). (IsTrue c.are_registered.result → Q es us) × (Q es us → IsTrue c.are_registered.result) in
    subst (λ us. P c.args.self.now.1 us) (c.deref.ensures.value ∙ c.in_ok-all.ensures) (subst (λ es. P es c.deref.result.now) start c.are_registered.ensures)

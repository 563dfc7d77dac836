use Rattle.std.proofs.Common.{◌≡◌, Bool, Vec, Global, List, length, take, sym, ap, subst, arith}
use Rattle.std.specs.Prelude.{IsSome}
use Rattle.std.proofs.lemmas.Result.{IfOk-weaker, IfErr-weaker}
use Rattle.ledger_transfers.proofs.GreedyLemmas.{is_chosen}
use Rattle.std.specs.List.{All}
use Rattle.std.specs.Map.{lookup}
use Rattle.std.proofs.lemmas.List.{take_all}
use Rattle.ledger_transfers.specs.declared.change.Change.{Change}
use Rattle.ledger_transfers.specs.declared.held.Held.{Held}
use Rattle.ledger_transfers.specs.Touches.{touches}
use Rattle.ledger_transfers.specs.declared.selection.Stopped.{Stopped}
use Rattle.ledger_transfers.specs.Selecting.{AllDecided, AreReadBy}
use Rattle.ledger_transfers.proofs.selection.Selection.apply.Goals.{in-Ok, in-Err}
use Rattle.ledger_transfers.proofs.selection.Selection.apply.Goals as goal

pub decide_all-requires-clause-registered : goal.decide_all-requires-clause-registered
decide_all-requires-clause-registered g c κs within =
    let view : (c.self.inside.keys.keys, c.self.inside.table.entries) ≡ c.args.self.now = c.self.view_is in
    subst (λ (es : List (g.row.K.Denot × Held g.row.A.Denot)). All (λ (t : g.row.K.Denot × Change g.row.A-Effect.Denot). IsSome (lookup (g.K.PartialEq.eq t.0) es)) (touches g.T.Transfer.changes_of c.args.transfers.now)) (sym (ap (λ (v : List g.row.K.Denot × List (g.row.K.Denot × Held g.row.A.Denot)). v.1) view)) c.requires

pub returns-clause-verdicts : goal.returns-clause-verdicts
returns-clause-verdicts g c =
    let view : (c.self.inside.keys.keys, c.self.inside.table.entries) ≡ c.args.self.now = c.self.view_is in
    let start = ap (λ (v : List g.row.K.Denot × List (g.row.K.Denot × Held g.row.A.Denot)). v.1) view in
    let vs = c.decide_all.new.verdicts.items in
    let D = λ (es : List (g.row.K.Denot × Held g.row.A.Denot)) (cs : List g.row.T.Denot). AllDecided g.K.PartialEq.eq g.A.PartialEq.eq g.A.Account.rules g.T.Transfer.changes_of es c.decide_all.new.table.entries cs vs in
    elim c.match-decide_all.branch [
      | in-Ok w ↦ rw w.result-is (subst (λ cs. D c.args.self.now.1 cs) (take_all (length vs) c.args.transfers.now (omega (arith, w.in-Ok.ensures.ok))) (subst (λ es. D es (take (length vs) c.args.transfers.now)) start c.decide_all.ensures.decided))
      | in-Err w ↦ rw w.result-is tt
    ]

pub returns-clause-stopped : goal.returns-clause-stopped
returns-clause-stopped g c =
    let view : (c.self.inside.keys.keys, c.self.inside.table.entries) ≡ c.args.self.now = c.self.view_is in
    let start = ap (λ (v : List g.row.K.Denot × List (g.row.K.Denot × Held g.row.A.Denot)). v.1) view in
    let D = λ (es : List (g.row.K.Denot × Held g.row.A.Denot)) (vs : List Bool). AllDecided g.K.PartialEq.eq g.A.PartialEq.eq g.A.Account.rules g.T.Transfer.changes_of es c.decide_all.new.table.entries (take (length vs) c.args.transfers.now) vs in
    elim c.match-decide_all.branch [
      | in-Ok w ↦ rw w.result-is tt
      | in-Err w ↦ rw w.result-is (subst (λ vs. D c.args.self.now.1 vs) (sym w.from_vec.ensures) (subst (λ es. D es c.decide_all.new.verdicts.items) start c.decide_all.ensures.decided))
    ]

pub returns-clause-greedy : goal.returns-clause-greedy
returns-clause-greedy g c = IfOk-weaker _ _ _ (λ (v : Vec Bool Global) h. is_chosen g.K.PartialEq.eq g.A.PartialEq.eq g.A.Account.rules g.T.Transfer.changes_of c.args.self.now.1 c.decide_all.new.table.entries c.args.transfers.now v.items h) (returns-clause-verdicts g c)

pub returns-clause-stopped_greedy : goal.returns-clause-stopped_greedy
returns-clause-stopped_greedy g c =
    IfErr-weaker _ _ _ (λ (s : Stopped) h. is_chosen g.K.PartialEq.eq g.A.PartialEq.eq g.A.Account.rules g.T.Transfer.changes_of c.args.self.now.1 c.decide_all.new.table.entries (take (length s.verdicts) c.args.transfers.now) s.verdicts h) (returns-clause-stopped g c)

pub returns-clause-reads : goal.returns-clause-reads
returns-clause-reads g c =
    let view : (c.self.inside.keys.keys, c.self.inside.table.entries) ≡ c.args.self.now = c.self.view_is in
    subst (λ (v : List g.row.K.Denot × List (g.row.K.Denot × Held g.row.A.Denot)). AreReadBy g.K.PartialEq.eq v.1 c.decide_all.new.table.entries) view c.decide_all.ensures.same_reads

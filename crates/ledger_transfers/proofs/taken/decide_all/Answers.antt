use Rattle.std.proofs.Common.{◌≡◌, ℕ, ◌+◌, ◌++◌, ◌∷◌, [], Bool, List, length, take, sym, ap, subst, ◌∙◌, arith}
use Rattle.std.specs.Prelude.{IsSome}
use Rattle.std.specs.List.{All}
use Rattle.std.specs.Map.{lookup}
use Rattle.std.proofs.lemmas.List.{take_more, length_push, length-take}
use Rattle.std.proofs.lemmas.List.Elements.{All-weaker}
use Rattle.ledger_transfers.specs.declared.change.Change.{Change}
use Rattle.ledger_transfers.specs.declared.held.Held.{Held}
use Rattle.ledger_transfers.specs.Touches.{touches}
use Rattle.ledger_transfers.specs.Selecting.{AllDecided}
use Rattle.ledger_transfers.proofs.TakenLemmas.{there_alike}
use Rattle.ledger_transfers.proofs.VerdictLemmas.{touches_at, all_decided_push, reads_trans}
use Rattle.ledger_transfers.proofs.taken.decide_all.Goals as goal

pub returns-in_err-reserve-clause-decided : goal.returns-in_err-reserve-clause-decided
returns-in_err-reserve-clause-decided g c =
    let D = λ (n : ℕ) (vs : List Bool). AllDecided g.K.PartialEq.eq g.A.PartialEq.eq g.A.Account.rules g.T.Transfer.changes_of c.args.table.now.entries c.loop-candidate.table.entries (take n c.args.candidates.now) vs in
    subst (λ vs. D (length vs) vs) (sym c.reserve.ensures.items) (subst (λ n. D n c.loop-candidate.verdicts.items) (sym c.loop-candidate.invariant.count) c.loop-candidate.invariant.decided)

pub decide-requires-after_bounds : goal.decide-requires-after_bounds
decide-requires-after_bounds g c κs within =
    let eq = g.K.PartialEq.eq in
    let changes = g.T.Transfer.changes_of in
    let P = λ (t : g.row.K.Denot × Change g.row.A-Effect.Denot). IsSome (lookup (eq t.0) c.loop-candidate.table.entries) in
    let Q = λ (t : g.row.K.Denot × Change g.row.A-Effect.Denot). IsSome (lookup (eq t.0) c.args.table.now.entries) in
    let cands = c.args.candidates.now in
    let x = c.candidate-item.result in
    let there = λ (t : g.row.K.Denot × Change g.row.A-Effect.Denot). there_alike eq g.A.PartialEq.eq g.A.Account.rules c.args.table.now.entries c.loop-candidate.table.entries t.0 c.loop-candidate.invariant.same_reads in
    subst (λ y. All P (touches changes (y ∷ []))) (sym c.candidate-item.is)
    (touches_at changes P cands c.loop-candidate.candidate-index x c.loop-candidate-test.true (All-weaker Q P there (touches changes cands) c.requires.registered))

pub returns-in_err-verdict-clause-decided : goal.returns-in_err-verdict-clause-decided
returns-in_err-verdict-clause-decided g c =
    let D = λ (es : List (g.row.K.Denot × Held g.row.A.Denot)) (n : ℕ) (vs : List Bool). AllDecided g.K.PartialEq.eq g.A.PartialEq.eq g.A.Account.rules g.T.Transfer.changes_of c.args.table.now.entries es (take n c.args.candidates.now) vs in
    let old = c.loop-candidate.table.entries in
    subst (λ es. D es (length c.reserve.new.self.items) c.reserve.new.self.items) (sym c.in_err-verdict.ensures.unchanged)
    (subst (λ vs. D old (length vs) vs) (sym c.reserve.ensures.items) (subst (λ n. D old n c.loop-candidate.verdicts.items) (sym c.loop-candidate.invariant.count) c.loop-candidate.invariant.decided))

pub loop-candidate-preserved : goal.loop-candidate-preserved
loop-candidate-preserved g c =
    let eq = g.K.PartialEq.eq in
    let same = g.A.PartialEq.eq in
    let rules = g.A.Account.rules in
    let changes = g.T.Transfer.changes_of in
    let cands = c.args.candidates.now in
    let i = c.loop-candidate.candidate-index in
    let x = c.candidate-item.result in
    let vs = c.loop-candidate.verdicts.items in
    let v = c.in_ok-verdict.verdict in
    let start = c.args.table.now.entries in
    let mid = c.loop-candidate.table.entries in
    let new = c.decide.new.table.entries in
    let D = λ (us : List g.row.T.Denot) (ws : List Bool). AllDecided eq same rules changes start new us ws in
    let more : take (i + 1) cands ≡ take i cands ++ x ∷ [] = take_more cands i x c.loop-candidate-test.true ∙ ap (λ y. take i cands ++ y ∷ []) (sym c.candidate-item.is) in
    let pushed : c.push.new.self.items ≡ vs ++ v ∷ [] = c.in-Ok.ensures.items ∙ ap (λ us. us ++ v ∷ []) c.reserve.ensures.items in
    let even : length vs ≡ length (take i cands) = omega (arith, c.loop-candidate.invariant.count, c.loop-candidate-test.true, length-take i cands) in
    let step : D (take i cands ++ x ∷ []) (vs ++ v ∷ []) = all_decided_push eq same rules changes start mid new (take i cands) vs x v even c.loop-candidate.invariant.same_reads c.loop-candidate.invariant.decided c.in_ok-verdict.ensures.decided in
    record {
      count = ap length pushed ∙ length_push vs v ∙ ap (λ n. n + 1) c.loop-candidate.invariant.count;
      decided = subst (λ us. D us c.push.new.self.items) (sym more) (subst (λ ws. D (take i cands ++ x ∷ []) ws) (sym pushed) step);
      same_reads = reads_trans eq same rules start mid new c.loop-candidate.invariant.same_reads c.decide.ensures.same_reads;
    }

pub returns-clause-decided : goal.returns-clause-decided
returns-clause-decided g c =
    let D = λ (n : ℕ) (vs : List Bool). AllDecided g.K.PartialEq.eq g.A.PartialEq.eq g.A.Account.rules g.T.Transfer.changes_of c.args.table.now.entries c.loop-candidate.table.entries (take n c.args.candidates.now) vs in
    subst (λ n. D n c.loop-candidate.verdicts.items) (sym c.loop-candidate.invariant.count) c.loop-candidate.invariant.decided

use Rattle.std.proofs.Common.{◌≡◌, ◌+◌, ◌<◌, ◌++◌, ◌∷◌, [], cond, false, get_or, length, take, sym, ap, ◌∙◌, arith}
use Rattle.std.specs.List.{flat_map}
use Rattle.std.proofs.lemmas.List.{take_more, length-take}
use Rattle.ledger_transfers.specs.Greedy.{taken}
use Rattle.ledger_settling.proofs.ChoiceLemmas.{changes_more}
use Rattle.ledger_settling.proofs.rounds.push_round.Goals as goal

pub loop-place-preserved : goal.loop-place-preserved
loop-place-preserved g c =
    let f = g.T.Transfer.changes_of in
    let round = c.args.round.now in
    let verdicts = c.args.verdicts.now in
    let i = c.loop-place.place in
    let x = c.index-round-place.result in
    let v = get_or verdicts i false in
    let old = c.args.changes.now.items in
    let below : i < length round = omega (arith, c.loop-place-test.true, c.loop-place.auto.place-end) in
    let more : take (i + 1) round ≡ take i round ++ x ∷ [] = take_more round i x below ∙ ap (λ y. take i round ++ y ∷ []) (sym c.index-round-place.is) in
    let most : take (i + 1) verdicts ≡ take i verdicts ++ v ∷ [] = take_more verdicts i false (omega (arith, below, c.requires)) in
    let even : length (take i verdicts) ≡ length (take i round) = omega (arith, below, c.requires, length-take i verdicts, length-take i round) in
    let here : c.push_taken.new.changes.items ≡ c.loop-place.changes.items ++ cond v (f x) [] = c.in_ok-push_taken.ensures in
    here ∙ ap (λ us. us ++ cond v (f x) []) c.loop-place.invariant ∙ changes_more f old (take i round) (take i verdicts) x v even
    ∙ ap (λ us. old ++ flat_map f us) (ap (λ r. taken r (take i verdicts ++ v ∷ [])) (sym more) ∙ ap (taken (take (i + 1) round)) (sym most))

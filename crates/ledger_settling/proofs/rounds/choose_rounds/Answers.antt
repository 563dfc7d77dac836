use Rattle.std.proofs.Common.{◌≡◌, ◌∙◌, ◌+◌, ◌++◌, ◌∷◌, [], sym, ap, subst, length, length-append, map, take}
use Rattle.std.specs.List.{flat_map}
use Rattle.std.proofs.lemmas.List.{take_more, take_all, map-append}
use Rattle.ledger_transfers.specs.Greedy.{taken}
use Rattle.ledger_settling.specs.Blocks.{joined}
use Rattle.ledger_settling.specs.Rounds.{AreChosen}
use Rattle.ledger_settling.proofs.ChoiceLemmas.{joined_push, changes_append}
use Rattle.ledger_settling.proofs.RoundLemmas.{chosen_more}
use Rattle.ledger_settling.proofs.rounds.choose_rounds.Goals as goal

pub loop-round-preserved : goal.loop-round-preserved
loop-round-preserved g c =
    let same = g.A.PartialEq.eq in
    let account = g.A.Account.rules in
    let f = g.T.Transfer.changes_of in
    let accounts = c.args.accounts.now in
    let rounds = c.args.rounds.now in
    let i = c.loop-round.round-index in
    let item = c.round-item.result in
    let x = c.as_slice.result.now in
    let vs = c.loop-round.verdicts.items in
    let v = c.in_ok-chosen.chosen in
    let front = take i rounds in
    let old = c.args.changes.now.items in
    let start = c.args.selection.now.1 in
    let end = c.choose_round.new.selection.1 in
    let more : take (i + 1) rounds ≡ front ++ x ∷ [] = take_more rounds i item c.loop-round-test.true ∙ ap (λ y. front ++ y ∷ []) (sym c.round-item.is ∙ sym c.as_slice.ensures) in
    let pushed : c.push.new.self.items ≡ vs ++ v ∷ [] = c.in_ok-push.ensures.items in
    let even : length (joined vs) ≡ length (joined front) = c.loop-round.invariant.many in
    let all_rounds : joined (take (i + 1) rounds) ≡ joined front ++ x = ap joined more ∙ joined_push front x in
    let all_verdicts : joined c.push.new.self.items ≡ joined vs ++ v = ap joined pushed ∙ joined_push vs v in
    let step = chosen_more same account f accounts start c.loop-round.selection.1 end (joined front) x (joined vs) v even c.loop-round.invariant.chosen c.in_ok-chosen.ensures.chosen in
    record {
      staged = c.in_ok-staged.ensures;
      opened = c.in_ok-chosen.ensures.opened;
      cut = ap (map length) pushed ∙ map-append length vs (v ∷ []) ∙ ap (λ us. us ++ length v ∷ []) c.loop-round.invariant.cut ∙ ap (λ n. map length front ++ n ∷ []) c.in_ok-chosen.ensures.all
          ∙ sym (ap (map length) more ∙ map-append length front (x ∷ []));
      many = ap length all_verdicts ∙ length-append (joined vs) v ∙ ap (λ n. n + length v) even ∙ ap (λ n. length (joined front) + n) c.in_ok-chosen.ensures.all ∙ sym (ap length all_rounds ∙ length-append (joined front) x);
      chosen = subst (λ cs. AreChosen same account f accounts start end cs (joined c.push.new.self.items)) (sym all_rounds) (subst (AreChosen same account f accounts start end (joined front ++ x)) (sym all_verdicts) step);
      changes = c.in_ok-chosen.ensures.changes ∙ ap (λ us. us ++ flat_map f (taken x v)) c.loop-round.invariant.changes ∙ changes_append f old (joined front) x (joined vs) v even
          ∙ ap (λ us. old ++ flat_map f us) (ap (λ r. taken r (joined vs ++ v)) (sym all_rounds) ∙ ap (taken (joined (take (i + 1) rounds))) (sym all_verdicts));
    }

pub returns-clause-chosen : goal.returns-clause-chosen
returns-clause-chosen g c =
    subst (λ rs. AreChosen g.A.PartialEq.eq g.A.Account.rules g.T.Transfer.changes_of c.args.accounts.now c.args.selection.now.1 c.loop-round.selection.1 (joined rs) (joined c.loop-round.verdicts.items))
    (take_all c.loop-round.round-index c.args.rounds.now c.loop-round-test.false) c.loop-round.invariant.chosen

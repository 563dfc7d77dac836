use Rattle.std.proofs.Common.{sym, subst}
use Rattle.ledger_settling.specs.Rounds.{AreChosen}
use Rattle.ledger_settling.proofs.OpenLemmas.{opened_after}
use Rattle.ledger_settling.proofs.RoundLemmas.{chosen_round}
use Rattle.ledger_settling.proofs.rounds.choose_round.Goals as goal

pub returns-clause-opened : goal.returns-clause-opened
returns-clause-opened g c =
    opened_after g.A.PartialEq.eq c.args.accounts.now c.open_round.new.selection.0 c.apply.new.self.0 c.open_round.new.selection.1 c.apply.new.self.1 c.apply.ensures.keys c.apply.ensures.reads c.in_ok-open_round.ensures.opened

pub returns-clause-chosen : goal.returns-clause-chosen
returns-clause-chosen g c =
    let same = g.A.PartialEq.eq in
    let account = g.A.Account.rules in
    let eq = g.met.A.Eq g.world.𝓛 g.world.𝓜 g.world.𝓡 ((λ s x. x), (λ x. x), (λ x. x), λ x. x) in
    let laws = g.met.A.Account g.world.𝓛 g.world.𝓜 g.world.𝓡 ((λ s x. x), (λ x. x), (λ x. x), λ x. x) in
    let accounts = c.args.accounts.now in
    let mid = c.open_round.new.selection in
    subst (AreChosen same account g.T.Transfer.changes_of accounts c.args.selection.now.1 c.apply.new.self.1 c.args.round.now) (sym c.from_vec.ensures)
    (chosen_round same eq.laws account laws.laws accounts mid.0 mid.1 c.in_ok-open_round.ensures.opened g.T.Transfer.changes_of c.args.selection.now.1 c.apply.new.self.1 c.args.round.now c.in-Ok.verdicts.items
    c.in_ok-open_round.ensures.keeps c.in_ok-open_round.ensures.registered c.in-Ok.ensures.greedy)

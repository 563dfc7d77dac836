use Rattle.std.proofs.Common.{◌≡◌, ℕ, Bool, List, length, take, sym, ap, subst}
use Rattle.ledger_transfers.specs.declared.held.Held.{Held}
use Rattle.ledger_transfers.specs.declared.sequenced.Sequenced.{Sequenced}
use Rattle.transfer_cases.specs.Promised.{AreRight, candidates, opening}
use Rattle.transfer_cases.specs.declared.payment.Payment.{Payment}
use Rattle.transfer_cases.proofs.Uses.{right_of, whole}
use Rattle.transfer_cases.proofs.promised.choose.Goals as goal

pub returns-in-Ok-clause-right : goal.returns-in-Ok-clause-right
returns-in-Ok-clause-right c =
    let opened : c.args.selection.now.1 ≡ opening = ap (λ (p : List ℕ × List (ℕ × Held Sequenced)). p.1) c.requires.opened in
    let verdicts = c.in-Ok.verdicts.items in
    let all : c.args.payments.now ≡ take (length verdicts) candidates = whole c.args.payments.now verdicts c.requires.payments c.in-Ok.ensures.ok in
    let right : AreRight c.apply.new.self.1 (take (length verdicts) candidates) verdicts = right_of c.args.selection.now.1 c.apply.new.self.1 c.args.payments.now verdicts opened c.requires.stands all c.in-Ok.ensures.verdicts c.in-Ok.ensures.greedy in
    subst (λ (vs : List Bool). AreRight c.apply.new.self.1 (take (length vs) candidates) vs) (sym c.from_vec.ensures) right

pub returns-in-Err-clause-right : goal.returns-in-Err-clause-right
returns-in-Err-clause-right c =
    let opened : c.args.selection.now.1 ≡ opening = ap (λ (p : List ℕ × List (ℕ × Held Sequenced)). p.1) c.requires.opened in
    let verdicts = c.in-Err.field-0.verdicts in
    let front : take (length verdicts) c.args.payments.now ≡ take (length verdicts) candidates = ap (λ (ps : List Payment). take (length verdicts) ps) c.requires.payments in
    right_of c.args.selection.now.1 c.apply.new.self.1 (take (length verdicts) c.args.payments.now) verdicts opened c.requires.stands front c.in-Err.ensures.stopped c.in-Err.ensures.stopped_greedy

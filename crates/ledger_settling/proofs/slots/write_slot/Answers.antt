use Rattle.std.proofs.Common.{sym, subst, ◌++◌, None, Some}
use Rattle.std.specs.Cmp.Lexicographic.{slice_cmp}
use Rattle.std.specs.Ordering.{nat_cmp, is_eq}
use Rattle.std.specs.Prelude.{option_to_list}
use Rattle.ledger_settling.specs.Blocks.{written}
use Rattle.ledger_settling.specs.Reports.{IsReplay}
use Rattle.ledger_settling.proofs.ReplayLemmas.{replay_put, replay_delete}
use Rattle.ledger_settling.specs.Slots.{IsProper}
use Rattle.ledger_settling.proofs.ProperLemmas.{proper_with}
use Rattle.ledger_settling.proofs.slots.write_slot.Goals as goal

pub returns-in_ok-push-in-Delete-clause-replay : goal.returns-in_ok-push-in-Delete-clause-replay
returns-in_ok-push-in-Delete-clause-replay g c = λ base r.
    let values = g.A.AccountValue.values in
    subst (λ s. IsReplay g.A.PartialEq.eq values c.remove.new.self (base ++ option_to_list (written values c.args.key s))) (sym c.in-Delete.is)
    (replay_delete g.A.PartialEq.eq values base c.args.accounts.now c.remove.new.self c.args.key r c.remove.ensures.updates.0)

pub returns-in_ok-insert-in-Put-clause-replay : goal.returns-in_ok-insert-in-Put-clause-replay
returns-in_ok-insert-in-Put-clause-replay g c = λ base r.
    let same = g.A.PartialEq.eq in
    let values = g.A.AccountValue.values in
    let laws = g.met.A.AccountValue g.world.𝓛 g.world.𝓜 g.world.𝓡 ((λ s x. x), (λ x. x), (λ x. x), λ x. x) in
    let a = c.in-Put.account in
    subst (λ s. IsReplay same values c.insert.new.self (base ++ option_to_list (written values c.args.key s))) (sym c.in-Put.is)
    (replay_put same values base c.args.accounts.now c.insert.new.self c.args.key (values.value_of a) a r (laws.value_laws.reads_back a c.to_value.ensures.sound) c.in_ok-insert-in-Put.ensures.updates.0)

pub returns-in_ok-push-in-Delete-clause-initial : goal.returns-in_ok-push-in-Delete-clause-initial
returns-in_ok-push-in-Delete-clause-initial g c = λ p.
    proper_with g.A.PartialEq.eq g.A.Account.rules c.args.accounts.now c.remove.new.self c.args.key (λ q. is_eq (slice_cmp nat_cmp c.args.key q)) None tt c.remove.ensures.updates.0

pub returns-in_ok-insert-in-Put-clause-initial : goal.returns-in_ok-insert-in-Put-clause-initial
returns-in_ok-insert-in-Put-clause-initial g c = λ p.
    let same = g.A.PartialEq.eq in
    let rules = g.A.Account.rules in
    proper_with same rules c.args.accounts.now c.insert.new.self c.args.key (λ q. is_eq (slice_cmp nat_cmp c.args.key q)) (Some c.in-Put.account) (subst (IsProper same rules) c.in-Put.is p) c.in_ok-insert-in-Put.ensures.updates.0

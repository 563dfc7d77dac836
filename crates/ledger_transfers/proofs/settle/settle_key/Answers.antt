use Rattle.std.proofs.Common.{◌≡◌, ◌<◌, ◌≤◌, ◌+◌, ◌-◌, Some, None, refl, sym, ap, subst, arith, ◌∙◌}
use Rattle.std.specs.Prelude.{IsNone, IsSome}
use Rattle.ledger_transfers.specs.Rules.{SameOutcome}
use Rattle.ledger_transfers.specs.Settling.{opened, folded}
use Rattle.ledger_transfers.proofs.SettleLemmas.{settles_to, folded_copy, outcome_none, outcome_some}
use Rattle.ledger_transfers.proofs.settle.settle_key.Goals as goal

pub returns-then-not-apply_all-clause-fails : goal.returns-then-not-apply_all-clause-fails
returns-then-not-apply_all-clause-fails g c =
    let eq = g.met.A.Eq g.world.𝓛 g.world.𝓜 g.world.𝓡 ((λ s x. x), (λ x. x), (λ x. x), λ x. x) in
    let laws = g.met.A.Account g.world.𝓛 g.world.𝓜 g.world.𝓡 ((λ s x. x), (λ x. x), (λ x. x), λ x. x) in
    let same = g.A.PartialEq.eq in
    let account = g.A.Account.rules in
    let o = opened account c.args.read.now in
    let total = c.args.total.now in
    let copy = c.in-Ok.account in
    let f : SameOutcome same None (folded account copy total.effects) = subst (λ us. SameOutcome same None (folded account copy us)) c.as_slice.ensures c.if-not-apply_all.ensures in
    let none = outcome_none same eq.laws account laws.laws (folded account o total.effects) (folded_copy same eq.laws account laws.laws o copy total.effects None c.in-Ok.ensures f) in
    (refl, subst IsNone (sym none) refl)

pub returns-in_default-checked_sub-clause-fails : goal.returns-in_default-checked_sub-clause-fails
returns-in_default-checked_sub-clause-fails g c =
    let eq = g.met.A.Eq g.world.𝓛 g.world.𝓜 g.world.𝓡 ((λ s x. x), (λ x. x), (λ x. x), λ x. x) in
    let laws = g.met.A.Account g.world.𝓛 g.world.𝓜 g.world.𝓡 ((λ s x. x), (λ x. x), (λ x. x), λ x. x) in
    let same = g.A.PartialEq.eq in
    let account = g.A.Account.rules in
    let o = opened account c.args.read.now in
    let total = c.args.total.now in
    let copy = c.in-Ok.account in
    let done = c.apply_all.new.account in
    let f : SameOutcome same (Some done) (folded account copy total.effects) = subst (λ us. SameOutcome same (Some done) (folded account copy us)) c.as_slice.ensures c.if-not-apply_all.ensures in
    let some = outcome_some same eq.laws account laws.laws (folded account o total.effects) done (folded_copy same eq.laws account laws.laws o copy total.effects (Some done) c.in-Ok.ensures f) in
    let less : total.debits ≤ c.opening_balance.result → ⊥ = c.in_default-checked_sub.ensures in
    (refl, subst IsSome (sym some.1) refl, omega (arith, c.opening_balance.ensures, less))

pub returns-in_default-checked_add-clause-fails : goal.returns-in_default-checked_add-clause-fails
returns-in_default-checked_add-clause-fails g c =
    let eq = g.met.A.Eq g.world.𝓛 g.world.𝓜 g.world.𝓡 ((λ s x. x), (λ x. x), (λ x. x), λ x. x) in
    let laws = g.met.A.Account g.world.𝓛 g.world.𝓜 g.world.𝓡 ((λ s x. x), (λ x. x), (λ x. x), λ x. x) in
    let same = g.A.PartialEq.eq in
    let account = g.A.Account.rules in
    let o = opened account c.args.read.now in
    let total = c.args.total.now in
    let copy = c.in-Ok.account in
    let done = c.apply_all.new.account in
    let f : SameOutcome same (Some done) (folded account copy total.effects) = subst (λ us. SameOutcome same (Some done) (folded account copy us)) c.as_slice.ensures c.if-not-apply_all.ensures in
    let some = outcome_some same eq.laws account laws.laws (folded account o total.effects) done (folded_copy same eq.laws account laws.laws o copy total.effects (Some done) c.in-Ok.ensures f) in
    let more : c.in-Some.funded + total.credits < 18446744073709551616 → ⊥ = c.in_default-checked_add.ensures in
    let is : c.in-Some.funded ≡ account.balance_of o - total.debits = c.in-Some.ensures.1 ∙ ap (λ n. n - total.debits) c.opening_balance.ensures in
    let over : 18446744073709551616 ≤ c.in-Some.funded + total.credits = omega (arith, more) in
    (refl, subst IsSome (sym some.1) refl, omega (arith, c.opening_balance.ensures, c.in-Some.ensures.0), omega (arith, is, over))

pub returns-clause-settled : goal.returns-clause-settled
returns-clause-settled g c =
    let eq = g.met.A.Eq g.world.𝓛 g.world.𝓜 g.world.𝓡 ((λ s x. x), (λ x. x), (λ x. x), λ x. x) in
    let laws = g.met.A.Account g.world.𝓛 g.world.𝓜 g.world.𝓡 ((λ s x. x), (λ x. x), (λ x. x), λ x. x) in
    let same = g.A.PartialEq.eq in
    let account = g.A.Account.rules in
    let o = opened account c.args.read.now in
    let total = c.args.total.now in
    let copy = c.in-Ok.account in
    let done = c.apply_all.new.account in
    let f : SameOutcome same (Some done) (folded account copy total.effects) = subst (λ us. SameOutcome same (Some done) (folded account copy us)) c.as_slice.ensures c.if-not-apply_all.ensures in
    let balance = c.in-Some-checked_add.balance in
    let is : balance ≡ (account.balance_of o - total.debits) + total.credits = c.in-Some-checked_add.ensures.1 ∙ ap (λ n. n + total.credits) (c.in-Some.ensures.1 ∙ ap (λ n. n - total.debits) c.opening_balance.ensures) in
    settles_to same eq.laws account laws.laws o copy done c.set_balance.new.self total balance c.slot.result c.in-Ok.ensures f
    (omega (arith, c.in-Some.ensures.0, c.opening_balance.ensures)) is (omega (arith, c.in-Some-checked_add.ensures.0, c.in-Some-checked_add.ensures.1)) c.set_balance.ensures c.slot.ensures

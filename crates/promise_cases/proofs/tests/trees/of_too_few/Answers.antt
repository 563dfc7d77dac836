use Rattle.std.proofs.Common.{◌≡◌, ℕ, length, Result, Err, refl, sym, ap, ◌∙◌, arith}
use Rattle.ledger_merkle.specs.Range.{needed}
use Rattle.ledger_merkle.specs.declared.range.RangeFault.{RangeFault}
use Rattle.ledger_merkle.specs.declared.range.RangeFault.TheVariants as faults
use Rattle.promise_cases.proofs.Trees.{one_needed}
use Rattle.promise_cases.proofs.tests.trees.of_too_few.Goals as goal

pub returns : goal.returns
returns c =
    let n : needed c.at-2.result c.at-3.result 1 ≡ 1 = one_needed c.at-2.result c.at-3.result c.at-2.ensures c.at-3.ensures in
    let none : length c.new.result ≡ 0 = ap length c.new.ensures in
    c.check_range.ensures.count (c.at.ensures ∙ sym c.at-2.ensures) refl (λ e. omega (arith, e, n, none))
    ∙ ap (λ (k : ℕ). let r : Result (Unit {0}) RangeFault = Err (faults.Count k) in r) n

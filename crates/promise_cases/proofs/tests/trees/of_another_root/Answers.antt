use Rattle.std.proofs.Common.{◌≡◌, ℕ, List, [], ◌∷◌, length, Result, Err, refl, sym, ap, ◌∙◌}
use Rattle.ledger_merkle.specs.Digests.{toy_digest}
use Rattle.ledger_merkle.specs.Range.{needed, range_root}
use Rattle.ledger_merkle.specs.declared.range.RangeFault.{RangeFault}
use Rattle.ledger_merkle.specs.declared.range.RangeFault.TheVariants as faults
use Rattle.promise_cases.proofs.Trees.{none_needed, other_root}
use Rattle.promise_cases.proofs.tests.trees.of_another_root.Goals as goal

pub returns : goal.returns
returns c =
    let size = c.at-2.result in
    let start = c.at-3.result in
    let items : List (List ℕ) = c.args.item ∷ [] in
    let n : needed size start 1 ≡ 0 = none_needed size start c.at-2.ensures c.at-3.ensures in
    let none : length c.new.result ≡ 0 = ap length c.new.ensures in
    let same : range_root toy_digest size start items c.new.result ≡ range_root toy_digest 1 0 items [] =
    ap (λ (k : ℕ). range_root toy_digest k start items c.new.result) c.at-2.ensures
    ∙ (ap (λ (k : ℕ). range_root toy_digest 1 k items c.new.result) c.at-3.ensures ∙ ap (λ (ds : List (List ℕ)). range_root toy_digest 1 0 items ds) c.new.ensures) in
    c.check_range.ensures.root (c.at.ensures ∙ sym c.at-2.ensures) refl (none ∙ sym n) (other_root size start items c.new.result)
    ∙ ap (λ (d : List ℕ). let r : Result (Unit {0}) RangeFault = Err (faults.Root d) in r) same

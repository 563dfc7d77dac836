use Rattle.std.proofs.Common.{◌≡◌, ◌+◌, [], ◌++◌, append_assoc, get_or, take, sym, ap, ◌∙◌}
use Rattle.std.specs.List.{concat}
use Rattle.ledger_merkle.proofs.Lists.{concat_one_more}
use Rattle.ledger_merkle.proofs.binding.root_input.Goals as goal

pub loop-peak-preserved : goal.loop-peak-preserved
loop-peak-preserved c =
    let i = c.loop-peak.peak-index in
    let ps = c.args.peaks.now in
    let begun = c.extend_from_slice.new.self.items in
    let more : concat (take (i + 1) ps) ≡ concat (take i ps) ++ get_or ps i [] = concat_one_more ps i [] c.loop-peak-test.true in
    c.in_ok-extend_from_slice-2.ensures.items ∙ (ap (λ z. z ++ get_or ps i []) c.loop-peak.invariant ∙ (append_assoc begun (concat (take i ps)) (get_or ps i []) ∙ ap (λ z. begun ++ z) (sym more)))

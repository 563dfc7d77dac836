use Rattle.std.proofs.Common.{◌≡◌, ◌<◌, ◌++◌, ◌∷◌, [], take, length, sym, ap, ◌∙◌, arith}
use Rattle.ledger_settling.proofs.ReplayLemmas.{taken_found}
use Rattle.ledger_settling.proofs.open.first_ops.Goals as goal

pub loop-place-preserved : goal.loop-place-preserved
loop-place-preserved c =
    let ops = c.args.log.now.ops in
    let op = c.op_behind-op.result.now in
    let below : c.loop-place.place < length ops = omega (arith, c.loop-place-test.true, c.loop-place.auto.place-end, c.requires) in
    c.in_ok-push.ensures.items ∙ ap (λ us. us ++ op ∷ []) c.loop-place.invariant ∙ sym (taken_found ops c.loop-place.place op below c.op_behind-op.ensures)

pub returns : goal.returns
returns c =
    let end : c.loop-place.place ≡ c.args.count = omega (arith, c.loop-place-test.false, c.loop-place.auto.place-end) in
    c.loop-place.invariant ∙ ap (λ n. take n c.args.log.now.ops) end

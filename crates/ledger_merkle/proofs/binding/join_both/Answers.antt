use Rattle.std.proofs.Common.{◌≡◌, ◌%◌, ◌⊎◌, inl, inr, arith}
use Rattle.ledger_merkle.proofs.Joining.{parity}
use Rattle.ledger_merkle.proofs.Inputs.{pushed_at}
use Rattle.ledger_merkle.proofs.binding.join_both.Goals.{then-loop-kept-test+else-rest-eq1, else-loop-kept-test}
use Rattle.ledger_merkle.proofs.binding.join_both.Goals as goal

pub returns-clause-left : goal.returns-clause-left
returns-clause-left g c =
    let ended : (c.loop-kept.kept ≡ 0) ⊎ (c.loop-kept.rest % 2 ≡ 0) =
    elim c.loop-kept-test.branch [
      | then-loop-kept-test+else-rest-eq1 w ↦ inr (omega (arith, parity c.loop-kept.rest))
      | else-loop-kept-test w ↦ inl (omega arith)
    ] in
    pushed_at g.H.Hasher.digest c.args.size c.loop-kept.rest c.loop-kept.kept c.args.lefts.now c.args.one c.loop-kept.left c.loop-kept.invariant.left ended

pub returns-clause-right : goal.returns-clause-right
returns-clause-right g c =
    let ended : (c.loop-kept.kept ≡ 0) ⊎ (c.loop-kept.rest % 2 ≡ 0) =
    elim c.loop-kept-test.branch [
      | then-loop-kept-test+else-rest-eq1 w ↦ inr (omega (arith, parity c.loop-kept.rest))
      | else-loop-kept-test w ↦ inl (omega arith)
    ] in
    pushed_at g.H.Hasher.digest c.args.size c.loop-kept.rest c.loop-kept.kept c.args.rights.now c.args.other c.loop-kept.right c.loop-kept.invariant.right ended

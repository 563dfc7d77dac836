use Rattle.std.proofs.Common.{◌<◌, ◌≤◌, take, length, All, sym, subst, arith}
use Rattle.std.proofs.lemmas.List.{take_all}
use Rattle.std.proofs.lemmas.List.Elements.{All-push}
use Rattle.ledger_settling.specs.Blocks.{IsReadable}
use Rattle.ledger_settling.specs.Reports.{IsReplay}
use Rattle.ledger_settling.proofs.ReplayLemmas.{taken_found, told_true}
use Rattle.ledger_settling.proofs.replay.replay.Goals as goal

pub returns-clause-readable : goal.returns-clause-readable
returns-clause-readable g c =
    let most : length c.args.log.now.ops ≤ c.loop-place.place = omega (arith, c.loop-place-test.false, c.count_of-count.ensures) in
    subst (All (IsReadable g.A.AccountValue.values)) (take_all c.loop-place.place c.args.log.now.ops most) c.loop-place.invariant.readable

pub returns-clause-accounts : goal.returns-clause-accounts
returns-clause-accounts g c =
    let most : length c.args.log.now.ops ≤ c.loop-place.place = omega (arith, c.loop-place-test.false, c.count_of-count.ensures) in
    subst (IsReplay g.A.PartialEq.eq g.A.AccountValue.values c.loop-place.accounts) (take_all c.loop-place.place c.args.log.now.ops most) c.loop-place.invariant.replay

pub loop-place-preserved : goal.loop-place-preserved
loop-place-preserved g c =
    let same = g.A.PartialEq.eq in
    let values = g.A.AccountValue.values in
    let ops = c.args.log.now.ops in
    let base = take c.loop-place.place ops in
    let op = c.op_behind-op.result.now in
    let below : c.loop-place.place < length ops = omega (arith, c.loop-place-test.true, c.count_of-count.ensures) in
    let more = taken_found ops c.loop-place.place op below c.op_behind-op.ensures in
    record {
      replay = subst (IsReplay same values c.replay_op.new.accounts) (sym more) (c.in_ok-replay_op.ensures.replay c.if-not-branch.false base c.loop-place.invariant.replay);
      readable = subst (All (IsReadable values)) (sym more) (All-push (IsReadable values) base op c.loop-place.invariant.readable (told_true c.in_ok-replay_op.field-0 _ _ c.if-not-branch.false c.in_ok-replay_op.ensures.readable));
    }

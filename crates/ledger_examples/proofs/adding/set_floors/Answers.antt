use Rattle.std.proofs.Common.{◌<◌, length, set, ap, sym, ◌∙◌, arith}
use Rattle.ledger_examples.proofs.Batching.{map_on}
use Rattle.ledger_examples.proofs.adding.set_floors.Goals as goal

pub loop-op-preserved : goal.loop-op-preserved
loop-op-preserved g c =
    let h = g.F.ExampleFamily.added_of c.args.floor in
    let i = c.loop-op.op-index in
    let within : i < length c.args.ops.now = omega arith in
    ap (set c.loop-op.ops i) (c.added.ensures ∙ ap h (sym c.op-item.is)) ∙ map_on h c.args.ops.now c.loop-op.ops i c.op-item.result within c.loop-op.invariant c.op-item.is

use Rattle.std.proofs.Common.{◌∙◌}
use Rattle.ledger_examples.proofs.Runs.{compact_on}
use Rattle.ledger_examples.proofs.adding.grown.Goals as goal

pub loop-rest-preserved : goal.loop-rest-preserved
loop-rest-preserved g c =
    let on = compact_on g.H.Hasher.digest g.F.Op.Leaf.spelling g.F.Family.floor_of c.loop-rest.grown c.append_batch.new.self c.loop-rest.rest.now c.split_at.result.0.now c.split_at.result.1.now c.first_batch.result c.split_at.ensures.front c.split_at.ensures.back c.first_batch.ensures.cut c.in-Ok-append_batch.ensures.ok c.loop-rest.invariant.taken in
    record { taken = on.0; grown = on.1 ∙ c.loop-rest.invariant.grown }

use Rattle.std.proofs.Common.{◌∙◌}
use Rattle.sync_client.proofs.Proving.{proved_is}
use Rattle.sync_client.proofs.judging.is_proved.Goals as goal
use Rattle.sha2.specs.Sha256.{sha256}

pub returns : goal.returns
returns g c =
    c.is_ok.ensures.value ∙ proved_is c.check_range.result sha256 g.Op.Leaf.spelling c.args.target.now.root c.args.target.now.end c.args.proof.now c.args.start c.args.ops.now c.check_range.ensures.ok

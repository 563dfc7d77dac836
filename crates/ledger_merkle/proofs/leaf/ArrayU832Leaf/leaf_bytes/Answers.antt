use Rattle.std.proofs.Common.{◌≡◌, length, ap, ◌∙◌}
use Rattle.std.proofs.lemmas.List.{take_at}
use Rattle.ledger_merkle.proofs.leaf.ArrayU832Leaf.leaf_bytes.Goals as goal

pub returns-clause-bytes : goal.returns-clause-bytes
returns-clause-bytes c =
    let out = c.copy_from_slice.new.self in
    let same : out ≡ c.args.self.now = c.copy_from_slice.ensures.after in
    let long : length c.args.self.now ≡ 32 = c.told-self in
    take_at _ _ 32 (ap length same ∙ long) ∙ same

use Rattle.std.proofs.Common.{◌≡◌, ◌++◌, ap, ◌∙◌}
use Rattle.sha2.specs.Sha256.{sha256}
use Rattle.ledger_merkle.specs.Tree.{be64}
use Rattle.ledger_examples.specs.Tests.{test_key}
use Rattle.ledger_examples.proofs.operations.key_of.Goals as goal

pub returns : goal.returns
unfolding test_key be64
returns c =
    let first : c.to_be_bytes.result ≡ be64 c.args.number = c.to_be_bytes.ensures in
    let second : c.to_be_bytes-2.result ≡ be64 c.args.seed = c.to_be_bytes-2.ensures in
    c.hash_both.ensures ∙ (ap (λ a. sha256 (a ++ c.to_be_bytes-2.result)) first ∙ ap (λ b. sha256 (be64 c.args.number ++ b)) second)

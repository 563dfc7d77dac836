use Rattle.std.proofs.Common.{◌≡◌, ◌++◌, ℕ, List, ap, ◌∙◌, rules, lit≤}
use Rattle.ledger_codec.specs.Sequences.{string_written}
use Rattle.ledger_codec.specs.Frames.{front}
use Rattle.ledger_codec.proofs.Stable.{framed}
use Rattle.ledger_codec.proofs.framing.frame.Goals as goal

pub returns-clause-again : goal.returns-clause-again
returns-clause-again c rest =
    let written : c.into_bytes.result.items ≡ string_written c.args.body.now = search rules in
    ap (λ (x : List ℕ). front 10485760 (x ++ rest)) written ∙ framed 10485760 c.args.body.now rest c.requires (lit≤ tt)

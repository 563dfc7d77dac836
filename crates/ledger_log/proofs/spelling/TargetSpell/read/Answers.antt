use Rattle.std.proofs.Common.{◌∙◌, ap, sym}
use Rattle.ledger_codec.specs.Numbers.{digest_at}
use Rattle.ledger_log.specs.Spellings.{target_parts}
use Rattle.ledger_log.proofs.spelling.TargetSpell.read.Goals as goal

pub returns-in-Some : goal.returns-in-Some
returns-in-Some c =
    let target = c.in-Some.target in
    target_parts c.args.from.now c.read_digest.new.self c.read.new.from c.read-2.new.from c.in_ok-root.root c.in_ok-start.start c.in_ok-end.end target
    (ap digest_at (sym c.fork-at.ensures) ∙ c.in_ok-root.ensures.reads) c.in_ok-start.ensures c.in_ok-end.ensures
    c.in-Some.ensures.0 c.in-Some.ensures.1 c.in-Some.ensures.2

use Rattle.std.proofs.Common.{Some, sym, ap, ◌∙◌}
use Rattle.ledger_compact.proofs.Ends.{batch_ends}
use Rattle.ledger_compact.proofs.Kept.{kept_more}
use Rattle.ledger_compact.proofs.compact.CompactLog.append_batch.Goals as goal

pub returns-clause-stands : goal.returns-clause-stands
returns-clause-stands g c log e =
    let hash = g.H.Hasher.digest in
    let spelling = g.F.Op.Leaf.spelling in
    let ops = c.args.ops.now in
    let end = batch_ends g.F.Family.floor_of ops c.in-Ok.floor c.in-Ok.ensures.floor in
    kept_more hash spelling log c.args.self.now e ops end.0 end.1 end.2 ∙ ap Some (sym c.in_ok-grow.ensures.ok)

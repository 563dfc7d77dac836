use Rattle.ledger_chain.proofs.Settled.{lookup_last}
use Rattle.ledger_chain.proofs.writes.Writes.last.Goals as goal

pub returns : goal.returns
returns c =
    let found = lookup_last c.self.inside.entries.entries c.args.key.now c.self.invariant in
    let got = c.get.ensures.value in
    let copied = c.copied.ensures in
    let view = c.self.view_is in
    cc

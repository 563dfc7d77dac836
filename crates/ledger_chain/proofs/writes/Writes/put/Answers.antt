use Rattle.ledger_chain.proofs.Settled.{put_one, put_settled}
use Rattle.ledger_chain.proofs.writes.Writes.put.Goals as goal

pub invariant_of-self-2 : goal.invariant_of-self-2
invariant_of-self-2 c = put_settled c.self.inside.entries.entries c.insert.new.self.entries c.args.key c.args.value c.self.invariant c.in_ok-insert.ensures.entries

pub returns : goal.returns
returns c =
    let one = put_one c.self.inside.entries.entries c.insert.new.self.entries c.args.key c.args.value c.self.invariant c.in_ok-insert.ensures.entries in
    let view = c.self.view_is in
    cc

use Rattle.ledger_simulate.proofs.Numbering.{numbered_rest}
use Rattle.ledger_simulate.proofs.queue.Queue.take.Goals as goal

pub invariant_of-self : goal.invariant_of-self
invariant_of-self c =
    numbered_rest c.self.inside.next c.pop_first.result c.self.inside.entries.entries c.pop_first.new.self.entries
    c.pop_first.ensures.removal c.pop_first.ensures.unchanged c.self.invariant

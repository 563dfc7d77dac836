use Rattle.std.proofs.Common.{◌≡◌, ◌+◌, ◌<◌, ◌≤◌, sym, subst, arith}
use Rattle.ledger_simulate.specs.Queue.{NumberedBelow}
use Rattle.ledger_simulate.proofs.Numbering.{numbered_insert, numbered_up}
use Rattle.ledger_simulate.proofs.queue.Queue.add.Goals as goal

pub invariant_of-self-2 : goal.invariant_of-self-2
invariant_of-self-2 c =
    let inside = c.self.inside in
    let grown : c.in-Some.after ≡ inside.next + 1 = c.in-Some.ensures.1 in
    let below : inside.next < c.in-Some.after = omega arith in
    let up : inside.next ≤ c.in-Some.after = omega arith in
    subst (NumberedBelow c.in-Some.after) (sym c.in-Ok.ensures.entries)
    (numbered_insert c.in-Some.after inside.entries.entries (c.args.time, inside.next) c.args.event below
    (numbered_up inside.next c.in-Some.after inside.entries.entries up c.self.invariant))

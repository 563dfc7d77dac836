use Rattle.std.proofs.Common.{◌≡◌, ◌∙◌, sym, Some}
use Rattle.sync_net.proofs.Pendings.{pushed_so}
use Rattle.sync_net.proofs.machine.Machine.submit.Goals as goal

pub invariant_of-self-2 : goal.invariant_of-self-2
invariant_of-self-2 g c =
    let at : c.self.inside.numbers ≡ Some c.in-Some.number = sym c.peek.ensures ∙ c.in-Some.is in
    record {
      limit = c.self.invariant.limit;
      numbered = pushed_so c.next.result c.self.inside.numbers c.next.new.self c.self.inside.pending.items c.push.new.self.items (record { number = c.in-Some.number; ask = c.args.ask }) at c.next.ensures c.in-Ok-push.ensures.items c.self.invariant.numbered;
    }

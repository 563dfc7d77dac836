use Rattle.ledger_settling.specs.Blocks.{meaning}
use Rattle.follow_laws.proofs.Whole.{ran_alike}
use Rattle.follow_laws.proofs.alike.follow_twice.Goals as goal

pub returns : goal.returns
returns g c = record {
  one_answer = λ stream bytes told other same.
      let eq = g.met.A.Eq g.world.𝓛 g.world.𝓜 g.world.𝓡 ((λ s x. x), (λ x. x), (λ x. x), λ x. x) in
      let value = g.met.A.AccountValue g.world.𝓛 g.world.𝓜 g.world.𝓡 ((λ s x. x), (λ x. x), (λ x. x), λ x. x) in
      let m = meaning g.T.Transfer.changes_of g.A.PartialEq.eq g.A.Account.rules g.A.AccountValue.values in
      ran_alike m c.args.target.now c.args.limits.now c.args.blocks.now stream bytes value.value_laws eq.laws
      (g.Ts.Targets.answers c.args.updates.now) (g.Ts.Targets.answers c.run-one.new.updates) (g.Us.Targets.answers c.args.others.now) (g.Us.Targets.answers c.run-other.new.updates)
      (g.L.Link.wire c.args.link.now) (g.L.Link.wire c.run-one.new.link) (g.M.Link.wire c.args.other.now) (g.M.Link.wire c.run-other.new.link)
      (g.L.Link.faults c.args.link.now) (g.L.Link.faults c.run-one.new.link) (g.M.Link.faults c.args.other.now) (g.M.Link.faults c.run-other.new.link)
      c.run-one.result c.run-other.result c.run-one.ensures.laws same told other c.run-one.ensures.ran c.run-other.ensures.ran;
}

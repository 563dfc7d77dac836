use Rattle.std.proofs.Common.{sym}
use Rattle.sync_client.proofs.Heeding.{heeds_not, heeds_none, heeds_named}
use Rattle.sync_client.proofs.steps.heed.Goals as goal

pub returns-then-is_settled-clause-heeds : goal.returns-then-is_settled-clause-heeds
returns-then-is_settled-clause-heeds g c = heeds_not c.args.collector.now (g.Ts.Targets.answers c.args.updates.now) tt (sym c.if-is_settled.ensures.value)

pub returns-in-None-clause-heeds : goal.returns-in-None-clause-heeds
returns-in-None-clause-heeds g c = heeds_none c.args.collector.now (g.Ts.Targets.answers c.args.updates.now) (g.Ts.Targets.answers c.next.new.self) c.next.result tt (sym c.if-is_settled.ensures.value) c.next.ensures.gives c.in-None.is c.next.ensures.leaves

pub returns-in-Some-clause-heeds : goal.returns-in-Some-clause-heeds
returns-in-Some-clause-heeds g c = heeds_named c.args.collector.now c.take_target.new.collector (g.Ts.Targets.answers c.args.updates.now) (g.Ts.Targets.answers c.next.new.self) c.next.result c.in-Some.target (sym c.if-is_settled.ensures.value) c.next.ensures.gives c.in-Some.is c.next.ensures.leaves c.take_target.result c.take_target.ensures.takes

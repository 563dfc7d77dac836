use Rattle.std.proofs.Common.{◌≡◌, ◌≤◌, ◌+◌, length}
use Rattle.std.specs.Arc.{arc_value}
use Rattle.std.specs.List.{All}
use Rattle.std.specs.Prelude.{IfSome}
use Rattle.sync_shared.specs.Replies.{Belongs}
use Rattle.ledger_serve.specs.Growing.{Grown}
use Rattle.ledger_serve.specs.Links.{Took}
use Rattle.ledger_serve.proofs.full.start_all.Given as goal

-- so many links were taken, sessions started and batches appended, and a pass is left for each of the others
abbrev pub invariant-links : goal.invariant-links
invariant-links g l =
    record {
      later : g.Li.Listener.faults l.fn.listener ≤ g.Li.Listener.faults l.listener;
      started : g.Sp.Spawner.started l.spawner ≡ l.number;
      took : Took l.number (g.Li.Listener.coming l.fn.listener) (g.Li.Listener.coming l.listener);
      left : length l.passes.items + l.number ≡ l.count;
      all : All (Belongs (arc_value l.common.log).from) l.passes.items;
      grown : IfSome l.own (Grown g.F.Family.floor_of g.F.Family.commit_of g.F.ExampleFamily.test_of g.F.ExampleFamily.test_commit_of (arc_value l.common.log).from l.common.growth l.number);
    }

use Rattle.std.proofs.Common.{◌≡◌, ◌≤◌}
use Rattle.ledger_serve.specs.Links.{Took}
use Rattle.ledger_serve.proofs.compact.start_all.Given as goal

-- so many links were taken, and sessions started
abbrev pub invariant-links : goal.invariant-links
invariant-links g l =
    record {
      later : g.Li.Listener.faults l.fn.listener ≤ g.Li.Listener.faults l.listener;
      started : g.Sp.Spawner.started l.spawner ≡ l.number;
      took : Took l.number (g.Li.Listener.coming l.fn.listener) (g.Li.Listener.coming l.listener);
    }

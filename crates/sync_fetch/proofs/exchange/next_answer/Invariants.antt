use Rattle.std.proofs.Common.{◌≡◌, ◌-◌, ◌<◌, ◌≤◌, false, ℕ, List, [], length, IsTrue}
use Rattle.ledger_codec.specs.Sequences.{string_written}
use Rattle.sync_net.specs.Core.{LogData}
use Rattle.sync_client.specs.Ending.{Since}
use Rattle.sync_fetch.specs.Served.{IsDue}
use Rattle.sync_fetch.specs.Told.{fed, IsDrawn}
use Rattle.sync_fetch.proofs.exchange.next_answer.Given as goal

abbrev pub invariant-loop-answer : goal.invariant-loop-answer
invariant-loop-answer g l =
    record {
      room : 0 < length l.buffer;
      most : length l.buffer ≤ 4096;
      later : g.L.Link.faults l.fn.link ≤ g.L.Link.faults l.link;
      exact : IsTrue g.L.Link.exact → g.L.Link.faults l.link ≡ g.L.Link.faults l.fn.link;
      steady : g.L.Link.steady l.fn.link → g.L.Link.steady l.link × (g.L.Link.faults l.link ≡ g.L.Link.faults l.fn.link);
      given : (given : List ℕ) × (l.machine ≡ fed l.fn.machine given) × Since (g.L.Link.wire l.fn.link) (g.L.Link.wire l.link) given false [] × IsDrawn l.fn.machine.held given;
      serving : (held : LogData) (body : List ℕ) → length body ≤ 10485760 → IsDue held (string_written body) l.fn.machine.held (g.L.Link.service l.fn.link) → IsDue held (string_written body) l.machine.held (g.L.Link.service l.link);
    }

abbrev pub decreases-loop-answer : goal.decreases-loop-answer
decreases-loop-answer g l = 10485766 - length l.machine.held

use Rattle.std.proofs.Common.{◌≡◌, ◌-◌, ◌<◌, ◌≤◌, false, ℕ, List, [], ◌∷◌, length, IsTrue, Ok}
use Rattle.ledger_codec.specs.Sequences.{all_of, string_written}
use Rattle.sync_net.specs.declared.ask.Pending.{Pending}
use Rattle.sync_net.specs.declared.message.Message.{Message}
use Rattle.sync_net.specs.Core.{LogData}
use Rattle.sync_net.specs.Messages.{message_at}
use Rattle.sync_net.specs.Numbered.{number_of}
use Rattle.sync_fetch.specs.Served.{IsDue}
use Rattle.sync_fetch.proofs.Waiting.{Waited}
use Rattle.sync_fetch.proofs.exchange.await_reply.Given as goal

abbrev pub invariant-loop-message : goal.invariant-loop-message
invariant-loop-message g l =
    record {
      room : 0 < length l.buffer;
      most : length l.buffer ≤ 4096;
      live : l.machine.closed ≡ false;
      strays : l.strays ≤ 1024;
      later : g.L.Link.faults l.fn.link ≤ g.L.Link.faults l.link;
      exact : IsTrue g.L.Link.exact → g.L.Link.faults l.link ≡ g.L.Link.faults l.fn.link;
      steady : g.L.Link.steady l.fn.link → g.L.Link.steady l.link × (g.L.Link.faults l.link ≡ g.L.Link.faults l.fn.link);
      waited : (p : Pending) → l.fn.machine.pending ≡ p ∷ [] → Waited g.Op.Spell.reading p l.fn.machine l.machine (g.L.Link.wire l.fn.link) (g.L.Link.wire l.link) (g.L.Link.faults l.fn.link) (g.L.Link.faults l.link) l.strays;
      serving : (held : LogData) (p : Pending) (body : List ℕ) (reply : Message g.row.Op.Denot) → length body ≤ 10485760 → all_of (message_at g.Op.Spell.reading) body ≡ Ok reply → p.number ≡ number_of reply → l.fn.machine.pending ≡ p ∷ [] → IsDue held (string_written body) l.fn.machine.held (g.L.Link.service l.fn.link) → IsDue held (string_written body) l.machine.held (g.L.Link.service l.link) × (l.machine.pending ≡ p ∷ []);
    }

abbrev pub decreases-loop-message : goal.decreases-loop-message
decreases-loop-message g l = 1025 - l.strays

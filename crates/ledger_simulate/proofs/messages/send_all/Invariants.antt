use Rattle.std.proofs.Common.{◌≡◌, ◌++◌}
use Rattle.std.specs.Vec.Iter.{into_iter_items}
use Rattle.simulate_parts.specs.Seats.{runs}
use Rattle.ledger_simulate.specs.Links.{link_of}
use Rattle.ledger_simulate.specs.Messages.{delivered, lets_through}
use Rattle.ledger_simulate.proofs.messages.send_all.Given as goal

abbrev pub invariant-loop-message : goal.invariant-loop-message
invariant-loop-message g l = record {
  words :
      (delivered (lets_through l.rules.max_size l.rules.channels.items (runs l.seats.entries) l.from) (link_of l.links l.from) l.words l.from (into_iter_items l.message-iterator)).1
      ≡ (delivered (lets_through l.rules.max_size l.rules.channels.items (runs l.seats.entries) l.from) (link_of l.links l.from) l.initial.words l.from l.fn.messages.items).1;
  events :
      l.agenda.events ++ (delivered (lets_through l.rules.max_size l.rules.channels.items (runs l.seats.entries) l.from) (link_of l.links l.from) l.words l.from (into_iter_items l.message-iterator)).0
      ≡ l.initial.agenda.events ++ (delivered (lets_through l.rules.max_size l.rules.channels.items (runs l.seats.entries) l.from) (link_of l.links l.from) l.initial.words l.from l.fn.messages.items).0;
  next : l.agenda.next ≡ l.initial.agenda.next;
}

-- The events that are still to come, and those that a step makes.
use Rattle.std.specs.Prelude.{◌<◌, ℕ, ◌+◌, ◌-◌, ◌^◌, min, All, List, [], ◌∷◌, Option, option_map, slice_get}
use Rattle.std.specs.Ordering.{nat_cmp, ordering_then}
use Rattle.std.specs.declared.cmp.Ordering.{Ordering}
use Rattle.std.specs.BTreeMap.{insert_entry}
use Rattle.ledger_simulate.specs.declared.event.Event.{Event}

-- events by time and number, in ascending order, and the number that the next one takes
pub record QueueView : Type 0 where
  pub entries : List ((ℕ × ℕ) × Event)
  pub next : ℕ

-- the events that a step has made, with their delays, and the number of the first of them
pub record AgendaView : Type 0 where
  pub next : ℕ
  pub events : List (ℕ × Event)

-- the order of events: by time, then by number
abbrev pub key_cmp : ℕ × ℕ → ℕ × ℕ → Ordering
key_cmp a b = ordering_then (nat_cmp a.0 b.0) (nat_cmp a.1 b.1)

-- each event's number is below this one
abbrev pub NumberedBelow : ℕ → List ((ℕ × ℕ) × Event) → Type 0
NumberedBelow n entries = All (λ e. e.0.1 < n) entries

-- the time and the number of the first event
abbrev pub first_key : QueueView → Option (ℕ × ℕ)
first_key q = option_map (λ e. e.0) (slice_get q.entries 0)

-- with one event more, which takes the next number
abbrev pub queued : QueueView → ℕ × Event → QueueView
queued q e = record { entries = insert_entry key_cmp q.entries (e.0, q.next) e.1; next = q.next + 1 }

-- the time so much later, at the end of time at the latest
abbrev pub later : ℕ → ℕ → ℕ
later now delay = min (now + delay) (2 ^ 64 - 1)

-- with these events more, in order, each so long after now
abbrev pub queued_all : QueueView → ℕ → List (ℕ × Event) → QueueView
queued_all q now [] = q
queued_all q now (e ∷ es) = queued_all (queued q (later now e.0, e.1)) now es

-- a queue of nothing
abbrev pub empty_queue : QueueView
empty_queue = record { entries = []; next = 0 }

-- no events made yet, and the number that the first one takes
abbrev pub empty_agenda : ℕ → AgendaView
empty_agenda n = record { next = n; events = [] }

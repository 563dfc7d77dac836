-- A machine and a collector together are a session's state.
use Rattle.std.specs.Prelude.{◌≡◌, ℕ, ◌+◌, true, List, [], ◌∷◌, map, All, Option}
use Rattle.std.specs.declared.ops.Range.{Range}
use Rattle.ledger_log.specs.declared.target.Target.{Target}
use Rattle.sync_net.specs.declared.ask.Ask.{Ask as Request}
use Rattle.sync_net.specs.declared.ask.Ask.TheVariants as requests
use Rattle.sync_net.specs.declared.ask.Pending.{Pending}
use Rattle.sync_net.specs.Asks.{is_operations}
use Rattle.sync_net.specs.View.{MachineView}
use Rattle.sync_client.specs.declared.asked.Asked.{Asked}
use Rattle.sync_client.specs.Collected.{Collected, ranges_of}
use Rattle.sync_client.specs.Session.{Ask, State}

-- the range of a request for operations
abbrev pub range_of : Request → Range ℕ
range_of (requests.Operations op_count start_loc max_ops pinned) = record { start = start_loc; end = start_loc + max_ops.value }
range_of requests.SyncTarget = record { start = 0; end = 0 }
range_of requests.CompactTarget = record { start = 0; end = 0 }
range_of (requests.CompactState target) = record { start = 0; end = 0 }

-- what was asked under the number of a pending request
abbrev pub ask_of : Pending → Asked → Ask
ask_of p a = record { number = p.number; range = a.range; target = a.target }

-- pending requests as asks: one by one with what was asked
abbrev pub asks_of : List Pending → List Asked → List Ask
asks_of [] asked = []
asks_of (p ∷ ps) [] = []
asks_of (p ∷ ps) (a ∷ asked) = ask_of p a ∷ asks_of ps asked

-- what a session keeps beside its machine and collector: the strays, and the answers on later targets that are to come
pub record Beside : Type 0 where
  pub strays : ℕ
  pub updates : List (Option Target)

-- so many strays, and these answers
abbrev pub beside : ℕ → List (Option Target) → Beside
beside strays updates = record { strays = strays; updates = updates }

-- the state that a machine and a collector are, with what is beside them
abbrev pub seen : {Op : Type 0} → MachineView → Collected Op → Beside → State Op
seen m c b = record { plan = c.plan; next = m.next; pending = asks_of m.pending c.pending; fresh = c.fresh; rests = c.rests; strays = b.strays; pinned = c.pinned; kept = c.kept; updates = b.updates }

-- a request for operations
abbrev pub IsForOperations : Pending → Type 0
IsForOperations p = is_operations p.ask ≡ true

-- the collector's pending ranges are those of the machine's requests
pub record Paired {Op : Type 0} (m : MachineView) (c : Collected Op) : Type 0 where
  pub ranges : ranges_of c.pending ≡ map (λ (p : Pending). range_of p.ask) m.pending
  pub operations : All IsForOperations m.pending
